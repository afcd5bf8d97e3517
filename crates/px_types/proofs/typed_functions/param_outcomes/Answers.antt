use Rattle.std.proofs.Common.{refl, arith}
use Rattle.std.proofs.lemmas.Option.{slice_get_read}
use Rattle.px_tree.specs.declared.typed_values.ValueType.{ValueType}
use Rattle.px_operators.specs.Kept.{gathered_kept}
use Rattle.px_types.specs.TypedModule.{param_outcome}
use Rattle.px_types.proofs.StatementLoops.{from_first, from_next, from_none, all_same}
use Rattle.px_types.proofs.typed_functions.param_outcomes.Goals as goal

pub loop-param-init : goal.loop-param-init
loop-param-init c = from_first (λ (t : ValueType). t) param_outcome (gathered_kept c.new-all.result) c.args.params.now c.new-all.ensures

pub loop-param-preserved : goal.loop-param-preserved
loop-param-preserved c =
    from_next (λ (t : ValueType). t) param_outcome (gathered_kept c.loop-param.all) (gathered_kept c.take.new.self) c.args.params.now c.loop-param.param-index c.param-item.result c.param_outcome.result _
    c.loop-param.invariant (slice_get_read _ _ _ _ refl c.loop-param-test.true c.param-item.is) c.param_outcome.ensures c.in_ok-take.ensures

pub returns : goal.returns
returns c =
    all_same (λ all. all.items) c.all.result (gathered_kept c.loop-param.all) _ c.all.ensures
    (from_none (λ (t : ValueType). t) param_outcome (gathered_kept c.loop-param.all) c.args.params.now c.loop-param.param-index _ c.loop-param.invariant c.loop-param-test.false)
