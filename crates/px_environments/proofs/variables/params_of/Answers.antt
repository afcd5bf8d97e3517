use Rattle.std.proofs.Common.{[], ◌∷◌, ◌++◌, ap, ◌∙◌}
use Rattle.px_tree.specs.declared.typed_values.ValueType.{ValueType}
use Rattle.px_environments.specs.Signatures.{value_type_of}
use Rattle.px_environments.proofs.Gathered.{map_step}
use Rattle.px_environments.proofs.Parts.{drop_here}
use Rattle.px_environments.proofs.variables.params_of.Goals as goal

pub loop-param-preserved : goal.loop-param-preserved
loop-param-preserved c =
    let params = c.args.function.now.params in
    let k = c.loop-param.param-index in
    let param = c.param-item.result in
    map_step value_type_of params k param c.loop-param.types c.push.new.self
    (drop_here c.as_slice-param-items.result.now params k param c.as_slice-param-items.ensures c.loop-param-test.true c.param-item.is)
    (c.in_ok-push.ensures.ok ∙ ap (λ (t : ValueType). c.loop-param.types ++ t ∷ []) c.value_type_of.ensures)
    ∙ c.loop-param.invariant
