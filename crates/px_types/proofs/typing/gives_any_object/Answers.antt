use Rattle.std.proofs.Common.{map, refl, sym, ap, ◌∙◌, arith}
use Rattle.std.specs.List.{list_any}
use Rattle.std.proofs.lemmas.Option.{slice_get_read}
use Rattle.px_types.specs.TypedModule.{FunctionTypes, gives_object, function_kept}
use Rattle.px_types.proofs.StatementLoops.{drop_whole}
use Rattle.px_types.proofs.ModuleSteps.{any_passed, any_found, any_none}
use Rattle.px_types.proofs.typing.gives_any_object.Goals as goal

pub loop-function-init : goal.loop-function-init
loop-function-init c = ap (λ fs. list_any (λ (f : FunctionTypes). gives_object f.gives) (map function_kept fs)) (drop_whole c.args.functions.now)

pub loop-function-preserved : goal.loop-function-preserved
loop-function-preserved c =
    any_passed function_kept (λ (f : FunctionTypes). gives_object f.gives) c.args.functions.now c.loop-function.function-index c.function-item.result
    (slice_get_read _ _ _ _ refl c.loop-function-test.true c.function-item.is) (sym c.gives_object.ensures ∙ c.if-gives_object.false)
    ∙ c.loop-function.invariant

pub returns-then-gives_object : goal.returns-then-gives_object
returns-then-gives_object c =
    sym (any_found function_kept (λ (f : FunctionTypes). gives_object f.gives) c.args.functions.now c.loop-function.function-index c.function-item.result
    (slice_get_read _ _ _ _ refl c.loop-function-test.true c.function-item.is) (sym c.gives_object.ensures ∙ c.if-gives_object.true))
    ∙ c.loop-function.invariant

pub returns : goal.returns
returns c =
    sym (any_none function_kept (λ (f : FunctionTypes). gives_object f.gives) c.args.functions.now c.loop-function.function-index c.loop-function-test.false)
    ∙ c.loop-function.invariant
