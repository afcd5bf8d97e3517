use Rattle.std.proofs.Common.{◌∙◌}
use Rattle.std.proofs.lemmas.Result.{err_from_is_err_and}
use Rattle.px_operators.specs.Kept.{trees_kept}
use Rattle.px_types.proofs.ModuleSteps.{function_refused, function_made}
use Rattle.px_types.proofs.typed_functions.function_types.Goals as goal

pub returns-in_err-body : goal.returns-in_err-body
returns-in_err-body c =
    let p = err_from_is_err_and c.from_residual-in_err-body.result c.from_residual-in_err-body.ensures.1 in
    rw (p.1, p.2) (λ functions kept.
    function_refused (λ all. trees_kept all.items) c.args.function.now _ c.checked_body.result _
    (c.checked_body.ensures functions kept (c.as_slice.ensures ∙ c.in_ok-locals.ensures)) c.in_err-body.was)

pub returns : goal.returns
returns c = λ functions kept.
    function_made (λ all. trees_kept all.items) c.args.function.now _ c.checked_body.result c.in_ok-body.body c.in_ok-typed.typed
    (c.checked_body.ensures functions kept (c.as_slice.ensures ∙ c.in_ok-locals.ensures)) c.in_ok-body.was (c.in_ok-typed.ensures c.in_ok-locals.ensures)
