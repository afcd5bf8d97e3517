use Rattle.std.proofs.Common.{Some, ap, ◌∙◌}
use Rattle.px_walk.specs.ModuleView.{rose_of_function}
use Rattle.px_environments.specs.Environments.{Environment}
use Rattle.px_environments.specs.Kept.{variables_kept, signatures_kept, environment_kept}
use Rattle.px_environments.specs.Signatures.{locals_of, gives_of, variable_in}
use Rattle.px_environments.specs.BuiltForms.{unbuilt_below}
use Rattle.px_environments.proofs.SameEnvironment.{same_environment}
use Rattle.px_environments.proofs.unbuilt.unbuilt_in_function.Goals as goal

pub returns : goal.returns
returns c =
    let f = c.args.function.now in
    λ functions is.
    c.unbuilt_below.ensures
    ∙ ap (λ (environment : Environment). unbuilt_below environment (rose_of_function f))
    (same_environment (environment_kept c.code_environment-environment.result) (variables_kept c.in_ok-variables.variables) (signatures_kept c.args.signatures.now) (Some c.gives_of.result)
    functions (locals_of f) (Some (gives_of f)) c.args.code.now c.code_environment-environment.ensures
    (c.in_ok-variables.ensures ∙ ap (variable_in 0) (c.as_slice.ensures ∙ c.in_ok-locals.ensures)) is (ap Some c.gives_of.ensures))
