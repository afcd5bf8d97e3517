use Rattle.std.proofs.Common.{[], None, ap, refl, ◌∙◌}
use Rattle.px_base.specs.Findings.{first_of}
use Rattle.px_names.specs.NamedModule.{functions_of}
use Rattle.px_environments.specs.Environments.{Environment}
use Rattle.px_environments.specs.Kept.{variables_kept, signatures_kept, environment_kept}
use Rattle.px_environments.proofs.FirstForms.{code_first}
use Rattle.px_environments.proofs.SameEnvironment.{same_environment}
use Rattle.px_environments.proofs.unbuilt.unbuilt_in.Goals as goal

pub returns : goal.returns
returns c =
    let m = c.args.named.now.«module» in
    let functions = functions_of m in
    c.earlier.ensures
    ∙ (λ i. first_of
    ((c.unbuilt_in_code-in_code.ensures
    ∙ ap (code_first (environment_kept c.code_environment-code.result)) c.as_slice.ensures
    ∙ ap (λ (environment : Environment). code_first environment m.items)
    (same_environment (environment_kept c.code_environment-code.result) (variables_kept c.in_ok-variables.variables) (signatures_kept c.in_ok-signatures.signatures) None
    functions [] None c.args.named.now.code c.code_environment-code.ensures c.in_ok-variables.ensures c.in_ok-signatures.ensures refl)) i)
    (c.in_ok-in_functions.ensures functions c.in_ok-signatures.ensures i))
