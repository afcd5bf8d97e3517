use Rattle.std.proofs.Common.{ℕ, List}
use Rattle.std.proofs.lemmas.Result.{err_from_is_err_and}
use Rattle.px_names.specs.declared.named.Named.{Named}
use Rattle.px_cli.specs.Phases.{IsTextRefused}
use Rattle.px_cli.proofs.RefusalLemmas.{refused_weaker, done_for, refused_for}
use Rattle.px_cli.proofs.phases.output_of.Goals as goal

pub returns-in_err-named-clause-refused : goal.returns-in_err-named-clause-refused
returns-in_err-named-clause-refused c =
    let p = err_from_is_err_and c.from_residual.result c.from_residual.ensures.1 in
    rw (p.1, p.2) (refused_weaker Named (List ℕ) c.in_err-named.field-0.0 c.in_err-named.ensures.refused (λ refusal h. h c.args.command))

pub returns-clause-done : goal.returns-clause-done
returns-clause-done c =
    done_for c.output_for.result c.output_for.ensures.done (λ output h. record { named = c.in_ok-named.named; is_named = c.in_ok-named.ensures.named; writes = h })

pub returns-clause-refused : goal.returns-clause-refused
returns-clause-refused c =
    refused_for c.output_for.result c.output_for.ensures.refused (λ refusal h. IsTextRefused.not_taken c.in_ok-named.named c.in_ok-named.ensures.named h)
