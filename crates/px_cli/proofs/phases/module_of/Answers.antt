use Rattle.px_cli.specs.Phases.{AreTokensOf, IsTextRefused}
use Rattle.px_cli.proofs.RefusalLemmas.{done_for, refused_for}
use Rattle.px_cli.proofs.phases.module_of.Goals as goal

pub returns-clause-parsed : goal.returns-clause-parsed
returns-clause-parsed c =
    let lexed : AreTokensOf c.args.text.now c.in_ok-found.found = record { kept = c.in_ok-found.ensures.kept; listed = c.in_ok-found.ensures.accepted } in
    done_for c.parse.result c.parse.ensures.parsed (λ m h. record { tokens = c.in_ok-found.found; lexed = lexed; parsed = h })

pub returns-clause-refused : goal.returns-clause-refused
returns-clause-refused c =
    let lexed : AreTokensOf c.args.text.now c.in_ok-found.found = record { kept = c.in_ok-found.ensures.kept; listed = c.in_ok-found.ensures.accepted } in
    refused_for c.parse.result c.parse.ensures.refused (λ refusal h command. IsTextRefused.no_module c.in_ok-found.found lexed h)
