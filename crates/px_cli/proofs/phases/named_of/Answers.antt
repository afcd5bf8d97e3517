use Rattle.px_cli.specs.Phases.{IsTextRefused}
use Rattle.px_cli.proofs.PhaseLemmas.{named_for}
use Rattle.px_cli.proofs.RefusalLemmas.{refused_for}
use Rattle.px_cli.proofs.phases.named_of.Goals as goal

pub returns-clause-named : goal.returns-clause-named
returns-clause-named c = named_for c.args.text.now c.in_ok-module.module c.names.result c.in_ok-module.ensures.parsed c.names.ensures.accepted c.names.ensures.clean

pub returns-clause-refused : goal.returns-clause-refused
returns-clause-refused c = refused_for c.names.result c.names.ensures.refused (λ refusal h command. IsTextRefused.bad_names c.in_ok-module.module c.in_ok-module.ensures.parsed h)
