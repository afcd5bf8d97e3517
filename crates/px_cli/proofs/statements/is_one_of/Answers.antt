use Rattle.std.proofs.Common.{sym, subst}
use Rattle.px_cli.proofs.NameLemmas.{Searched, searched}
use Rattle.px_cli.proofs.statements.is_one_of.Goals as goal

pub returns : goal.returns
returns c = subst (λ r. Searched c.args.names.now c.args.name.now r) (sym c.contains.ensures.value) (searched c.args.names.now c.args.name.now)
