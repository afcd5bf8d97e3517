use Rattle.px_exprs.proofs.NameLaws.{names_are_expressions}
use Rattle.px_exprs.proofs.laws.names_are_expressions.Goals as goal

pub returns : goal.returns
returns c = names_are_expressions
