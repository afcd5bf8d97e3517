use Rattle.px_exprs.proofs.Uniqueness.{expressions_unique}
use Rattle.px_exprs.proofs.laws.expressions_are_unique.Goals as goal

pub returns : goal.returns
returns c = expressions_unique
