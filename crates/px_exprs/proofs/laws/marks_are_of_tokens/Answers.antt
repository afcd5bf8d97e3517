use Rattle.px_exprs.proofs.MarkLaws.{marks_of_tokens}
use Rattle.px_exprs.proofs.laws.marks_are_of_tokens.Goals as goal

pub returns : goal.returns
returns c = marks_of_tokens
