use Rattle.px_exprs.proofs.NodeLaws.{numbers_distinct}
use Rattle.px_exprs.proofs.laws.node_numbers_are_distinct.Goals as goal

pub returns : goal.returns
returns c = numbers_distinct
