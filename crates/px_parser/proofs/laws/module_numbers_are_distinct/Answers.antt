use Rattle.px_parser.proofs.NodeLaws.{module_numbers_distinct}
use Rattle.px_parser.proofs.laws.module_numbers_are_distinct.Goals as goal

pub returns : goal.returns
returns c = module_numbers_distinct
