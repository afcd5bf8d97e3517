use Rattle.px_parser.proofs.ModuleLaws.{parsing_unique}
use Rattle.px_parser.proofs.laws.parsing_is_unique.Goals as goal

pub returns : goal.returns
returns c = parsing_unique
