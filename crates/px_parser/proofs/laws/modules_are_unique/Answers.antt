use Rattle.px_parser.proofs.ModuleLaws.{modules_unique}
use Rattle.px_parser.proofs.laws.modules_are_unique.Goals as goal

pub returns : goal.returns
returns c = modules_unique
