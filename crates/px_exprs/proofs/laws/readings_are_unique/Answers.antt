use Rattle.px_exprs.proofs.RunLaws.{readings_unique}
use Rattle.px_exprs.proofs.laws.readings_are_unique.Goals as goal

pub returns : goal.returns
returns c = readings_unique
