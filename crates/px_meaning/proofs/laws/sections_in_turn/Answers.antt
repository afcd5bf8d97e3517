use Rattle.px_meaning.proofs.InTurn.{sections_in_turn as law}
use Rattle.px_meaning.proofs.laws.sections_in_turn.Goals as goal

pub returns : goal.returns
returns c = law
