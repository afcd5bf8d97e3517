use Rattle.px_meaning.proofs.MoreTurns.{more_turns_change_nothing as law}
use Rattle.px_meaning.proofs.laws.more_turns_change_nothing.Goals as goal

pub returns : goal.returns
returns c = law
