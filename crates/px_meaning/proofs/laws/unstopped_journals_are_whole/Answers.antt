use Rattle.px_meaning.proofs.Whole.{unstopped_are_whole as law}
use Rattle.px_meaning.proofs.laws.unstopped_journals_are_whole.Goals as goal

pub returns : goal.returns
returns c = law
