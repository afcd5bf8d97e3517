use Rattle.px_meaning.proofs.Runs.{unique as law}
use Rattle.px_meaning.proofs.laws.meanings_are_unique.Goals as goal

pub returns : goal.returns
returns c = law
