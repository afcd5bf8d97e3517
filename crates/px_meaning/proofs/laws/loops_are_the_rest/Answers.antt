use Rattle.px_meaning.proofs.Runs.{the_rest as law}
use Rattle.px_meaning.proofs.laws.loops_are_the_rest.Goals as goal

pub returns : goal.returns
returns c = law
