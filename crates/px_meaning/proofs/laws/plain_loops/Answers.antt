use Rattle.px_meaning.proofs.Plain.{plain_loops as law}
use Rattle.px_meaning.proofs.laws.plain_loops.Goals as goal

pub returns : goal.returns
returns c = law
