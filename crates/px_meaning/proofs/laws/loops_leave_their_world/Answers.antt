use Rattle.px_meaning.proofs.Plain.{loops_leave_their_world as law}
use Rattle.px_meaning.proofs.laws.loops_leave_their_world.Goals as goal

pub returns : goal.returns
returns c = law
