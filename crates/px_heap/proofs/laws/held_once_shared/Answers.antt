use Rattle.px_heap.proofs.HeldSteps.{shared_held}
use Rattle.px_heap.proofs.laws.held_once_shared.Goals as goal

pub returns : goal.returns
returns c = shared_held c.args.old.now c.args.new.now c.args.of c.args.rest.now c.requires.live c.requires.held c.requires.shared c.requires.inner
