use Rattle.px_heap.proofs.HeldSteps.{dropped_held}
use Rattle.px_heap.proofs.laws.held_once_dropped.Goals as goal

pub returns : goal.returns
returns c = dropped_held c.args.old.now c.args.new.now c.args.of c.args.rest.now c.requires.held c.requires.dropped
