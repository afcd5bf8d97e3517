use Rattle.px_heap.proofs.HeldSteps.{made_held}
use Rattle.px_heap.proofs.laws.held_once_made.Goals as goal

pub returns : goal.returns
returns c = made_held c.args.old.now c.args.new.now c.args.value.now c.args.of c.args.rest.now c.requires.held c.requires.made
