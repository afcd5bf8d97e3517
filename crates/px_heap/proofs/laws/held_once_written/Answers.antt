use Rattle.px_heap.proofs.HeldSteps.{written_held}
use Rattle.px_heap.proofs.laws.held_once_written.Goals as goal

pub returns : goal.returns
returns c = written_held c.args.old.now c.args.new.now c.args.of c.args.value.now c.args.was.now c.args.rest.now c.requires.held c.requires.written c.requires.live c.requires.inner
