use Rattle.px_heap.proofs.StoreSteps.{dropped_there}
use Rattle.px_heap.proofs.laws.dropped_in_store.Goals as goal

pub returns : goal.returns
returns c = dropped_there c.args.old.now c.args.new.now c.args.of.number c.args.store.now c.requires.stands c.requires.dropped
