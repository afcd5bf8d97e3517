use Rattle.px_heap.proofs.StoreSteps.{written_there}
use Rattle.px_heap.proofs.laws.written_in_store.Goals as goal

pub returns : goal.returns
returns c = written_there c.args.old.now c.args.new.now c.args.of.number c.args.value.now c.args.store.now c.requires.stands c.requires.written
