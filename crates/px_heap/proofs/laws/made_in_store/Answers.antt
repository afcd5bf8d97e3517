use Rattle.px_heap.proofs.StoreSteps.{made_there}
use Rattle.px_heap.proofs.laws.made_in_store.Goals as goal

pub returns : goal.returns
returns c = made_there c.args.old.now c.args.new.now c.args.value.now c.args.of c.args.store.now c.requires.stands c.requires.made
