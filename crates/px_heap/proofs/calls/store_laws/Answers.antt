use Rattle.px_heap.proofs.StoreSteps.{made_there, shared_there, dropped_there, written_there}
use Rattle.px_heap.proofs.calls.store_laws.Goals as goal

pub returns-clause-made : goal.returns-clause-made
returns-clause-made c = made_there

pub returns-clause-shared : goal.returns-clause-shared
returns-clause-shared c = shared_there

pub returns-clause-dropped : goal.returns-clause-dropped
returns-clause-dropped c = dropped_there

pub returns-clause-written : goal.returns-clause-written
returns-clause-written c = written_there
