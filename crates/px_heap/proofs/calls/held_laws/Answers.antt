use Rattle.px_heap.proofs.HeldSteps.{made_held, shared_held, dropped_held, written_held}
use Rattle.px_heap.proofs.calls.held_laws.Goals as goal

pub returns-clause-made : goal.returns-clause-made
returns-clause-made c = made_held

pub returns-clause-shared : goal.returns-clause-shared
returns-clause-shared c = shared_held

pub returns-clause-dropped : goal.returns-clause-dropped
returns-clause-dropped c = dropped_held

pub returns-clause-written : goal.returns-clause-written
returns-clause-written c = written_held
