use Rattle.px_base.specs.Outside.{handed_limit}
use Rattle.px_base.proofs.MemoryLemmas.{hands_front}
use Rattle.px_base.proofs.memory.MemoryLibraryLibrary.module.Goals as goal

pub returns-clause-given : goal.returns-clause-given
returns-clause-given c = rw (← c.self.view_is, ← c.as_slice.ensures) c.in_ok-given.ensures

pub returns-clause-short : goal.returns-clause-short
returns-clause-short c = hands_front handed_limit _ _ c.in_ok-given.ensures
