-- Lock sections (Cython user guide, Cython and the GIL).
use Rattle.std.specs.Prelude.{Option, Some, None}
use Rattle.px_model.specs.declared.stores.Store.{Store}
use Rattle.px_meaning.specs.States.{State, holding, freed}
use Rattle.px_meaning.specs.Interactions.{Interaction, done, enter, leave, ◌>>=◌}
use Rattle.px_meaning.specs.Ends.{Ends, gives, raised, spent, meaningless}

-- gives the store back where it is held
abbrev pub given_back : {A : Type 0} → Option Store → Interaction A → Interaction A
given_back None t = t
given_back (Some store) t = leave store t

-- the end of a section, also of one in which the turns run out
abbrev pub section_end : {A : Type 0} → Ends A → Interaction (Ends A)
section_end (gives a s) = given_back s.store (done (gives a (freed s)))
section_end (raised fault s) = given_back s.store (done (raised fault (freed s)))
section_end (spent s) = given_back s.store (done (spent (freed s)))
section_end meaningless = done meaningless

-- something done with the lock; one who holds it keeps it
abbrev pub lock_from : {A : Type 0} → Option Store → (State → Interaction (Ends A)) → State → Interaction (Ends A)
lock_from None go s = enter (λ store. go (holding store s) >>= section_end)
lock_from (Some store) go s = go s

abbrev pub with_lock : {A : Type 0} → (State → Interaction (Ends A)) → State → Interaction (Ends A)
with_lock go s = lock_from s.store go s

-- the lock is taken again behind something that was done without it; a spent run does nothing any more
abbrev pub taken_again : {A : Type 0} → Ends A → Interaction (Ends A)
taken_again (gives a s) = enter (λ store. done (gives a (holding store s)))
taken_again (raised fault s) = enter (λ store. done (raised fault (holding store s)))
taken_again (spent s) = done (spent s)
taken_again meaningless = done meaningless

-- something done without the lock
abbrev pub unlock_from : {A : Type 0} → Option Store → (State → Interaction (Ends A)) → State → Interaction (Ends A)
unlock_from None go s = go s
unlock_from (Some store) go s = leave store (go (freed s) >>= taken_again)

abbrev pub without_lock : {A : Type 0} → (State → Interaction (Ends A)) → State → Interaction (Ends A)
without_lock go s = unlock_from s.store go s
