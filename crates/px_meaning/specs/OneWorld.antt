-- A run on one world, up to its first parallel loop.
use Rattle.std.specs.Prelude.{ℕ, List, [], ◌∷◌, replicate, Option, Some, None}
use Rattle.px_tree.specs.declared.typed_modules.Typed.{Typed}
use Rattle.px_model.specs.declared.stores.Store.{Store}
use Rattle.px_model.specs.declared.outcomes.End.{End}
use Rattle.px_model.specs.declared.outcomes.Outcome.{Outcome}
use Rattle.px_meaning.specs.Interactions.{Interaction, done, load, put, fill, copy, make, released, enter, leave, loop, LoopEntry}
use Rattle.px_meaning.specs.Ends.{Ends, Flow}
use Rattle.px_meaning.specs.Calls.{Source}
use Rattle.px_meaning.specs.Modules.{source_of, module_run, end_of}
use Rattle.px_meaning.specs.Worlds.{World, with_writes, with_release, with_stored, fill_writes, copy_writes}

-- how a run ends on one world: with a value, or at a parallel loop
pub data Together (A : Type 0) : Type 0 where
  ended : A → World → Together A
  at_loop : LoopEntry → World → Together A

abbrev pub together : {A : Type 0} → Interaction A → World → Together A
together (done a) w = ended a w
together (load cell k) w = together (k (w.words cell)) w
together (put cell word t) w = together t (with_writes ((cell, word) ∷ []) w)
together (fill cells word t) w = together t (with_writes (fill_writes cells word) w)
together (copy pairs from to t) w = together t (with_writes (copy_writes pairs from to w.words) w)
together (make buffer size t) w = together t w
together (released buffer t) w = together t (with_release buffer w)
together (enter k) w = together (k w.store) w
together (leave store t) w = together t (with_stored store w)
together (loop entry k) w = at_loop entry w

-- The world in which a run begins: no object, no output, and the whole input; each cell that is made is 0.

abbrev pub first_store : ℕ → List ℕ → Store
first_store names input =
    record { objects = []; names = replicate names None; output = []; input = input; elements = 0; buffers = 0 }

abbrev pub first_world : ℕ → List ℕ → World
first_world names input = record { words = λ cell. 0; store = first_store names input; released = [] }

-- The outcome of a run that has ended: a module's code ends, raises a fault or runs out of turns.

abbrev pub outcome : End → World → Outcome
outcome end w = record { end = end; output = w.store.output; released = w.released }

abbrev pub outcome_from : Option End → World → Option Outcome
outcome_from None w = None
outcome_from (Some end) w = Some (outcome end w)

abbrev pub outcome_of : Ends Flow → World → Option Outcome
outcome_of ends w = outcome_from (end_of ends) w

abbrev pub outcome_together : Together (Ends Flow) → Option Outcome
outcome_together (ended ends w) = outcome_of ends w
outcome_together (at_loop entry w) = None

-- What a module does on this input, with so many turns and a team of so many members, where it comes to no parallel loop. One that comes
-- to a loop, or to what has no meaning, has none here.
unfoldable pub meaning_in : Source → List ℕ → ℕ → ℕ → Option Outcome
meaning_in source input turns members = outcome_together (together (module_run source turns members) (first_world source.names input))

-- what a typed module does
abbrev pub meaning_of_module : Typed → List ℕ → ℕ → ℕ → Option Outcome
meaning_of_module typed input turns members = meaning_in (source_of typed) input turns members
