-- A run along journals: the meaning of a module.
use Rattle.std.specs.Prelude.{◌≡◌, ℕ, List, [], ◌∷◌, Some}
use Rattle.px_base.specs.declared.c_types.CType.{CType}
use Rattle.px_model.specs.declared.cells.Cell.{Cell}
use Rattle.px_model.specs.declared.stores.Store.{Store}
use Rattle.px_model.specs.declared.journals.Journal.{Journal}
use Rattle.px_model.specs.declared.outcomes.Outcome.{Outcome}
use Rattle.px_meaning.specs.Interactions.{Interaction, done, load, put, fill, copy, make, released, enter, leave, loop, LoopEntry, LoopReport}
use Rattle.px_meaning.specs.Ends.{Ends, Flow}
use Rattle.px_meaning.specs.Iterations.{LoopBodies}
use Rattle.px_meaning.specs.Journals.{LoopAlong}
use Rattle.px_meaning.specs.Calls.{Source}
use Rattle.px_tree.specs.declared.typed_modules.Typed.{Typed}
use Rattle.px_meaning.specs.Modules.{source_of, module_run}
use Rattle.px_meaning.specs.OneWorld.{first_world, outcome_of}
use Rattle.px_meaning.specs.Worlds.{World, with_writes, with_release, with_stored, fill_writes, copy_writes}

-- A run on a world ends so, where the j-th loop that it comes to goes along the j-th journal, which is lawful, and each journal is used.
pub data Along {A : Type 0} (bodies : LoopBodies) : Interaction A → World → List Journal → A → World → Type 0 where
  at_end : {a : A} {w : World} → Along bodies (done a) w [] a w
  loads : {cell : Cell} {k : ℕ → Interaction A} {w v : World} {journals : List Journal} {a : A}
      → Along bodies (k (w.words cell)) w journals a v → Along bodies (load cell k) w journals a v
  puts : {cell : Cell} {word : ℕ} {t : Interaction A} {w v : World} {journals : List Journal} {a : A}
      → Along bodies t (with_writes ((cell, word) ∷ []) w) journals a v → Along bodies (put cell word t) w journals a v
  fills : {cells : List Cell} {word : ℕ} {t : Interaction A} {w v : World} {journals : List Journal} {a : A}
      → Along bodies t (with_writes (fill_writes cells word) w) journals a v → Along bodies (fill cells word t) w journals a v
  copies : {pairs : List (Cell × Cell)} {from to : CType} {t : Interaction A} {w v : World} {journals : List Journal} {a : A}
      → Along bodies t (with_writes (copy_writes pairs from to w.words) w) journals a v
      → Along bodies (copy pairs from to t) w journals a v
  makes : {buffer size : ℕ} {t : Interaction A} {w v : World} {journals : List Journal} {a : A}
      → Along bodies t w journals a v → Along bodies (make buffer size t) w journals a v
  releases : {buffer : ℕ} {t : Interaction A} {w v : World} {journals : List Journal} {a : A}
      → Along bodies t (with_release buffer w) journals a v → Along bodies (released buffer t) w journals a v
  enters : {k : Store → Interaction A} {w v : World} {journals : List Journal} {a : A}
      → Along bodies (k w.store) w journals a v → Along bodies (enter k) w journals a v
  leaves : {store : Store} {t : Interaction A} {w v : World} {journals : List Journal} {a : A}
      → Along bodies t (with_stored store w) journals a v → Along bodies (leave store t) w journals a v
  loops : {entry : LoopEntry} {k : LoopReport → Interaction A} {w u v : World} {journal : Journal} {journals : List Journal}
      {report : LoopReport} {a : A} → LoopAlong bodies entry w journal report u → Along bodies (k report) u journals a v
      → Along bodies (loop entry k) w (journal ∷ journals) a v

-- What a module does on this input, with so many turns and a team of so many members, along these journals of its parallel loops. The
-- bodies of its loops are given beside it.
pub record Meaning (bodies : LoopBodies) (source : Source) (input : List ℕ) (turns members : ℕ) (journals : List Journal)
    (outcome : Outcome) : Type 0 where
  pub ends : Ends Flow
  pub world : World
  pub along : Along bodies (module_run source turns members) (first_world source.names input) journals ends world
  pub gives : outcome_of ends world ≡ Some outcome

-- what a typed module does along journals
abbrev pub MeaningOfModule : LoopBodies → Typed → List ℕ → ℕ → ℕ → List Journal → Outcome → Type 0
MeaningOfModule bodies typed input turns members journals outcome = Meaning bodies (source_of typed) input turns members journals outcome
