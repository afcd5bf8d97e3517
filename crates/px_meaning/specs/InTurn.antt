-- Iterations with lock sections, one after another on one world, as one member runs them.
use Rattle.std.specs.Prelude.{◌≡◌, ℕ, List, [], ◌∷◌}
use Rattle.px_model.specs.declared.stores.Store.{Store}
use Rattle.px_meaning.specs.Interactions.{Interaction, done, load, put, fill, copy, make, released, enter, leave, loop}
use Rattle.px_meaning.specs.Ends.{Ends, Flow}
use Rattle.px_meaning.specs.Iterations.{Alone, Reached, waits, alone}
use Rattle.px_meaning.specs.Iterations as reaching
use Rattle.px_meaning.specs.OneWorld.{Together, together}
use Rattle.px_meaning.specs.OneWorld as order
use Rattle.px_meaning.specs.Worlds.{Words, Write, written, fill_writes, copy_writes, World}

-- a run that comes to no loop of its own and in which no buffer is released, whatever is answered
abbrev pub IsQuiet : {A : Type 0} → Interaction A → Type 0
IsQuiet (done a) = Unit {0}
IsQuiet (load cell k) = (word : ℕ) → IsQuiet (k word)
IsQuiet (put cell word t) = IsQuiet t
IsQuiet (fill cells word t) = IsQuiet t
IsQuiet (copy pairs from to t) = IsQuiet t
IsQuiet (make buffer size t) = IsQuiet t
IsQuiet (released buffer t) = ⊥
IsQuiet (enter k) = (store : Store) → IsQuiet (k store)
IsQuiet (leave store t) = IsQuiet t
IsQuiet (loop entry k) = ⊥

-- the stores with which the sections of a run begin where nobody else has the lock between them
abbrev pub starts_in_turn : {A : Type 0} → Interaction A → Words → Store → List Store
starts_in_turn (done a) words store = []
starts_in_turn (load cell k) words store = starts_in_turn (k (words cell)) words store
starts_in_turn (put cell word t) words store = starts_in_turn t (written ((cell, word) ∷ []) words) store
starts_in_turn (fill cells word t) words store = starts_in_turn t (written (fill_writes cells word) words) store
starts_in_turn (copy pairs from to t) words store = starts_in_turn t (written (copy_writes pairs from to words) words) store
starts_in_turn (make buffer size t) words store = starts_in_turn t words store
starts_in_turn (released buffer t) words store = starts_in_turn t words store
starts_in_turn (enter k) words store = store ∷ starts_in_turn (k store) words store
starts_in_turn (leave left t) words store = starts_in_turn t words left
starts_in_turn (loop entry k) words store = []

-- the store that the last of some sections left
abbrev pub last_left : List Store → Store → Store
last_left [] store = store
last_left (left ∷ lefts) store = last_left lefts left

abbrev pub reached_in_turn : {A : Type 0} → Reached A → List Write → List Store → World → Together A → Type 0
reached_in_turn waits writes left w end = ⊥
reached_in_turn (reaching.ended a) writes left w end =
    end ≡ order.ended a (record w { words = written writes w.words; store = last_left left w.store })
reached_in_turn reaching.refused writes left w end = ⊥

-- One iteration alone, whose sections begin with these stores, ends as it does on one world, leaves its writes, and the store of its last
-- section.
abbrev pub SectionsInTurn : Type 0
SectionsInTurn =
    (t : Interaction (Ends Flow)) (w : World) → IsQuiet t
    → (let a : Alone (Ends Flow) = alone t w.words (starts_in_turn t w.words w.store) in
    reached_in_turn a.reached a.writes a.left w (together t w))
