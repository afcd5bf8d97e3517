-- Iterations that touch cells apart.
use Rattle.std.specs.Prelude.{◌≡◌, ◌≢◌, ◌<◌, ◌≤◌, ◌⊎◌, ℕ, zero, suc, Bool, IsTrue, List, [], ◌∷◌, ◌++◌, None}
use Rattle.std.specs.List.{range_with_len}
use Rattle.px_model.specs.declared.cells.Cell.{Cell}
use Rattle.px_model.specs.declared.journals.Journal.{Journal}
use Rattle.px_meaning.specs.Interactions.{LoopEntry, Interaction, done, load, put, fill, copy, make, released, enter, leave, loop}
use Rattle.px_meaning.specs.Ends.{Ends, Flow}
use Rattle.px_meaning.specs.Iterations.{Alone, LoopBodies, Reached, waits, alone, iteration}
use Rattle.px_meaning.specs.Iterations as reaching
use Rattle.px_meaning.specs.Journals.{Lawful, entered_in, places_ran, world_along}
use Rattle.px_meaning.specs.OneWorld.{Together, together}
use Rattle.px_meaning.specs.OneWorld as order
use Rattle.px_meaning.specs.Worlds.{Words, Write, written, World, with_writes}

-- a fact holds of all
abbrev pub AllOf : {X : Type 0} → (X → Type 0) → List X → Type 0
AllOf P [] = Unit {0}
AllOf P (x ∷ xs) = P x × AllOf P xs

-- A run without lock sections, new buffers and loops of its own, which reads the cells of R alone and writes those of W alone, whatever
-- is answered.
abbrev pub Stays : {A : Type 0} → (Cell → Type 0) → (Cell → Type 0) → Interaction A → Type 0
Stays R W (done a) = Unit {0}
Stays R W (load cell k) = R cell × ((word : ℕ) → Stays R W (k word))
Stays R W (put cell word t) = W cell × Stays R W t
Stays R W (fill cells word t) = AllOf W cells × Stays R W t
Stays R W (copy pairs from to t) = AllOf (λ pair. W pair.0 × R pair.1) pairs × Stays R W t
Stays R W (make buffer size t) = ⊥
Stays R W (released buffer t) = ⊥
Stays R W (enter k) = ⊥
Stays R W (leave store t) = ⊥
Stays R W (loop entry k) = ⊥

-- No iteration of so many writes a cell that another one reads or writes. Which cells an iteration reads and writes is told by tests.
pub record AreApart {A : Type 0} (iterations : ℕ → Interaction A) (count : ℕ) (reads writes : ℕ → Cell → Bool) : Type 0 where
  pub stays : (i : ℕ) → i < count → Stays (λ cell. IsTrue (reads i cell)) (λ cell. IsTrue (writes i cell)) (iterations i)
  pub apart : (i j : ℕ) (cell : Cell) → i < count → j < count → i ≢ j → IsTrue (writes i cell)
      → IsTrue (reads j cell) ⊎ IsTrue (writes j cell) → ⊥

-- the world behind a run
abbrev pub world_behind : {A : Type 0} → Together A → World
world_behind (order.ended a w) = w
world_behind (order.at_loop entry w) = w

-- so many iterations one after another on one world
abbrev pub in_order : {A : Type 0} → (ℕ → Interaction A) → ℕ → World → World
in_order iterations zero w = w
in_order iterations (suc n) w = world_behind (together (iterations n) (in_order iterations n w))

-- the writes that so many iterations make alone on the same words
abbrev pub writes_of_first : {A : Type 0} → (ℕ → Interaction A) → Words → ℕ → List Write
writes_of_first iterations words zero = []
writes_of_first iterations words (suc n) = writes_of_first iterations words n ++ (alone (iterations n) words []).writes

-- a run ends on one world as it does alone, and leaves its writes
abbrev pub reached_as : {A : Type 0} → Reached A → List Write → World → Together A → Type 0
reached_as waits writes w end = ⊥
reached_as (reaching.ended a) writes w end = end ≡ order.ended a (with_writes writes w)
reached_as reaching.refused writes w end = ⊥

abbrev pub EndsAs : {A : Type 0} → Alone A → World → Together A → Type 0
EndsAs a w end = reached_as a.reached a.writes w end

-- the words that an iteration alone leaves of these
abbrev pub left_alone : {A : Type 0} → Interaction A → Words → Words
left_alone t words = written (alone t words []).writes words

-- So many iterations one after another on one world do what they do alone on its words.
pub record ArePlain {A : Type 0} (iterations : ℕ → Interaction A) (writes : ℕ → Cell → Bool) (n : ℕ) (w : World) : Type 0 where
  -- each ends in its turn as it does alone, and leaves its writes
  pub value : (i : ℕ) → i < n
      → EndsAs (alone (iterations i) w.words []) (in_order iterations i w) (together (iterations i) (in_order iterations i w))
  -- all leave the opening words with their writes
  pub world : in_order iterations n w ≡ with_writes (writes_of_first iterations w.words n) w
  -- a cell that one of them writes has the word that this one leaves alone, and one that none of them writes has its opening word
  pub own : (i : ℕ) (cell : Cell) → i < n → IsTrue (writes i cell)
      → (in_order iterations n w).words cell ≡ left_alone (iterations i) w.words cell
  pub rest : (cell : Cell) → ((i : ℕ) → i < n → IsTrue (writes i cell) → ⊥) → (in_order iterations n w).words cell ≡ w.words cell

-- Iterations that are given beforehand, so that none hands variables or turns to the next one, and of which the first ones touch cells
-- apart, do one after another what they do alone.
abbrev pub PlainLoops : Type 0
PlainLoops =
    (iterations : ℕ → Interaction (Ends Flow)) (count : ℕ) (reads writes : ℕ → Cell → Bool) → AreApart iterations count reads writes
    → (n : ℕ) (w : World) → n ≤ count → ArePlain iterations writes n w

-- A loop whose iterations touch cells apart leaves the world that they leave one after another, each from the state in which the loop was
-- entered.
pub record LoopsLeaveTheirWorld : Type 0 where
  -- along a journal without sections, in which all of them ran
  pub along : (bodies : LoopBodies) (entry : LoopEntry) (w : World) (journal : Journal) (reads writes : ℕ → Cell → Bool)
      → AreApart (iteration bodies entry) entry.partition.count reads writes → journal.sections ≡ []
      → places_ran entry.partition journal ≡ range_with_len 0 entry.partition.count
      → world_along bodies entry w journal ≡ in_order (iteration bodies entry) entry.partition.count w
  -- along a lawful journal in which none of them stopped the loop
  pub lawful : (bodies : LoopBodies) (entry : LoopEntry) (w : World) (journal : Journal) (reads writes : ℕ → Cell → Bool)
      → AreApart (iteration bodies entry) entry.partition.count reads writes → Lawful (entered_in bodies entry w) journal
      → journal.stopped ≡ None → world_along bodies entry w journal ≡ in_order (iteration bodies entry) entry.partition.count w
