-- A run as an interaction tree: it is done, or it makes a request of what it shares with others, and goes on by the answer. Cells,
-- lock sections and parallel loops are such requests; the turns, the frames and, in a lock section, the store are a run's own.
use Rattle.std.specs.Prelude.{ℕ, ℤ, List}
use Rattle.px_base.specs.declared.c_types.CType.{CType}
use Rattle.px_model.specs.Partition.{Partition}
use Rattle.px_model.specs.declared.cells.Cell.{Cell}
use Rattle.px_model.specs.declared.stores.Store.{Store}
use Rattle.px_model.specs.declared.outcomes.LoopEnd.{LoopEnd}
use Rattle.px_meaning.specs.Values.{Variable}
use Rattle.px_meaning.specs.States.{State}

-- A parallel loop that passed its tests: its place among those of the module, its iterations, members, schedule and chunksize, the
-- index at its first place and what it rises by, and the state in which it was entered.
pub record LoopEntry : Type 0 where
  pub prange : ℕ
  pub partition : Partition
  pub start : ℤ
  pub step : ℤ
  pub opening : State

-- What the function that has a loop finds behind it.
pub record LoopReport : Type 0 where
  pub end : LoopEnd
  pub variables : List Variable
  pub turns : ℕ

pub data Interaction (A : Type 0) : Type 0 where
  done : A → Interaction A
  -- the word of a cell
  load : Cell → (ℕ → Interaction A) → Interaction A
  -- a word for a cell
  put : Cell → ℕ → Interaction A → Interaction A
  -- one word for several cells
  fill : List Cell → ℕ → Interaction A → Interaction A
  -- each first cell gets the number of the second one, which is read as one of the first type and becomes one of the second; all are
  -- read before one is written
  copy : List (Cell × Cell) → CType → CType → Interaction A → Interaction A
  -- a new buffer of this number, with so many cells, all 0
  make : (buffer size : ℕ) → Interaction A → Interaction A
  -- the last holder of a buffer has gone
  released : (buffer : ℕ) → Interaction A → Interaction A
  -- a lock section begins with the store, and ends by giving it back
  enter : (Store → Interaction A) → Interaction A
  leave : Store → Interaction A → Interaction A
  -- a parallel loop that passed its tests
  loop : LoopEntry → (LoopReport → Interaction A) → Interaction A

infixl 10 ◌>>=◌
abbrev pub ◌>>=◌ : {A B : Type 0} → Interaction A → (A → Interaction B) → Interaction B
(done a) >>= go = go a
(load cell k) >>= go = load cell (λ word. k word >>= go)
(put cell word t) >>= go = put cell word (t >>= go)
(fill cells word t) >>= go = fill cells word (t >>= go)
(copy pairs from to t) >>= go = copy pairs from to (t >>= go)
(make buffer size t) >>= go = make buffer size (t >>= go)
(released buffer t) >>= go = released buffer (t >>= go)
(enter k) >>= go = enter (λ store. k store >>= go)
(leave store t) >>= go = leave store (t >>= go)
(loop entry k) >>= go = loop entry (λ report. k report >>= go)
