-- What runs share: the words of cells, the store that the lock guards, and the buffers that were released.
use Rattle.std.specs.Prelude.{ℕ, ◌^◌, ◌==◌, ◌&&◌, ℤ, pos, unsigned_abs, Bool, if◌then◌else◌, List, [], ◌∷◌, ◌++◌, map}
use Rattle.std.specs.Int.{int_rem_euclid}
use Rattle.px_base.specs.declared.c_types.CType.{CType}
use Rattle.px_ctypes.specs.Conversions.{converted}
use Rattle.px_model.specs.declared.cells.Cell.{Cell}
use Rattle.px_model.specs.declared.stores.Store.{Store}

-- the word of each cell; one that was never written is 0
abbrev pub Words : Type 0
Words = Cell → ℕ

abbrev pub is_cell : Cell → Cell → Bool
is_cell a b = a.buffer == b.buffer && a.place == b.place

abbrev pub with_word : Words → Cell → ℕ → Words
with_word words cell word c = if is_cell c cell then word else words c

-- A write, and what is left by several, of which a later one counts.

abbrev pub Write : Type 0
Write = Cell × ℕ

abbrev pub written : List Write → Words → Words
written [] words = words
written (write ∷ writes) words = written writes (with_word words write.0 write.1)

-- A cell's word is its number modulo 2^64. As one of a type it is the number that this type gives the word.

abbrev pub word_of_number : ℤ → ℕ
word_of_number n = unsigned_abs (int_rem_euclid n (pos (2 ^ 64)))

abbrev pub number_of_word : CType → ℕ → ℤ
number_of_word t word = converted t (pos word)

-- the writes of one word into several cells
abbrev pub fill_writes : List Cell → ℕ → List Write
fill_writes cells word = map (λ cell. (cell, word)) cells

-- the writes that copy numbers, which are all read before
abbrev pub copy_writes : List (Cell × Cell) → CType → CType → Words → List Write
copy_writes pairs from to words = map (λ pair. (pair.0, word_of_number (converted to (number_of_word from (words pair.1))))) pairs

pub record World : Type 0 where
  pub words : Words
  pub store : Store
  pub released : List ℕ

abbrev pub with_writes : List Write → World → World
with_writes writes w = record w { words = written writes w.words }

abbrev pub with_release : ℕ → World → World
with_release buffer w = record w { released = w.released ++ buffer ∷ [] }

abbrev pub with_stored : Store → World → World
with_stored store w = record w { store = store }
