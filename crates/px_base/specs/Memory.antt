-- The outside in memory: a library, a source and a sink whose content is a list, and some of whose calls fail.
use Rattle.std.specs.Prelude.{ℕ, ◌+◌, ◌-◌, ◌^◌, min, Bool, List, [], ◌∷◌, Option, Some, None, Result, Ok, Err, ◌==◌, bytes_eq, if◌then◌else◌, String, string_bytes}
use Rattle.std.specs.List.{list_any}

-- a library: its files, each a name and its bytes, and the calls so far
pub record LibraryState : Type 0 where
  pub files : List (List ℕ × List ℕ)
  pub failing : List ℕ
  pub calls : ℕ
  pub faults : ℕ

-- a source: the bytes that are left, and the most that one call moves
pub record SourceState : Type 0 where
  pub left : List ℕ
  pub piece : ℕ
  pub failing : List ℕ
  pub calls : ℕ
  pub faults : ℕ

-- a sink: the bytes that it took, and the most that one call moves
pub record SinkState : Type 0 where
  pub taken : List ℕ
  pub piece : ℕ
  pub failing : List ℕ
  pub calls : ℕ
  pub faults : ℕ

-- a file by the bytes of its name
abbrev pub file_entry : {A : Type 0} → String A × List ℕ → List ℕ × List ℕ
file_entry file = (string_bytes file.0, file.1)

-- what a name stands for: of several files with that name the first
abbrev pub content_of : List (List ℕ × List ℕ) → List ℕ → Option (List ℕ)
content_of [] name = None
content_of (file ∷ files) name = if bytes_eq file.0 name then Some file.1 else content_of files name

-- one more, in a count of 64 bits that stands still at its greatest value
abbrev pub one_more : ℕ → ℕ
one_more count = min (count + 1) (2 ^ 64 - 1)

-- whether the call after so many calls is one of those that fail
abbrev pub next_fails : List ℕ → ℕ → Bool
next_fails failing calls = list_any (λ number. number == one_more calls) failing

-- the count of faults after that call
abbrev pub faults_after : List ℕ → ℕ → ℕ → ℕ
faults_after failing calls faults = if next_fails failing calls then one_more faults else faults

-- how many bytes a call moved
abbrev pub count_moved : {E : Type 0} → Result ℕ E → ℕ
count_moved (Ok n) = n
count_moved (Err trouble) = 0
