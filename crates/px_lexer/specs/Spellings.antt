-- What is spelled at the front of some characters.
use Rattle.std.specs.Prelude.{ℕ, ◌<◌, ◌≤◌, Bool, List, [], ◌∷◌, length, take, if◌then◌else◌, bytes_eq, Option, Some, None}
use Rattle.std.specs.List.{list_any}

-- the first n characters are spelled so, and no longer front of these is
pub record IsLongest (P : List ℕ → Type 0) (cs : List ℕ) (n : ℕ) : Type 0 where
  pub within : n ≤ length cs
  pub spelled : P (take n cs)
  pub longest : (m : ℕ) → n < m → m ≤ length cs → P (take m cs) → ⊥

-- what a spelling stands for in a table, if it stands there
abbrev pub meaning_in : {A : Type 0} → List (List ℕ × A) → List ℕ → Option A
meaning_in [] spelling = None
meaning_in (row ∷ rows) spelling = if bytes_eq row.0 spelling then Some row.1 else meaning_in rows spelling

-- the spelling is one of these
abbrev pub is_among : List (List ℕ) → List ℕ → Bool
is_among spellings spelling = list_any (λ other. bytes_eq other spelling) spellings
