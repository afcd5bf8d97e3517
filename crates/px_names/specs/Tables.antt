-- Tables of spelled words.
use Rattle.std.specs.Prelude.{ℕ, Bool, if◌then◌else◌, List, [], ◌∷◌, Option, Some, None, bytes_eq}
use Rattle.std.specs.List.{list_any}

-- what a table has for a word
abbrev pub entry_of : {A : Type 0} → List (List ℕ × A) → List ℕ → Option A
entry_of [] word = None
entry_of (row ∷ rows) word = if bytes_eq row.0 word then Some row.1 else entry_of rows word

-- whether a word is one of these
abbrev pub is_among : List (List ℕ) → List ℕ → Bool
is_among words word = list_any (λ other. bytes_eq other word) words
