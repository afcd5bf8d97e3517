-- The parts of a type as forms of their own, and where they end.
use Rattle.std.specs.Prelude.{◌≡◌, ◌⊎◌, ℕ, suc, Bool, true, ◌&&◌, List, [], ◌∷◌, codes, Contains, Result, Ok, Err}
use Rattle.px_tree.specs.declared.typings.BaseType.{BaseType}
use Rattle.px_lexer.specs.Terminals.{Terminal, IsName}
use Rattle.px_exprs.specs.Typings.{AreNames}
use Rattle.px_exprs.specs.declared.readings.Read.{Read}
use Rattle.px_exprs.specs.declared.readings.Unread.{Unread}
use Rattle.px_exprs.specs.declared.readings.Unread.TheVariants as unread
use Rattle.px_exprs.specs.Readings.{Form, Stops, IsStuck, IsReading}
use Rattle.px_exprs.specs.Words.{are_ascii}

-- a form without nesting
abbrev pub Flat : {A : Type 0} → (List Terminal → ℕ → A → ℕ → Type 0) → Form A
Flat X ts i tree depth j = X ts i tree j × (depth ≡ 0)

-- such a form was read, or no tokens that begin as these make it; want of memory is free
abbrev pub ReadsFlat : {A : Type 0} → (List Terminal → ℕ → A → ℕ → Type 0) → Stops → List Terminal → ℕ → Result (Read A) Unread → Type 0
ReadsFlat X S ts from (Ok read) = IsReading (Flat X) S ts from 0 read.tree read.depth read.to
ReadsFlat X S ts from (Err (unread.Stuck k)) = IsStuck (Flat X) S ts from 0 k
ReadsFlat X S ts from (Err (unread.TooDeep k)) = ⊥
ReadsFlat X S ts from (Err unread.NoMemory) = Unit {0}

-- the same of what needs no memory
abbrev pub ReadsInPlace : {A : Type 0} → (List Terminal → ℕ → A → ℕ → Type 0) → Stops → List Terminal → ℕ → Result (Read A) Unread → Type 0
ReadsInPlace X S ts from (Ok read) = IsReading (Flat X) S ts from 0 read.tree read.depth read.to
ReadsInPlace X S ts from (Err (unread.Stuck k)) = IsStuck (Flat X) S ts from 0 k
ReadsInPlace X S ts from (Err (unread.TooDeep k)) = ⊥
ReadsInPlace X S ts from (Err unread.NoMemory) = ⊥

-- no identifier stands here
abbrev pub NoName : Stops
NoName ts i = (name : List ℕ) → IsName ts i name → ⊥

-- the words of a row of this table stand from one index to another, and name this base
abbrev pub IsBaseOf : List (List (List ℕ) × BaseType) → List Terminal → ℕ → BaseType → ℕ → Type 0
IsBaseOf table ts i b j = (words : List (List ℕ)) × AreNames ts i words j × Contains table (words, b)

abbrev pub words_are_ascii : List (List ℕ) → Bool
words_are_ascii [] = true
words_are_ascii (word ∷ words) = are_ascii word && words_are_ascii words

abbrev pub table_is_ascii : List (List (List ℕ) × BaseType) → Bool
table_is_ascii [] = true
table_is_ascii (row ∷ rows) = words_are_ascii row.0 && table_is_ascii rows

-- the index behind `const` where it stands at an index, and else that index
abbrev pub IsBehindConst : List Terminal → ℕ → ℕ → Type 0
IsBehindConst ts i to = (IsName ts i (codes "const") × (to ≡ suc i)) ⊎ ((IsName ts i (codes "const") → ⊥) × (to ≡ i))
