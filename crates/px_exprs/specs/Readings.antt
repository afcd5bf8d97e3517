-- What the reader of a form answers.
use Rattle.std.specs.Prelude.{◌≡◌, ℕ, suc, ◌≤◌, ◌<◌, ◌⊎◌, List, length, slice_get, Result, Ok, Err}
use Rattle.px_lexer.specs.declared.spelling.Keyword.TheVariants as word
use Rattle.px_lexer.specs.declared.spelling.Operator.{Operator}
use Rattle.px_lexer.specs.declared.spelling.Operator.TheVariants as sign
use Rattle.px_exprs.specs.declared.readings.Read.{Read}
use Rattle.px_exprs.specs.declared.readings.Unread.{Unread}
use Rattle.px_exprs.specs.declared.readings.Unread.TheVariants as unread
use Rattle.px_lexer.specs.Terminals.{Terminal, IsKeyword, IsOperator}

-- a form: from one index to another, with a tree and a nesting
abbrev pub Form : Type 0 → Type 1
Form A = List Terminal → ℕ → A → ℕ → ℕ → Type 0

-- where a form may end
abbrev pub Stops : Type 1
Stops = List Terminal → ℕ → Type 0

-- the same tokens before an index
abbrev pub Agree : ℕ → List Terminal → List Terminal → Type 0
Agree n us ts = (i : ℕ) → i < n → slice_get us i ≡ slice_get ts i

-- behind the first k tokens some tokens make the form, from an index to their end
pub record HasWay {A : Type 0} (X : Form A) (ts : List Terminal) (from k : ℕ) : Type 0 where
  pub tokens : List Terminal
  pub same : Agree k tokens ts
  pub long : k ≤ length tokens
  pub tree : A
  pub depth : ℕ
  pub derived : X tokens from tree depth (length tokens)

-- and they are nested at most so deep
pub record HasShallow {A : Type 0} (X : Form A) (ts : List Terminal) (from k room : ℕ) : Type 0 where
  pub way : HasWay X ts from k
  pub shallow : way.depth ≤ room

-- the first k tokens go on without too deep a nesting, but that the word `sizeof` alone, which is the last of them, shows one
pub data IsReached {A : Type 0} (X : Form A) (ts : List Terminal) (from k room : ℕ) : Type 0 where
  reached : HasShallow X ts from k room → IsReached X ts from k room
  behind_sizeof : (i : ℕ) → k ≡ suc i → from ≤ i → IsKeyword ts i word.Sizeof → HasShallow X ts from i room → HasWay X ts from k → IsReached X ts from k room

-- the tokens before this one go on to the form, and with this one they don't
pub record IsStuck {A : Type 0} (X : Form A) (S : Stops) (ts : List Terminal) (from room k : ℕ) : Type 0 where
  pub forward : from ≤ k
  pub within : k < length ts
  pub reached : IsReached X ts from k room
  pub none : (us : List Terminal) → Agree (suc k) us ts → (tree : A) (depth j : ℕ) → X us from tree depth j → S us j → ⊥

-- the tokens up to this one go on to the form, and with this one are nested too deep then
pub record IsOver {A : Type 0} (X : Form A) (S : Stops) (ts : List Terminal) (from room k : ℕ) : Type 0 where
  pub forward : from ≤ k
  pub within : k < length ts
  pub counted : IsKeyword ts k word.Sizeof → ⊥
  pub reached : IsReached X ts from k room
  pub way : HasWay X ts from (suc k)
  pub deep : (us : List Terminal) → Agree (suc k) us ts → (tree : A) (depth j : ℕ) → X us from tree depth j → S us j → room < depth

abbrev pub IsUnread : {A : Type 0} → Form A → Stops → List Terminal → ℕ → ℕ → Unread → Type 0
IsUnread X S ts from room (unread.Stuck k) = IsStuck X S ts from room k
IsUnread X S ts from room (unread.TooDeep k) = IsOver X S ts from room k
IsUnread X S ts from room unread.NoMemory = Unit {0}

-- the form was read, and doesn't go on
pub record IsReading {A : Type 0} (X : Form A) (S : Stops) (ts : List Terminal) (from room : ℕ) (tree : A) (depth to : ℕ) : Type 0 where
  pub derived : X ts from tree depth to
  pub shallow : depth ≤ room
  pub stops : S ts to
  pub within : to < length ts

-- want of memory is free
abbrev pub Reads : {A : Type 0} → Form A → Stops → List Terminal → ℕ → ℕ → Result (Read A) Unread → Type 0
Reads X S ts from room (Ok read) = IsReading X S ts from room read.tree read.depth read.to
Reads X S ts from room (Err unread) = IsUnread X S ts from room unread

-- Places where forms end

-- an operator
abbrev pub At : Operator → Stops
At operator ts i = IsOperator ts i operator

-- a comma, or the closing bracket
abbrev pub EndsElement : Operator → Stops
EndsElement closing ts i = IsOperator ts i sign.Comma ⊎ IsOperator ts i closing

-- a colon, a comma, or the closing bracket of a subscript
abbrev pub EndsBound : Stops
EndsBound ts i = IsOperator ts i sign.Colon ⊎ EndsElement sign.CloseBracket ts i
