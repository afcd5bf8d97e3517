-- What the reader of a form answers.
use Rattle.std.specs.Prelude.{◌≡◌, ℕ, suc, ◌≤◌, ◌<◌, List, length, Result, Ok, Err}
use Rattle.px_lexer.specs.declared.spelling.Keyword.TheVariants as word
use Rattle.px_exprs.specs.declared.readings.Unread.{Unread}
use Rattle.px_exprs.specs.declared.readings.Unread.TheVariants as unread
use Rattle.px_lexer.specs.Terminals.{Terminal, IsKeyword}
use Rattle.px_exprs.specs.Readings.{Stops, Agree}
use Rattle.px_exprs.specs.Runs.{nesting_limit}
use Rattle.px_exprs.specs.Words.{IsStuckAt}
use Rattle.px_parser.specs.declared.readings.Found.{Found}
use Rattle.px_parser.specs.Shapes.{Shape}
use Rattle.px_parser.specs.Parsing.{strict, unseen_from, looks_before, AreTogether}

-- behind the first k tokens some tokens make the form, from an index to their end
pub record HasWay {A : Type 0} (X : Shape A) (ts : List Terminal) (from k : ℕ) : Type 0 where
  pub tokens : List Terminal
  pub same : Agree k tokens ts
  pub long : k ≤ length tokens
  pub tree : A
  pub limit : ℕ
  pub blocks : ℕ
  pub derived : X (strict limit) tokens from tree blocks (length tokens)

-- and they are nested within a limit, with so many blocks, as far as the first k tokens tell
pub record HasBlocks {A : Type 0} (X : Shape A) (limit : ℕ) (ts : List Terminal) (from k room : ℕ) : Type 0 where
  pub tokens : List Terminal
  pub same : Agree k tokens ts
  pub long : k ≤ length tokens
  pub tree : A
  pub derived : X (unseen_from limit k) tokens from tree room (length tokens)

abbrev pub HasShallow : {A : Type 0} → Shape A → List Terminal → ℕ → ℕ → ℕ → Type 0
HasShallow X ts from k room = HasBlocks X nesting_limit ts from k room

-- the same, but that the word `sizeof` alone, which is the last of the tokens, shows a bracket
pub data IsShallow {A : Type 0} (X : Shape A) (ts : List Terminal) (from k room : ℕ) : Type 0 where
  shallow : HasShallow X ts from k room → IsShallow X ts from k room
  behind_sizeof : (i limit : ℕ) → k ≡ suc i → from ≤ i → IsKeyword ts i word.Sizeof → HasShallow X ts from i room → HasBlocks X limit ts from k room → IsShallow X ts from k room

-- the first k tokens go on to the form without too deep a nesting
pub record IsReached {A : Type 0} (X : Shape A) (ts : List Terminal) (from k room : ℕ) : Type 0 where
  pub way : HasWay X ts from k
  pub shallow : IsShallow X ts from k room

-- the same, but that the end of a line at the place of the next token isn't looked at
pub data IsArrived {A : Type 0} (X : Shape A) (ts : List Terminal) (from k room : ℕ) : Type 0 where
  reached : IsReached X ts from k room → IsArrived X ts from k room
  behind_line : (i : ℕ) → from ≤ i → AreTogether ts i k → HasWay X ts from k → HasShallow X ts from i room → IsArrived X ts from k room

-- the tokens before this one go on to the form, and with this one they don't
pub record IsStuck {A : Type 0} (X : Shape A) (S : Stops) (ts : List Terminal) (from room k : ℕ) : Type 0 where
  pub forward : from ≤ k
  pub within : k < length ts
  pub reached : IsArrived X ts from k room
  pub none : (us : List Terminal) → Agree (suc k) us ts → (limit : ℕ) (tree : A) (blocks j : ℕ) → X (strict limit) us from tree blocks j → S us j → ⊥

-- The tokens up to this one go on to the form, and are nested too deep then; with the word `sizeof` by their blocks.
pub record IsOver {A : Type 0} (X : Shape A) (S : Stops) (ts : List Terminal) (from room k : ℕ) : Type 0 where
  pub forward : from ≤ k
  pub within : k < length ts
  pub reached : IsReached X ts from k room
  pub way : HasWay X ts from (suc k)
  pub deep : (us : List Terminal) → Agree (suc k) us ts → (tree : A) (j : ℕ) → X (looks_before (suc k)) us from tree room j → S us j → ⊥
  pub counted : IsKeyword ts k word.Sizeof → (us : List Terminal) → Agree (suc k) us ts → (limit : ℕ) (tree : A) (j : ℕ) → X (unseen_from limit (suc k)) us from tree room j → S us j → ⊥
  -- where it is the end of a line at the place of the next token, the form goes on with that
  pub apart : AreTogether ts k (suc k) → HasWay X ts from (suc (suc k))

abbrev pub IsUnread : {A : Type 0} → Shape A → Stops → List Terminal → ℕ → ℕ → Unread → Type 0
IsUnread X S ts from room (unread.Stuck k) = IsStuck X S ts from room k
IsUnread X S ts from room (unread.TooDeep k) = IsOver X S ts from room k
IsUnread X S ts from room unread.NoMemory = Unit {0}

-- the form was read, and doesn't go on
pub record IsReading {A : Type 0} (X : Shape A) (S : Stops) (ts : List Terminal) (from room : ℕ) (tree : A) (to : ℕ) : Type 0 where
  pub derived : X (strict nesting_limit) ts from tree room to
  pub stops : S ts to
  pub within : to < length ts

-- want of memory is free
abbrev pub Reads : {A : Type 0} → Shape A → Stops → List Terminal → ℕ → ℕ → Result (Found A) Unread → Type 0
Reads X S ts from room (Ok found) = IsReading X S ts from room found.tree found.to
Reads X S ts from room (Err unread) = IsUnread X S ts from room unread

-- a form without blocks, so that it doesn't matter how many may stand in it
abbrev pub ReadsFlat : {A : Type 0} → Shape A → Stops → List Terminal → ℕ → Result (Found A) Unread → Type 0
ReadsFlat X S ts from result = (room : ℕ) → Reads X S ts from room result

-- A form of single tokens: its reader needs no memory, and is never too deep

pub record IsMisread {A : Type 0} (X : Shape A) (S : Stops) (ts : List Terminal) (from room : ℕ) (unread : Unread) : Type 0 where
  pub at : ℕ
  pub is : IsStuckAt at unread
  pub stuck : IsStuck X S ts from room at

abbrev pub ReadsWithin : {A : Type 0} → Shape A → Stops → List Terminal → ℕ → ℕ → Result (Found A) Unread → Type 0
ReadsWithin X S ts from room (Ok found) = IsReading X S ts from room found.tree found.to
ReadsWithin X S ts from room (Err unread) = IsMisread X S ts from room unread

abbrev pub ReadsTokens : {A : Type 0} → Shape A → Stops → List Terminal → ℕ → Result (Found A) Unread → Type 0
ReadsTokens X S ts from result = (room : ℕ) → ReadsWithin X S ts from room result

-- Places where forms end

-- anywhere
abbrev pub Anywhere : Stops
Anywhere ts i = Unit {0}
