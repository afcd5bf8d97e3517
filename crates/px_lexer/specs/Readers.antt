-- What the reader of a piece answers.
use Rattle.std.specs.Prelude.{◌≡◌, ℕ, ◌+◌, ◌-◌, ◌<◌, ◌≤◌, ◌⊎◌, List, length, drop, Result, Ok, Err}
use Rattle.px_lexer.specs.declared.forms.Form.{Form}
use Rattle.px_lexer.specs.declared.readings.Found.{Found}
use Rattle.px_lexer.specs.declared.readings.Breach.{Breach}
use Rattle.px_lexer.specs.declared.readings.Unread.{Unread}
use Rattle.px_lexer.specs.declared.readings.Unread.TheVariants.{Broken, NoMemory}
use Rattle.px_lexer.specs.Pieces.{HasLength}
use Rattle.px_lexer.specs.Tokens.{IsKind}
use Rattle.px_lexer.specs.Refusals.{BreaksIn, IsNotReadable}

-- the piece of this form at one index ends before another one
pub record EndsAt (form : Form) (cs : List ℕ) (from to : ℕ) : Type 0 where
  pub forward : from < to
  pub within : to ≤ length cs
  pub whole : HasLength form (drop from cs) (to - from)

-- the piece is a token of this kind
pub record IsReadAs (form : Form) (cs : List ℕ) (from : ℕ) (found : Found) : Type 0 where
  pub ends : EndsAt form cs from found.to
  pub kind : IsKind form (drop from cs) (found.to - from) found.kind

-- the rule at one index is broken at or before the one at another: by the place, and at one place by the number
abbrev pub IsNotAfter : ℕ → ℕ → ℕ → ℕ → Type 0
IsNotAfter rule i other j = (i < j) ⊎ ((i ≡ j) × (rule ≤ other))

-- the first rule that the piece breaks is this one
pub record IsFirstBreach (form : Form) (cs : List ℕ) (from to : ℕ) (breach : Breach) : Type 0 where
  pub index : ℕ
  pub placed : breach.at ≡ from + index
  pub broken : BreaksIn form (drop from cs) (to - from) breach.rule index
  pub first : (rule i : ℕ) → BreaksIn form (drop from cs) (to - from) rule i → IsNotAfter breach.rule index rule i

-- the piece itself breaks no rule, and it or what follows it directly can't be read
pub record IsCutOff (form : Form) (cs : List ℕ) (from to : ℕ) (breach : Breach) : Type 0 where
  pub rule : breach.rule ≡ 1
  pub unreadable : IsNotReadable cs breach.at
  pub behind : from ≤ breach.at
  pub near : breach.at ≤ to
  pub clean : (rule i : ℕ) → BreaksIn form (drop from cs) (to - from) rule i → ⊥

-- what is said of a piece that is no token: the first rule that it breaks, or the character that can't be read
abbrev pub IsRefusedFor : Form → List ℕ → ℕ → Breach → Type 0
IsRefusedFor form cs from breach =
    (to : ℕ) × EndsAt form cs from to × (IsFirstBreach form cs from to breach ⊎ IsCutOff form cs from to breach)

-- the answer of a reader that needs memory for a piece of this form at this index; want of memory is free
abbrev pub Reads : Form → List ℕ → ℕ → Result Found Unread → Type 0
Reads form cs from (Ok found) = IsReadAs form cs from found
Reads form cs from (Err (Broken breach)) = IsRefusedFor form cs from breach
Reads form cs from (Err NoMemory) = Unit {0}
