-- The order of refusals, and the first of all that a fact holds of.
use Rattle.std.specs.Prelude.{Bool, ◌&&◌, ◌||◌, nat_lt, nat_le, ◌==◌, if◌then◌else◌, IsTrue, Option, Some, None}
use Rattle.px_base.specs.declared.refusals.Refusal.{Refusal}

-- whether a is b or comes before it: by the line, in one line by the column, and at one place by the number
unfoldable pub comes_first : Refusal → Refusal → Bool
comes_first a b =
    nat_lt a.line b.line
    || a.line == b.line && (nat_lt a.column b.column || a.column == b.column && nat_le a.number b.number)

-- the fact holds of no refusal, or it holds of this one, and of none that comes before it
abbrev pub IsFirst : (Refusal → Type 0) → Option Refusal → Type 0
IsFirst P None = (r : Refusal) → P r → ⊥
IsFirst P (Some first) = P first × ((r : Refusal) → P r → IsTrue (comes_first first r))

-- of two findings the one that comes first
abbrev pub first_of : Option Refusal → Option Refusal → Option Refusal
first_of None b = b
first_of (Some a) None = Some a
first_of (Some a) (Some b) = if comes_first a b then Some a else Some b
