-- What the functions that look at single tokens answer.
use Rattle.std.specs.Prelude.{◌≡◌, ℕ, suc, pos, Bool, true, ◌&&◌, nat_lt, List, [], ◌∷◌, codes, Result, Ok, Err}
use Rattle.px_lexer.specs.declared.spelling.Operator.{Operator}
use Rattle.px_lexer.specs.declared.token_list.TokenKind.TheVariants as kind
use Rattle.px_exprs.specs.declared.readings.Unread.{Unread}
use Rattle.px_exprs.specs.declared.readings.Unread.TheVariants as unread
use Rattle.px_lexer.specs.Terminals.{Terminal, Stands, IsOperator, IsName}

-- each of these bytes is ASCII
abbrev pub are_ascii : List ℕ → Bool
are_ascii [] = true
are_ascii (b ∷ bs) = nat_lt b 128 && are_ascii bs

-- the number that is spelled `1`
abbrev pub IsOne : List Terminal → ℕ → Type 0
IsOne ts i = (one : Terminal) × Stands ts i one × (one.kind ≡ kind.Number (pos 1)) × (one.spelling ≡ codes "1")

-- stuck at this index
abbrev pub IsStuckAt : ℕ → Unread → Type 0
IsStuckAt i (unread.Stuck k) = k ≡ i
IsStuckAt i (unread.TooDeep k) = ⊥
IsStuckAt i unread.NoMemory = ⊥

-- nested too deep at this index
abbrev pub IsTooDeepAt : ℕ → Unread → Type 0
IsTooDeepAt i (unread.Stuck k) = ⊥
IsTooDeepAt i (unread.TooDeep k) = k ≡ i
IsTooDeepAt i unread.NoMemory = ⊥

-- the identifier at an index, or want of memory
abbrev pub IsNamed : List Terminal → ℕ → Result (List ℕ) Unread → Type 0
IsNamed ts i (Ok name) = IsName ts i name
IsNamed ts i (Err (unread.Stuck k)) = (k ≡ i) × ((name : List ℕ) → IsName ts i name → ⊥)
IsNamed ts i (Err (unread.TooDeep k)) = ⊥
IsNamed ts i (Err unread.NoMemory) = Unit {0}

-- the index behind an operator
abbrev pub IsBehind : List Terminal → ℕ → Operator → Result ℕ Unread → Type 0
IsBehind ts i operator (Ok to) = (to ≡ suc i) × IsOperator ts i operator
IsBehind ts i operator (Err unread) = IsStuckAt i unread × (IsOperator ts i operator → ⊥)
