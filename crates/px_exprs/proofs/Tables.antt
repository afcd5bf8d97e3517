-- What the tables of operators say: an operator has one meaning, and the codes of a level are one.
use Rattle.std.proofs.Common.{◌≡◌, ℕ, ◌+◌, ◌≤◌, length, List, [], ◌∷◌, All, Contains, refl, sym, ap, ◌∙◌, arith}
use Rattle.std.proofs.lemmas.List.Elements.{All-contains, All-cons, All-nil}
use Rattle.px_base.specs.declared.c_types.BinOp.{BinOp}
use Rattle.px_base.specs.declared.c_types.BinOp.TheVariants as op
use Rattle.px_base.specs.declared.c_types.UnOp.{UnOp}
use Rattle.px_base.specs.declared.c_types.UnOp.TheVariants as unary
use Rattle.px_lexer.specs.declared.spelling.Operator.{Operator}
use Rattle.px_lexer.specs.declared.spelling.Operator.TheVariants as sign
use Rattle.px_tree.specs.declared.expressions.CompareOp.{CompareOp}
use Rattle.px_tree.specs.declared.expressions.CompareOp.TheVariants as compare
use Rattle.px_lexer.specs.Terminals.{Terminal}
use Rattle.px_exprs.specs.Grammar.{Level, binary_levels, unary_operators, compare_signs, IsOf}
use Rattle.px_exprs.specs.Codes.{code_at, sign_code}
use Rattle.px_exprs.proofs.Codes.{code_here}
use Rattle.px_lexer.proofs.OneToken.{one_operator}

-- a meaning of each operator
abbrev binary_meaning : Operator → BinOp
binary_meaning sign.Bar = op.BitOr
binary_meaning sign.Caret = op.BitXor
binary_meaning sign.Ampersand = op.BitAnd
binary_meaning sign.LeftShift = op.Shl
binary_meaning sign.RightShift = op.Shr
binary_meaning sign.Plus = op.Add
binary_meaning sign.Minus = op.Sub
binary_meaning sign.Star = op.Mul
binary_meaning sign.DoubleSlash = op.FloorDiv
binary_meaning _ = op.Mod

abbrev unary_meaning : Operator → UnOp
unary_meaning sign.Plus = unary.Plus
unary_meaning sign.Minus = unary.Minus
unary_meaning _ = unary.Invert

abbrev compare_meaning : Operator → CompareOp
compare_meaning sign.Less = compare.Less
compare_meaning sign.Greater = compare.Greater
compare_meaning sign.LessEqual = compare.LessEqual
compare_meaning sign.GreaterEqual = compare.GreaterEqual
compare_meaning sign.DoubleEqual = compare.Equal
compare_meaning _ = compare.NotEqual

-- each operator of a table has its meaning, and a code within these bounds
abbrev Tells : {A : Type 0} → (Operator → A) → ℕ → ℕ → List (Operator × A) → Type 0
Tells {A} meaning low high table = All (λ (row : Operator × A). (row.1 ≡ meaning row.0) × (low ≤ sign_code row.0) × (sign_code row.0 ≤ high)) table

row_tells : {A : Type 0} (meaning : Operator → A) (low high : ℕ) (table : List (Operator × A)) → Tells meaning low high table → (o : Operator) (m : A) → Contains table (o, m)
    → (m ≡ meaning o) × (low ≤ sign_code o) × (sign_code o ≤ high)
row_tells {A} meaning low high table t o m c = All-contains (λ (row : Operator × A). (row.1 ≡ meaning row.0) × (low ≤ sign_code row.0) × (sign_code row.0 ≤ high)) table (o, m) t c

one_of : {A : Type 0} (meaning : Operator → A) (low high : ℕ) (table : List (Operator × A)) → Tells meaning low high table → {ts : List Terminal} {i : ℕ} {m n : A} → IsOf table ts i m → IsOf table ts i n → m ≡ n
one_of meaning low high table t g h =
    (row_tells meaning low high table t _ _ g.known).0 ∙ ap meaning (one_operator g.stands h.stands) ∙ sym (row_tells meaning low high table t _ _ h.known).0

code_of_row : {A : Type 0} (meaning : Operator → A) (low high : ℕ) (table : List (Operator × A)) → Tells meaning low high table → {ts : List Terminal} {i : ℕ} {m : A} → IsOf table ts i m
    → (low ≤ code_at ts i) × (code_at ts i ≤ high)
code_of_row meaning low high table t g =
    let row = row_tells meaning low high table t _ _ g.known in
    let here = code_here g.stands in
    (omega (arith, row.1, here), omega (arith, row.2, here))

-- the same, row by row
abbrev Rows : {A : Type 0} → (Operator → A) → ℕ → ℕ → List (Operator × A) → Type 0
Rows meaning low high [] = Unit {0}
Rows meaning low high (row ∷ rows) = (row.1 ≡ meaning row.0) × (low ≤ sign_code row.0) × (sign_code row.0 ≤ high) × Rows meaning low high rows

tells : {A : Type 0} (meaning : Operator → A) (low high : ℕ) (table : List (Operator × A)) → Rows meaning low high table → Tells meaning low high table
tells {A} meaning low high [] r = All-nil (λ (row : Operator × A). (row.1 ≡ meaning row.0) × (low ≤ sign_code row.0) × (sign_code row.0 ≤ high))
tells {A} meaning low high (row ∷ rows) r =
    All-cons (λ (row : Operator × A). (row.1 ≡ meaning row.0) × (low ≤ sign_code row.0) × (sign_code row.0 ≤ high)) row rows (r.0, r.1, r.2) (tells meaning low high rows r.3)

-- the levels of binary operators, each with one code
abbrev pub AreLevels : List Level → Type 0
AreLevels [] = Unit {0}
AreLevels (level ∷ tighter) = Rows binary_meaning (12 + length tighter) (12 + length tighter) level × AreLevels tighter

pub one_binary : {level : Level} (tighter : List Level) → AreLevels (level ∷ tighter) → {ts : List Terminal} {i : ℕ} {m n : BinOp} → IsOf level ts i m → IsOf level ts i n → m ≡ n
one_binary {level} tighter levels g h = one_of binary_meaning (12 + length tighter) (12 + length tighter) level (tells binary_meaning (12 + length tighter) (12 + length tighter) level levels.0) g h

pub binary_code : {level : Level} (tighter : List Level) → AreLevels (level ∷ tighter) → {ts : List Terminal} {i : ℕ} {m : BinOp} → IsOf level ts i m → code_at ts i ≡ 12 + length tighter
binary_code {level} tighter levels g = let x = code_of_row binary_meaning (12 + length tighter) (12 + length tighter) level (tells binary_meaning (12 + length tighter) (12 + length tighter) level levels.0) g in omega (arith, x.0, x.1)

pub are_levels : AreLevels binary_levels
unfolding binary_levels
are_levels = ((refl, omega arith, omega arith, tt), ((refl, omega arith, omega arith, tt), ((refl, omega arith, omega arith, tt), ((refl, omega arith, omega arith, (refl, omega arith, omega arith, tt)), ((refl, omega arith, omega arith, (refl, omega arith, omega arith, tt)), ((refl, omega arith, omega arith, (refl, omega arith, omega arith, (refl, omega arith, omega arith, tt))), tt))))))

pub six_levels : length binary_levels ≡ 6
unfolding binary_levels
six_levels = refl

unary_tells : Tells unary_meaning 11 13 unary_operators
unfolding unary_operators
unary_tells = tells unary_meaning 11 13 unary_operators (refl, omega arith, omega arith, (refl, omega arith, omega arith, (refl, omega arith, omega arith, tt)))

pub one_unary : {ts : List Terminal} {i : ℕ} {m n : UnOp} → IsOf unary_operators ts i m → IsOf unary_operators ts i n → m ≡ n
one_unary g h = one_of unary_meaning 11 13 unary_operators unary_tells g h

pub unary_code : {ts : List Terminal} {i : ℕ} {m : UnOp} → IsOf unary_operators ts i m → (11 ≤ code_at ts i) × (code_at ts i ≤ 13)
unary_code g = code_of_row unary_meaning 11 13 unary_operators unary_tells g

compare_tells : Tells compare_meaning 18 19 compare_signs
unfolding compare_signs
compare_tells = tells compare_meaning 18 19 compare_signs (refl, omega arith, omega arith, (refl, omega arith, omega arith, (refl, omega arith, omega arith, (refl, omega arith, omega arith, (refl, omega arith, omega arith, (refl, omega arith, omega arith, tt))))))

pub one_comparison : {ts : List Terminal} {i : ℕ} {m n : CompareOp} → IsOf compare_signs ts i m → IsOf compare_signs ts i n → m ≡ n
one_comparison g h = one_of compare_meaning 18 19 compare_signs compare_tells g h

pub compare_code : {ts : List Terminal} {i : ℕ} {m : CompareOp} → IsOf compare_signs ts i m → (18 ≤ code_at ts i) × (code_at ts i ≤ 19)
compare_code g = code_of_row compare_meaning 18 19 compare_signs compare_tells g
