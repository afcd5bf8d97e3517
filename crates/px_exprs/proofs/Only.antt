-- Two derivations from one index that agree.
use Rattle.std.proofs.Common.{◌≡◌, ℕ, suc, ◌≤◌, List, refl, arith}
use Rattle.px_lexer.specs.Terminals.{Terminal, IsOperator}
use Rattle.px_lexer.specs.declared.spelling.Operator.TheVariants as sign
use Rattle.px_exprs.specs.Grammar.{HasComma}
use Rattle.px_exprs.specs.Codes.{code_at}
use Rattle.px_exprs.proofs.Codes.{code_here}

-- they have one tree, one nesting and one end
pub record Same {A : Type 0} (e f : A) (d c j k : ℕ) : Type 0 where
  pub tree : e ≡ f
  pub depth : d ≡ c
  pub end : j ≡ k

-- the only derivation from its index, among those that end where the test holds, where it holds at its own end
abbrev pub IsOnly : {A : Type 0} → (A → ℕ → ℕ → Type 0) → (ℕ → Type 0) → A → ℕ → ℕ → Type 0
IsOnly {A} X S e d j = S j → (f : A) (c k : ℕ) → X f c k → S k → Same e f d c j k

-- a token of this code or a greater one: behind an expression that may be absent stands none that begins one
abbrev pub From : List Terminal → ℕ → ℕ → Type 0
From ts n j = n ≤ code_at ts j

-- a bracket that closes
abbrev pub Closes : List Terminal → ℕ → Type 0
Closes ts j = (28 ≤ code_at ts j) × (code_at ts j ≤ 30)

-- a comma or a bracket that closes
abbrev pub EndsItem : List Terminal → ℕ → Type 0
EndsItem ts j = (27 ≤ code_at ts j) × (code_at ts j ≤ 30)

-- A list with a comma behind it or none, and a bracket that closes

pub ends_item : {ts : List Terminal} {l m : ℕ} → HasComma ts l m → Closes ts m → EndsItem ts l
ends_item HasComma.no_comma c = (omega (arith, c.0), c.1)
ends_item (HasComma.comma h) c = (omega (arith, code_here h), omega (arith, code_here h))

pub one_closing : {ts : List Terminal} {l m n : ℕ} → HasComma ts l m → HasComma ts l n → Closes ts m → Closes ts n → m ≡ n
one_closing HasComma.no_comma HasComma.no_comma c d = refl
one_closing HasComma.no_comma (HasComma.comma h) c d = absurd (omega (arith, code_here h, c.0))
one_closing (HasComma.comma h) HasComma.no_comma c d = absurd (omega (arith, code_here h, d.0))
one_closing (HasComma.comma h) (HasComma.comma g) c d = refl

-- behind the last comma stands the bracket
pub no_more : {ts : List Terminal} {l m : ℕ} → HasComma ts l m → Closes ts m → IsOperator ts l sign.Comma → Closes ts (suc l)
no_more HasComma.no_comma c h = absurd (omega (arith, code_here h, c.0))
no_more (HasComma.comma g) c h = c
