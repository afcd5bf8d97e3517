-- What the token at an index tells, by the code with which it goes on: a function by cases over all kinds, words and operators.
use Rattle.std.proofs.Common.{◌≡◌, ℕ, ◌-◌, ◌<◌, ◌≤◌, ◌⊎◌, inl, inr, ◌+◌, length, subst, ◌∷◌, Bool, true, false, List, [], Option, Some, None, Contains, get_or, refl, ap, ◌∙◌, arith}
use Rattle.std.specs.Prelude.{slice_get, nat_lt, ◌&&◌, ◌||◌}
use Rattle.std.proofs.lemmas.Bool.{true≢false, or_cases, and_parts, ltb-true, false_from_ne_true, cond-false, cond_both}
use Rattle.px_base.specs.declared.c_types.BinOp.{BinOp}
use Rattle.px_base.specs.declared.c_types.BinOp.TheVariants as op
use Rattle.px_lexer.specs.declared.spelling.Keyword.{Keyword}
use Rattle.px_lexer.specs.declared.spelling.Keyword.TheVariants as word
use Rattle.px_lexer.specs.declared.spelling.Operator.{Operator}
use Rattle.px_lexer.specs.declared.spelling.Operator.TheVariants as sign
use Rattle.px_lexer.specs.declared.token_list.TokenKind.{TokenKind}
use Rattle.px_lexer.specs.declared.token_list.TokenKind.TheVariants as kind
use Rattle.px_tree.specs.declared.expressions.CompareOp.{CompareOp}
use Rattle.px_tree.specs.declared.expressions.CompareOp.TheVariants as compare
use Rattle.px_lexer.specs.Terminals.{Terminal, HasKind, IsKeyword, IsOperator}
use Rattle.px_exprs.specs.Grammar.{Level, binary_levels, compare_signs, IsOf}
use Rattle.px_exprs.proofs.Codes.{code_past}
use Rattle.px_exprs.specs.Codes.{sign_code, kind_code, code_of, code_at, following, is_text_kind, is_text, following_text, behind_text, stop_at}

-- The code with which a token goes on, by its code

abbrev begins : ℕ → Bool
begins c = (nat_lt 1 c && nat_lt c 9) || (nat_lt 10 c && nat_lt c 12)

begins_low : (c : ℕ) → begins c ≡ true → c < 12
begins_low c e =
    elim (or_cases (nat_lt 1 c && nat_lt c 9) (nat_lt 10 c && nat_lt c 12) e) [
      | inl x ↦ omega (arith, ltb-true c 9 (and_parts (nat_lt 1 c) (nat_lt c 9) x).1)
      | inr x ↦ omega (arith, ltb-true c 12 (and_parts (nat_lt 10 c) (nat_lt c 12) x).1)
    ]

following_high : (c : ℕ) → 12 ≤ c → following c ≡ c
following_high c high = cond-false (begins c) 36 c (false_from_ne_true (begins c) (λ e. omega (arith, begins_low c e, high)))

following_above : (c : ℕ) → c ≤ following c
following_above c = cond_both (begins c) 36 c (λ x. c ≤ x) (λ e. omega (arith, begins_low c e)) (λ e. omega arith)

text_or_not : (o : Option Terminal) → (is_text o ≡ false) ⊎ (code_of o ≡ 0)
text_or_not None = inl refl
text_or_not (Some t) = of_kind t.kind
  where
    of_kind : (k : TokenKind) → (is_text_kind k ≡ false) ⊎ (kind_code k ≡ 0)
    of_kind kind.Name = inl refl
    of_kind (kind.Number n) = inl refl
    of_kind (kind.Text content) = inr refl
    of_kind (kind.Keyword w) = inl refl
    of_kind (kind.Operator o) = inl refl
    of_kind kind.Foreign = inl refl
    of_kind kind.Newline = inl refl
    of_kind kind.Indent = inl refl
    of_kind kind.Dedent = inl refl
    of_kind kind.End = inl refl

pub stop_high : (ts : List Terminal) (i : ℕ) → 12 ≤ code_at ts i → stop_at ts i ≡ code_at ts i
unfolding stop_at code_at
stop_high ts i high = by_text (is_text (slice_get ts i)) (behind_text ts i) (code_of (slice_get ts i)) (text_or_not (slice_get ts i)) high
  where
    by_text : (t behind : Bool) (c : ℕ) → (t ≡ false) ⊎ (c ≡ 0) → 12 ≤ c → following_text t behind c ≡ c
    by_text true true c x high = refl
    by_text true false c (inl e) high = absurd (true≢false e)
    by_text true false c (inr e) high = absurd (omega (arith, e, high))
    by_text false behind c x high = following_high c high

pub stop_above : (ts : List Terminal) (i : ℕ) → code_at ts i ≤ stop_at ts i
unfolding stop_at code_at
stop_above ts i = by_text (is_text (slice_get ts i)) (behind_text ts i) (code_of (slice_get ts i)) (text_or_not (slice_get ts i))
  where
    by_text : (t behind : Bool) (c : ℕ) → (t ≡ false) ⊎ (c ≡ 0) → c ≤ following_text t behind c
    by_text true true c x = omega arith
    by_text true false c (inl e) = absurd (true≢false e)
    by_text true false c (inr e) = omega (arith, e)
    by_text false behind c x = following_above c

-- of a token that is no string
pub stop_here : {ts : List Terminal} {i : ℕ} {k : TokenKind} → HasKind ts i k → is_text_kind k ≡ false → stop_at ts i ≡ following (kind_code k)
unfolding stop_at code_at
stop_here {ts} {i} {k} h e =
    ap (λ o. following_text (is_text o) (behind_text ts i) (code_of o)) h.stands
    ∙ ap (λ x. following_text (is_text_kind x) (behind_text ts i) (kind_code x)) h.kind
    ∙ ap (λ t. following_text t (behind_text ts i) (kind_code k)) e

-- of a string
pub text_stop : {ts : List Terminal} {i : ℕ} {content : List ℕ} → HasKind ts i (kind.Text content) → stop_at ts i ≡ following_text true (behind_text ts i) 0
unfolding stop_at code_at
text_stop {ts} {i} h =
    ap (λ o. following_text (is_text o) (behind_text ts i) (code_of o)) h.stands
    ∙ ap (λ x. following_text (is_text_kind x) (behind_text ts i) (kind_code x)) h.kind

-- What a token tells

pub data Told (ts : List Terminal) (i : ℕ) : Type 0 where
  more_text : (content : List ℕ) → HasKind ts i (kind.Text content) → behind_text ts i ≡ true → stop_at ts i ≡ 0 → Told ts i
  attribute : IsOperator ts i sign.Point → Told ts i
  call : IsOperator ts i sign.OpenParenthesis → Told ts i
  subscript : IsOperator ts i sign.OpenBracket → Told ts i
  binary : (o : Operator) → IsOperator ts i o → stop_at ts i ≡ sign_code o → 12 ≤ sign_code o → sign_code o ≤ 17 → Told ts i
  compared : (m : CompareOp) → IsOf compare_signs ts i m → 18 ≤ stop_at ts i → stop_at ts i ≤ 19 → Told ts i
  in_ : IsKeyword ts i word.In → Told ts i
  not_ : IsKeyword ts i word.Not → Told ts i
  is_ : IsKeyword ts i word.Is → Told ts i
  and : IsKeyword ts i word.And → Told ts i
  or : IsKeyword ts i word.Or → Told ts i
  if_ : IsKeyword ts i word.If → Told ts i
  -- what goes on with no operand, or with nothing
  beyond : 26 ≤ stop_at ts i → Told ts i

-- the bounds of the code by which it goes on
abbrev pub told_low : {ts : List Terminal} {i : ℕ} → Told ts i → ℕ
told_low (Told.more_text content h behind e) = 0
told_low (Told.attribute h) = 1
told_low (Told.call h) = 9
told_low (Told.subscript h) = 10
told_low (Told.binary o h e low high) = 12
told_low (Told.compared m h low high) = 18
told_low (Told.in_ h) = 20
told_low (Told.not_ h) = 21
told_low (Told.is_ h) = 22
told_low (Told.and h) = 23
told_low (Told.or h) = 24
told_low (Told.if_ h) = 25
told_low (Told.beyond low) = 26

abbrev pub told_high : {ts : List Terminal} {i : ℕ} → Told ts i → ℕ → Type 0
told_high (Told.more_text content h behind e) c = c ≤ 0
told_high (Told.attribute h) c = c ≤ 1
told_high (Told.call h) c = c ≤ 9
told_high (Told.subscript h) c = c ≤ 10
told_high (Told.binary o h e low high) c = c ≤ 17
told_high (Told.compared m h low high) c = c ≤ 19
told_high (Told.in_ h) c = c ≤ 20
told_high (Told.not_ h) c = c ≤ 21
told_high (Told.is_ h) c = c ≤ 22
told_high (Told.and h) c = c ≤ 23
told_high (Told.or h) c = c ≤ 24
told_high (Told.if_ h) c = c ≤ 25
told_high (Told.beyond low) c = Unit {0}

pub told_bounds : {ts : List Terminal} {i : ℕ} (told : Told ts i) → (told_low told ≤ stop_at ts i) × told_high told (stop_at ts i)
told_bounds (Told.more_text content h behind e) = (omega arith, omega (arith, e))
told_bounds (Told.attribute h) = (omega (arith, stop_here h refl), omega (arith, stop_here h refl))
told_bounds (Told.call h) = (omega (arith, stop_here h refl), omega (arith, stop_here h refl))
told_bounds (Told.subscript h) = (omega (arith, stop_here h refl), omega (arith, stop_here h refl))
told_bounds (Told.binary o h e low high) = (omega (arith, e, low), omega (arith, e, high))
told_bounds (Told.compared m h low high) = (low, high)
told_bounds (Told.in_ h) = (omega (arith, stop_here h refl), omega (arith, stop_here h refl))
told_bounds (Told.not_ h) = (omega (arith, stop_here h refl), omega (arith, stop_here h refl))
told_bounds (Told.is_ h) = (omega (arith, stop_here h refl), omega (arith, stop_here h refl))
told_bounds (Told.and h) = (omega (arith, stop_here h refl), omega (arith, stop_here h refl))
told_bounds (Told.or h) = (omega (arith, stop_here h refl), omega (arith, stop_here h refl))
told_bounds (Told.if_ h) = (omega (arith, stop_here h refl), omega (arith, stop_here h refl))
told_bounds (Told.beyond low) = (low, tt)

text_tells : (ts : List Terminal) (i : ℕ) (content : List ℕ) → HasKind ts i (kind.Text content) → (behind : Bool) → behind_text ts i ≡ behind → Told ts i
text_tells ts i content h true e = Told.more_text content h e (text_stop h ∙ ap (λ b. following_text true b 0) e)
text_tells ts i content h false e = Told.beyond (omega (arith, text_stop h ∙ ap (λ b. following_text true b 0) e))

word_tells : (ts : List Terminal) (i : ℕ) (w : Keyword) → IsKeyword ts i w → Told ts i
word_tells ts i word.False h = Told.beyond (omega (arith, stop_here h refl))
word_tells ts i word.None h = Told.beyond (omega (arith, stop_here h refl))
word_tells ts i word.True h = Told.beyond (omega (arith, stop_here h refl))
word_tells ts i word.And h = Told.and h
word_tells ts i word.As h = Told.beyond (omega (arith, stop_here h refl))
word_tells ts i word.Break h = Told.beyond (omega (arith, stop_here h refl))
word_tells ts i word.Cdef h = Told.beyond (omega (arith, stop_here h refl))
word_tells ts i word.Cimport h = Told.beyond (omega (arith, stop_here h refl))
word_tells ts i word.Continue h = Told.beyond (omega (arith, stop_here h refl))
word_tells ts i word.Cpdef h = Told.beyond (omega (arith, stop_here h refl))
word_tells ts i word.Def h = Told.beyond (omega (arith, stop_here h refl))
word_tells ts i word.Elif h = Told.beyond (omega (arith, stop_here h refl))
word_tells ts i word.Else h = Told.beyond (omega (arith, stop_here h refl))
word_tells ts i word.Except h = Told.beyond (omega (arith, stop_here h refl))
word_tells ts i word.For h = Told.beyond (omega (arith, stop_here h refl))
word_tells ts i word.From h = Told.beyond (omega (arith, stop_here h refl))
word_tells ts i word.Global h = Told.beyond (omega (arith, stop_here h refl))
word_tells ts i word.If h = Told.if_ h
word_tells ts i word.Import h = Told.beyond (omega (arith, stop_here h refl))
word_tells ts i word.In h = Told.in_ h
word_tells ts i word.Inline h = Told.beyond (omega (arith, stop_here h refl))
word_tells ts i word.Is h = Told.is_ h
word_tells ts i word.Not h = Told.not_ h
word_tells ts i word.Or h = Told.or h
word_tells ts i word.Pass h = Told.beyond (omega (arith, stop_here h refl))
word_tells ts i word.Raise h = Told.beyond (omega (arith, stop_here h refl))
word_tells ts i word.Return h = Told.beyond (omega (arith, stop_here h refl))
word_tells ts i word.Sizeof h = Told.beyond (omega (arith, stop_here h refl))
word_tells ts i word.While h = Told.beyond (omega (arith, stop_here h refl))
word_tells ts i word.With h = Told.beyond (omega (arith, stop_here h refl))

sign_tells : (ts : List Terminal) (i : ℕ) (o : Operator) → IsOperator ts i o → Told ts i
unfolding compare_signs
sign_tells ts i sign.Plus h = Told.binary sign.Plus h (stop_here h refl) (omega arith) (omega arith)
sign_tells ts i sign.Minus h = Told.binary sign.Minus h (stop_here h refl) (omega arith) (omega arith)
sign_tells ts i sign.Star h = Told.binary sign.Star h (stop_here h refl) (omega arith) (omega arith)
sign_tells ts i sign.DoubleSlash h = Told.binary sign.DoubleSlash h (stop_here h refl) (omega arith) (omega arith)
sign_tells ts i sign.Percent h = Told.binary sign.Percent h (stop_here h refl) (omega arith) (omega arith)
sign_tells ts i sign.LeftShift h = Told.binary sign.LeftShift h (stop_here h refl) (omega arith) (omega arith)
sign_tells ts i sign.RightShift h = Told.binary sign.RightShift h (stop_here h refl) (omega arith) (omega arith)
sign_tells ts i sign.Ampersand h = Told.binary sign.Ampersand h (stop_here h refl) (omega arith) (omega arith)
sign_tells ts i sign.Bar h = Told.binary sign.Bar h (stop_here h refl) (omega arith) (omega arith)
sign_tells ts i sign.Caret h = Told.binary sign.Caret h (stop_here h refl) (omega arith) (omega arith)
sign_tells ts i sign.Tilde h = Told.beyond (omega (arith, stop_here h refl))
sign_tells ts i sign.Less h = Told.compared compare.Less (record { spelled = sign.Less; known = (0, omega arith, refl); stands = h }) (omega (arith, stop_here h refl)) (omega (arith, stop_here h refl))
sign_tells ts i sign.Greater h = Told.compared compare.Greater (record { spelled = sign.Greater; known = (1, omega arith, refl); stands = h }) (omega (arith, stop_here h refl)) (omega (arith, stop_here h refl))
sign_tells ts i sign.LessEqual h = Told.compared compare.LessEqual (record { spelled = sign.LessEqual; known = (2, omega arith, refl); stands = h }) (omega (arith, stop_here h refl)) (omega (arith, stop_here h refl))
sign_tells ts i sign.GreaterEqual h = Told.compared compare.GreaterEqual (record { spelled = sign.GreaterEqual; known = (3, omega arith, refl); stands = h }) (omega (arith, stop_here h refl)) (omega (arith, stop_here h refl))
sign_tells ts i sign.DoubleEqual h = Told.compared compare.Equal (record { spelled = sign.DoubleEqual; known = (4, omega arith, refl); stands = h }) (omega (arith, stop_here h refl)) (omega (arith, stop_here h refl))
sign_tells ts i sign.NotEqual h = Told.compared compare.NotEqual (record { spelled = sign.NotEqual; known = (5, omega arith, refl); stands = h }) (omega (arith, stop_here h refl)) (omega (arith, stop_here h refl))
sign_tells ts i sign.OpenParenthesis h = Told.call h
sign_tells ts i sign.CloseParenthesis h = Told.beyond (omega (arith, stop_here h refl))
sign_tells ts i sign.OpenBracket h = Told.subscript h
sign_tells ts i sign.CloseBracket h = Told.beyond (omega (arith, stop_here h refl))
sign_tells ts i sign.OpenBrace h = Told.beyond (omega (arith, stop_here h refl))
sign_tells ts i sign.CloseBrace h = Told.beyond (omega (arith, stop_here h refl))
sign_tells ts i sign.Comma h = Told.beyond (omega (arith, stop_here h refl))
sign_tells ts i sign.Colon h = Told.beyond (omega (arith, stop_here h refl))
sign_tells ts i sign.Point h = Told.attribute h
sign_tells ts i sign.Semicolon h = Told.beyond (omega (arith, stop_here h refl))
sign_tells ts i sign.At h = Told.beyond (omega (arith, stop_here h refl))
sign_tells ts i sign.Equal h = Told.beyond (omega (arith, stop_here h refl))
sign_tells ts i sign.Question h = Told.beyond (omega (arith, stop_here h refl))
sign_tells ts i sign.Ellipsis h = Told.beyond (omega (arith, stop_here h refl))
sign_tells ts i sign.PlusEqual h = Told.beyond (omega (arith, stop_here h refl))
sign_tells ts i sign.MinusEqual h = Told.beyond (omega (arith, stop_here h refl))
sign_tells ts i sign.StarEqual h = Told.beyond (omega (arith, stop_here h refl))
sign_tells ts i sign.DoubleSlashEqual h = Told.beyond (omega (arith, stop_here h refl))
sign_tells ts i sign.PercentEqual h = Told.beyond (omega (arith, stop_here h refl))
sign_tells ts i sign.AmpersandEqual h = Told.beyond (omega (arith, stop_here h refl))
sign_tells ts i sign.BarEqual h = Told.beyond (omega (arith, stop_here h refl))
sign_tells ts i sign.CaretEqual h = Told.beyond (omega (arith, stop_here h refl))
sign_tells ts i sign.LeftShiftEqual h = Told.beyond (omega (arith, stop_here h refl))
sign_tells ts i sign.RightShiftEqual h = Told.beyond (omega (arith, stop_here h refl))

kind_tells : (ts : List Terminal) (i : ℕ) (k : TokenKind) → HasKind ts i k → Told ts i
kind_tells ts i kind.Name h = Told.beyond (omega (arith, stop_here h refl))
kind_tells ts i (kind.Number n) h = Told.beyond (omega (arith, stop_here h refl))
kind_tells ts i (kind.Text content) h = text_tells ts i content h (behind_text ts i) refl
kind_tells ts i (kind.Keyword w) h = word_tells ts i w h
kind_tells ts i (kind.Operator o) h = sign_tells ts i o h
kind_tells ts i kind.Foreign h = Told.beyond (omega (arith, stop_here h refl))
kind_tells ts i kind.Newline h = Told.beyond (omega (arith, stop_here h refl))
kind_tells ts i kind.Indent h = Told.beyond (omega (arith, stop_here h refl))
kind_tells ts i kind.Dedent h = Told.beyond (omega (arith, stop_here h refl))
kind_tells ts i kind.End h = Told.beyond (omega (arith, stop_here h refl))

pub told_at : (ts : List Terminal) (i : ℕ) → Told ts i
told_at ts i = by_token (slice_get ts i) refl
  where
    by_token : (o : Option Terminal) → slice_get ts i ≡ o → Told ts i
    by_token None e = Told.beyond (omega (arith, code_past ts i e, stop_above ts i))
    by_token (Some t) e = kind_tells ts i t.kind (record { token = t; stands = e; kind = refl })

-- An operator with the code of a level is in its table

level_at : (o : Operator) → 12 ≤ sign_code o → sign_code o ≤ 17 → (m : BinOp) × Contains (get_or binary_levels (17 - sign_code o) []) (o, m)
unfolding binary_levels
level_at sign.Plus low high = (op.Add, (0, omega arith, refl))
level_at sign.Minus low high = (op.Sub, (1, omega arith, refl))
level_at sign.Star low high = (op.Mul, (0, omega arith, refl))
level_at sign.DoubleSlash low high = (op.FloorDiv, (1, omega arith, refl))
level_at sign.Percent low high = (op.Mod, (2, omega arith, refl))
level_at sign.LeftShift low high = (op.Shl, (0, omega arith, refl))
level_at sign.RightShift low high = (op.Shr, (1, omega arith, refl))
level_at sign.Ampersand low high = (op.BitAnd, (0, omega arith, refl))
level_at sign.Bar low high = (op.BitOr, (0, omega arith, refl))
level_at sign.Caret low high = (op.BitXor, (0, omega arith, refl))
level_at sign.Tilde low high = absurd (omega (arith, low))
level_at sign.Less low high = absurd (omega (arith, high))
level_at sign.Greater low high = absurd (omega (arith, high))
level_at sign.LessEqual low high = absurd (omega (arith, high))
level_at sign.GreaterEqual low high = absurd (omega (arith, high))
level_at sign.DoubleEqual low high = absurd (omega (arith, high))
level_at sign.NotEqual low high = absurd (omega (arith, high))
level_at sign.OpenParenthesis low high = absurd (omega (arith, low))
level_at sign.CloseParenthesis low high = absurd (omega (arith, high))
level_at sign.OpenBracket low high = absurd (omega (arith, low))
level_at sign.CloseBracket low high = absurd (omega (arith, high))
level_at sign.OpenBrace low high = absurd (omega (arith, low))
level_at sign.CloseBrace low high = absurd (omega (arith, high))
level_at sign.Comma low high = absurd (omega (arith, high))
level_at sign.Colon low high = absurd (omega (arith, high))
level_at sign.Point low high = absurd (omega (arith, low))
level_at sign.Semicolon low high = absurd (omega (arith, high))
level_at sign.At low high = absurd (omega (arith, high))
level_at sign.Equal low high = absurd (omega (arith, high))
level_at sign.Question low high = absurd (omega (arith, high))
level_at sign.Ellipsis low high = absurd (omega (arith, high))
level_at sign.PlusEqual low high = absurd (omega (arith, high))
level_at sign.MinusEqual low high = absurd (omega (arith, high))
level_at sign.StarEqual low high = absurd (omega (arith, high))
level_at sign.DoubleSlashEqual low high = absurd (omega (arith, high))
level_at sign.PercentEqual low high = absurd (omega (arith, high))
level_at sign.AmpersandEqual low high = absurd (omega (arith, high))
level_at sign.BarEqual low high = absurd (omega (arith, high))
level_at sign.CaretEqual low high = absurd (omega (arith, high))
level_at sign.LeftShiftEqual low high = absurd (omega (arith, high))
level_at sign.RightShiftEqual low high = absurd (omega (arith, high))

-- The levels of binary operators

-- each operator with the code of the level is in its table
abbrev pub AreWhole : List Level → Type 0
AreWhole [] = Unit {0}
AreWhole (level ∷ tighter) = (((o : Operator) → sign_code o ≡ 12 + length tighter → (m : BinOp) × Contains level (o, m)) × (length tighter ≤ 5)) × AreWhole tighter

of_level : (level : Level) (n : ℕ) → 12 ≤ n → n ≤ 17 → get_or binary_levels (17 - n) [] ≡ level → (o : Operator) → sign_code o ≡ n → (m : BinOp) × Contains level (o, m)
of_level level n low high same o e =
    let row = level_at o (omega (arith, e, low)) (omega (arith, e, high)) in
    (row.0, subst (λ l. Contains l (o, row.0)) (ap (λ c. get_or binary_levels (17 - c) []) e ∙ same) row.1)

pub are_whole : AreWhole binary_levels
unfolding binary_levels
are_whole = (
  (of_level _ 17 (omega arith) (omega arith) refl, omega arith),
  (
    (of_level _ 16 (omega arith) (omega arith) refl, omega arith),
    (
      (of_level _ 15 (omega arith) (omega arith) refl, omega arith),
      ((of_level _ 14 (omega arith) (omega arith) refl, omega arith), ((of_level _ 13 (omega arith) (omega arith) refl, omega arith), ((of_level _ 12 (omega arith) (omega arith) refl, omega arith), tt))),
    ),
  ),
)
