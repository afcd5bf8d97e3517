use Rattle.std.proofs.Common.{◌≡◌, ℕ, ℤ, true, List, Option, Some, None, refl, sym, ap, ◌∙◌}
use Rattle.std.specs.Prelude.{nat_lt, not, slice_get}
use Rattle.px_lexer.specs.declared.spelling.Keyword.{Keyword}
use Rattle.px_lexer.specs.declared.spelling.Operator.{Operator}
use Rattle.px_lexer.specs.declared.token_list.TokenKind.{TokenKind}
use Rattle.px_lexer.specs.declared.token_list.TokenKind.TheVariants as kind
use Rattle.px_lexer.specs.Terminals.{Terminal, HasKind}
use Rattle.px_exprs.specs.Codes.{kind_code, code_of, code_at}
use Rattle.px_exprs.proofs.Codes.{code_here}
use Rattle.px_parser.proofs.words.ends_exprs.Goals as goal

-- where no token stands, a list may end
no_code : {ts : List Terminal} {i : ℕ} → ((k : TokenKind) → HasKind ts i k → ⊥) → not (nat_lt (code_at ts i) 28) ≡ true
unfolding code_at
no_code {ts} {i} none = nothing (slice_get ts i) refl
  where
    nothing : (found : Option Terminal) → slice_get ts i ≡ found → not (nat_lt (code_of (slice_get ts i)) 28) ≡ true
    nothing None e = ap (λ x. not (nat_lt (code_of x) 28)) e
    nothing (Some t) e = absurd (none t.kind (record { token = t; stands = e; kind = refl }))

-- each other kind has a code before which it may end
other : (k : TokenKind) → (k ≡ kind.Name → ⊥) → ((n : ℤ) → k ≡ kind.Number n → ⊥) → ((content : List ℕ) → k ≡ kind.Text content → ⊥) → ((w : Keyword) → k ≡ kind.Keyword w → ⊥)
    → ((o : Operator) → k ≡ kind.Operator o → ⊥)
    → not (nat_lt (kind_code k) 28) ≡ true
other kind.Name a b d e f = absurd (a refl)
other (kind.Number n) a b d e f = absurd (b n refl)
other (kind.Text content) a b d e f = absurd (d content refl)
other (kind.Keyword w) a b d e f = absurd (e w refl)
other (kind.Operator o) a b d e f = absurd (f o refl)
other kind.Foreign a b d e f = refl
other kind.Newline a b d e f = refl
other kind.Indent a b d e f = refl
other kind.Dedent a b d e f = refl
other kind.End a b d e f = refl

pub returns-in_default : goal.returns-in_default
returns-in_default c = sym (no_code c.in_default.ensures)

pub returns-in-Name : goal.returns-in-Name
returns-in-Name c = sym (ap (λ n. not (nat_lt n 28)) (code_here c.in-Some.ensures ∙ ap kind_code c.in-Name.is))

pub returns-in-Number : goal.returns-in-Number
returns-in-Number c = sym (ap (λ n. not (nat_lt n 28)) (code_here c.in-Some.ensures ∙ ap kind_code c.in-Number.is))

pub returns-in-Text : goal.returns-in-Text
returns-in-Text c = sym (ap (λ n. not (nat_lt n 28)) (code_here c.in-Some.ensures ∙ ap kind_code c.in-Text.is))

pub returns-in-Keyword : goal.returns-in-Keyword
returns-in-Keyword c = c.ends_before_keyword.ensures ∙ sym (ap (λ n. not (nat_lt n 28)) (code_here c.in-Some.ensures ∙ ap kind_code c.in-Keyword.is))

pub returns-in-Operator : goal.returns-in-Operator
returns-in-Operator c = c.ends_before_operator.ensures ∙ sym (ap (λ n. not (nat_lt n 28)) (code_here c.in-Some.ensures ∙ ap kind_code c.in-Operator.is))

pub returns-in_default-found : goal.returns-in_default-found
returns-in_default-found c =
    let h = c.in_default-found in
    sym (ap (λ n. not (nat_lt n 28)) (code_here c.in-Some.ensures) ∙ other _ h.not-Name h.not-Number h.not-Text h.not-Keyword h.not-Operator)
