use Rattle.std.proofs.Common.{◌≡◌, false, ℤ, List, ℕ, refl, sym, ap, ◌∙◌}
use Rattle.px_lexer.specs.declared.spelling.Keyword.{Keyword}
use Rattle.px_lexer.specs.declared.spelling.Operator.{Operator}
use Rattle.px_lexer.specs.declared.token_list.TokenKind.{TokenKind}
use Rattle.px_lexer.specs.declared.token_list.TokenKind.TheVariants as kind
use Rattle.px_exprs.specs.Codes.{kind_code, begins_code}
use Rattle.px_exprs.proofs.Codes.{code_here}
use Rattle.px_exprs.proofs.BeginningCodes.{no_code}
use Rattle.px_exprs.proofs.words.begins_expr.Goals as goal

pub returns-in_default : goal.returns-in_default
returns-in_default c = sym (no_code c.in_default.ensures)

pub returns-in-Name : goal.returns-in-Name
returns-in-Name c = sym (ap begins_code (code_here c.in-Some.ensures ∙ ap kind_code c.in-Name.is))

pub returns-in-Number : goal.returns-in-Number
returns-in-Number c = sym (ap begins_code (code_here c.in-Some.ensures ∙ ap kind_code c.in-Number.is))

pub returns-in-Text : goal.returns-in-Text
returns-in-Text c = sym (ap begins_code (code_here c.in-Some.ensures ∙ ap kind_code c.in-Text.is))

pub returns-in-Keyword : goal.returns-in-Keyword
returns-in-Keyword c = c.begins_with_keyword.ensures ∙ sym (ap begins_code (code_here c.in-Some.ensures ∙ ap kind_code c.in-Keyword.is))

pub returns-in-Operator : goal.returns-in-Operator
returns-in-Operator c = c.begins_with_operator.ensures ∙ sym (ap begins_code (code_here c.in-Some.ensures ∙ ap kind_code c.in-Operator.is))

-- each other kind has a code that begins nothing
other : (k : TokenKind) → (k ≡ kind.Name → ⊥) → ((n : ℤ) → k ≡ kind.Number n → ⊥) → ((content : List ℕ) → k ≡ kind.Text content → ⊥) → ((w : Keyword) → k ≡ kind.Keyword w → ⊥)
    → ((o : Operator) → k ≡ kind.Operator o → ⊥)
    → begins_code (kind_code k) ≡ false
other kind.Name a b d e f = absurd (a refl)
other (kind.Number n) a b d e f = absurd (b n refl)
other (kind.Text content) a b d e f = absurd (d content refl)
other (kind.Keyword w) a b d e f = absurd (e w refl)
other (kind.Operator o) a b d e f = absurd (f o refl)
other kind.Foreign a b d e f = refl
other kind.Newline a b d e f = refl
other kind.Indent a b d e f = refl
other kind.Dedent a b d e f = refl
other kind.End a b d e f = refl

pub returns-in_default-found : goal.returns-in_default-found
returns-in_default-found c =
    let h = c.in_default-found in
    sym (ap begins_code (code_here c.in-Some.ensures) ∙ other _ h.not-Name h.not-Number h.not-Text h.not-Keyword h.not-Operator)
