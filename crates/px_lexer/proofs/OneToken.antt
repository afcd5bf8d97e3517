-- One token stands at an index, with one kind, place and spelling.
use Rattle.std.proofs.Common.{◌≡◌, ℕ, ℤ, pos, List, [], Some, sym, ap, ◌∙◌}
use Rattle.px_base.specs.declared.refusals.Span.{Span}
use Rattle.px_lexer.specs.declared.spelling.Keyword.{Keyword}
use Rattle.px_lexer.specs.declared.spelling.Keyword.TheVariants as word
use Rattle.px_lexer.specs.declared.spelling.Operator.{Operator}
use Rattle.px_lexer.specs.declared.spelling.Operator.TheVariants as sign
use Rattle.px_lexer.specs.declared.token_list.TokenKind.{TokenKind}
use Rattle.px_lexer.specs.declared.token_list.TokenKind.TheVariants as kind
use Rattle.px_lexer.specs.Terminals.{Terminal, Stands, HasKind, IsKeyword, IsOperator, IsName, IsAt}

some_same : {A : Type 0} {x y : A} → Some x ≡ Some y → x ≡ y
some_same e = cc

pub one_token : (ts : List Terminal) (i : ℕ) (t u : Terminal) → Stands ts i t → Stands ts i u → t ≡ u
one_token ts i t u s r = some_same (sym s ∙ r)

pub one_kind : {ts : List Terminal} {i : ℕ} {k l : TokenKind} → HasKind ts i k → HasKind ts i l → k ≡ l
one_kind {ts} {i} g h = sym g.kind ∙ ap (λ (t : Terminal). t.kind) (one_token ts i _ _ g.stands h.stands) ∙ h.kind

pub one_place : {ts : List Terminal} {i : ℕ} {at place : Span} → IsAt ts i at → IsAt ts i place → at ≡ place
one_place {ts} {i} g h = sym g.placed ∙ ap (λ (t : Terminal). t.at) (one_token ts i _ _ g.stands h.stands) ∙ h.placed

pub one_name : {ts : List Terminal} {i : ℕ} {name other : List ℕ} → IsName ts i name → IsName ts i other → name ≡ other
one_name {ts} {i} g h = sym g.spelled ∙ ap (λ (t : Terminal). t.spelling) (one_token ts i _ _ g.stands h.stands) ∙ h.spelled

abbrev pub number_of : TokenKind → ℤ
number_of (kind.Number n) = n
number_of _ = pos 0

pub one_number : {ts : List Terminal} {i : ℕ} {n m : ℤ} → HasKind ts i (kind.Number n) → HasKind ts i (kind.Number m) → n ≡ m
one_number g h = ap number_of (one_kind g h)

abbrev content_of : TokenKind → List ℕ
content_of (kind.Text content) = content
content_of _ = []

pub one_content : {ts : List Terminal} {i : ℕ} {content other : List ℕ} → HasKind ts i (kind.Text content) → HasKind ts i (kind.Text other) → content ≡ other
one_content g h = ap content_of (one_kind g h)

abbrev operator_of : TokenKind → Operator
operator_of (kind.Operator o) = o
operator_of _ = sign.Comma

pub one_operator : {ts : List Terminal} {i : ℕ} {o p : Operator} → IsOperator ts i o → IsOperator ts i p → o ≡ p
one_operator g h = ap operator_of (one_kind g h)

abbrev keyword_of : TokenKind → Keyword
keyword_of (kind.Keyword k) = k
keyword_of _ = word.None

pub one_keyword : {ts : List Terminal} {i : ℕ} {k l : Keyword} → IsKeyword ts i k → IsKeyword ts i l → k ≡ l
one_keyword g h = ap keyword_of (one_kind g h)
