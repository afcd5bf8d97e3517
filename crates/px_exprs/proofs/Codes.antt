-- Laws of the codes of tokens.
use Rattle.std.proofs.Common.{◌≡◌, ℕ, List, None, ap, ◌∙◌}
use Rattle.std.specs.Prelude.{slice_get}
use Rattle.px_lexer.specs.declared.token_list.TokenKind.{TokenKind}
use Rattle.px_lexer.specs.Terminals.{Terminal, HasKind, IsName}
use Rattle.px_exprs.specs.Codes.{kind_code, code_of, code_at}

pub code_here : {ts : List Terminal} {i : ℕ} {k : TokenKind} → HasKind ts i k → code_at ts i ≡ kind_code k
unfolding code_at
code_here h = ap code_of h.stands ∙ ap kind_code h.kind

pub name_code : {ts : List Terminal} {i : ℕ} {name : List ℕ} → IsName ts i name → code_at ts i ≡ 2
unfolding code_at
name_code h = ap code_of h.stands ∙ ap kind_code h.kind

-- behind the last token
pub code_past : (ts : List Terminal) (i : ℕ) → slice_get ts i ≡ None → code_at ts i ≡ 35
unfolding code_at
code_past ts i e = ap code_of e
