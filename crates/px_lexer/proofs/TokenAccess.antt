-- What a look at one token says of the terminals.
use Rattle.std.proofs.Common.{◌≡◌, ℕ, ◌<◌, ◌≤◌, length, List, Some, None, Bor, Contains, slice_index_or, option_map, refl, sym, ap, subst, ◌∙◌, arith}
use Rattle.std.specs.Prelude.{slice_get}
use Rattle.std.specs.Slice.{IsItemAt}
use Rattle.std.proofs.lemmas.Option.{slice_get-map, slice_get_read, slice_get_past, slice_get_within, none-some}
use Rattle.std.proofs.lemmas.List.{length-map}
use Rattle.px_lexer.specs.declared.token_list.Token.{Token}
use Rattle.px_lexer.specs.declared.token_list.Tokens.{Tokens}
use Rattle.px_lexer.specs.declared.token_list.TokenKind.{TokenKind}
use Rattle.px_lexer.specs.declared.token_list.TokenKind.TheVariants as kind
use Rattle.px_lexer.specs.Terminals.{Terminal, terminal_of, terminals, terminals_of, Stands, HasKind, IsName}
use Rattle.px_lexer.proofs.OneToken.{one_token}

-- Items of the list

pub token_stands : (tokens : Tokens) (i : ℕ) (t : Token) → i < length tokens.list → t ≡ slice_index_or tokens.list i t → Stands (terminals_of tokens) i (terminal_of tokens.text t)
unfolding terminals
token_stands tokens i t lt e = slice_get-map (terminal_of tokens.text) tokens.list i ∙ ap (option_map (terminal_of tokens.text)) (slice_get_read tokens.list (length tokens.list) i t refl lt e)

pub item_stands : (tokens : Tokens) (xs : List Token) (i : ℕ) (r : Bor Token) → xs ≡ tokens.list → IsItemAt xs i (Some r) → Stands (terminals_of tokens) i (terminal_of tokens.text r.now)
item_stands tokens xs i r e h =
    let there = subst (λ ys. IsItemAt ys i (Some r)) e h in
    token_stands tokens i r.now there.3.0 there.1

pub item_known : (tokens : Tokens) (xs : List Token) (i : ℕ) (r : Bor Token) → xs ≡ tokens.list → IsItemAt xs i (Some r) → Contains tokens.list r.now
item_known tokens xs i r e h =
    let there = subst (λ ys. IsItemAt ys i (Some r)) e h in
    (i, there.3.0, sym there.1)

past_none : (tokens : Tokens) (i : ℕ) → length tokens.list ≤ i → slice_get (terminals_of tokens) i ≡ None
unfolding terminals
past_none tokens i le = slice_get-map (terminal_of tokens.text) tokens.list i ∙ ap (option_map (terminal_of tokens.text)) (slice_get_past tokens.list i le)

pub no_item : (tokens : Tokens) (xs : List Token) (i : ℕ) → xs ≡ tokens.list → IsItemAt xs i None → (t : Terminal) → Stands (terminals_of tokens) i t → ⊥
no_item tokens xs i e h t s =
    let there = subst (λ ys. IsItemAt ys i None) e h in
    none-some t (sym (past_none tokens i there.3) ∙ s)

pub length_terminals : (tokens : Tokens) → length (terminals_of tokens) ≡ length tokens.list
unfolding terminals
length_terminals tokens = length-map tokens.list (terminal_of tokens.text)

pub stands_within : (tokens : Tokens) (i : ℕ) (t : Terminal) → Stands (terminals_of tokens) i t → i < length tokens.list
stands_within tokens i t s = omega (arith, slice_get_within (terminals_of tokens) i t s, length_terminals tokens)

-- the kind of the token that stands at an index
pub kind_there : (ts : List Terminal) (i : ℕ) {t u : Terminal} {k : TokenKind} → Stands ts i t → Stands ts i u → u.kind ≡ k → t.kind ≡ k
kind_there ts i {t} {u} s r e = ap (λ (x : Terminal). x.kind) (one_token ts i t u s r) ∙ e

-- Identifiers

pub some_name : {ts : List Terminal} {i : ℕ} → HasKind ts i kind.Name → (name : List ℕ) × IsName ts i name
some_name h = (h.token.spelling, record { token = h.token; stands = h.stands; kind = h.kind; spelled = refl })

pub name_kind : {ts : List Terminal} {i : ℕ} {name : List ℕ} → IsName ts i name → HasKind ts i kind.Name
name_kind h = record { token = h.token; stands = h.stands; kind = h.kind }
