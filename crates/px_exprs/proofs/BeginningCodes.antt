-- An expression begins with a token whose code is one of those that begin one.
use Rattle.std.proofs.Common.{◌≡◌, ℕ, true, false, List, [], ◌∷◌, Option, Some, None, All, refl, ap, ◌∙◌}
use Rattle.std.specs.Prelude.{slice_get}
use Rattle.std.proofs.lemmas.List.Elements.{All-contains, All-cons, All-nil}
use Rattle.px_base.specs.declared.c_types.UnOp.{UnOp}
use Rattle.px_base.specs.declared.c_types.UnOp.TheVariants as unary
use Rattle.px_lexer.specs.declared.spelling.Operator.{Operator}
use Rattle.px_lexer.specs.declared.spelling.Operator.TheVariants as sign
use Rattle.px_tree.specs.declared.expressions.Expr.{Expr}
use Rattle.px_lexer.specs.declared.token_list.TokenKind.{TokenKind}
use Rattle.px_lexer.specs.Terminals.{Terminal, HasKind}
use Rattle.px_exprs.specs.Grammar.{Level, unary_operators, IsOf, IsExpr, IsOr, IsAnd, IsNot, IsCompare, IsBinary, IsUnary, IsPrimary, IsAtom}
use Rattle.px_exprs.specs.Codes.{code_of, code_at, sign_code, begins_code}
use Rattle.px_exprs.proofs.Codes.{code_here, name_code}
use Rattle.px_exprs.proofs.Beginnings.{texts_begin}

-- a unary operator
abbrev BeginsRow : Operator × UnOp → Type 0
BeginsRow row = begins_code (sign_code row.0) ≡ true

signs_begin : All BeginsRow unary_operators
unfolding unary_operators
signs_begin =
    All-cons BeginsRow (sign.Plus, unary.Plus) ((sign.Minus, unary.Minus) ∷ (sign.Tilde, unary.Invert) ∷ []) refl
    (All-cons BeginsRow (sign.Minus, unary.Minus) ((sign.Tilde, unary.Invert) ∷ []) refl (All-cons BeginsRow (sign.Tilde, unary.Invert) [] refl (All-nil BeginsRow)))

sign_codes : {ts : List Terminal} {i : ℕ} {m : UnOp} → IsOf unary_operators ts i m → begins_code (code_at ts i) ≡ true
sign_codes {m = m} g = ap begins_code (code_here g.stands) ∙ All-contains BeginsRow unary_operators (g.spelled, m) signs_begin g.known

atom_codes : {ts : List Terminal} {i d j : ℕ} {e : Expr} → IsAtom ts i e d j → begins_code (code_at ts i) ≡ true
atom_codes (IsAtom.name at n e) = ap begins_code (name_code n)
atom_codes (IsAtom.number at h e) = ap begins_code (code_here h)
atom_codes (IsAtom.texts at t e) = ap begins_code (texts_begin t)
atom_codes (IsAtom.true_ at h e) = ap begins_code (code_here h)
atom_codes (IsAtom.false_ at h e) = ap begins_code (code_here h)
atom_codes (IsAtom.none at h e) = ap begins_code (code_here h)
atom_codes (IsAtom.sizeof at h opened t closed e) = ap begins_code (code_here h)
atom_codes (IsAtom.in_parentheses opened p closed) = ap begins_code (code_here opened)
atom_codes (IsAtom.empty_tuple at opened closed e) = ap begins_code (code_here opened)
atom_codes (IsAtom.tuple at opened p closed e) = ap begins_code (code_here opened)
atom_codes (IsAtom.empty_list at opened closed e) = ap begins_code (code_here opened)
atom_codes (IsAtom.list at opened p ending closed e) = ap begins_code (code_here opened)
atom_codes (IsAtom.empty_dict at opened closed e) = ap begins_code (code_here opened)
atom_codes (IsAtom.dict at opened p ending closed e) = ap begins_code (code_here opened)

primary_codes : {ts : List Terminal} {i d j : ℕ} {e : Expr} → IsPrimary ts i e d j → begins_code (code_at ts i) ≡ true
primary_codes (IsPrimary.one_atom p) = atom_codes p
primary_codes (IsPrimary.row at p others e) = atom_codes p

unary_codes : {ts : List Terminal} {i d j : ℕ} {e : Expr} → IsUnary ts i e d j → begins_code (code_at ts i) ≡ true
unary_codes (IsUnary.signed at meant p e) = sign_codes meant
unary_codes (IsUnary.cast at less t greater p e) = ap begins_code (code_here less)
unary_codes (IsUnary.unsigned p) = primary_codes p

binary_codes : {ts : List Terminal} {levels : List Level} {i d j : ℕ} {e : Expr} → IsBinary ts levels i e d j → begins_code (code_at ts i) ≡ true
binary_codes (IsBinary.tightest p) = unary_codes p
binary_codes (IsBinary.alone p) = binary_codes p
binary_codes (IsBinary.binary_chain at p others e) = binary_codes p

compare_codes : {ts : List Terminal} {i d j : ℕ} {e : Expr} → IsCompare ts i e d j → begins_code (code_at ts i) ≡ true
compare_codes (IsCompare.one_operand p) = binary_codes p
compare_codes (IsCompare.compare_chain at p others e) = binary_codes p

not_codes : {ts : List Terminal} {i d j : ℕ} {e : Expr} → IsNot ts i e d j → begins_code (code_at ts i) ≡ true
not_codes (IsNot.compared p) = compare_codes p
not_codes (IsNot.denied at denial p e) = ap begins_code (code_here denial)

and_codes : {ts : List Terminal} {i d j : ℕ} {e : Expr} → IsAnd ts i e d j → begins_code (code_at ts i) ≡ true
and_codes (IsAnd.one_not p) = not_codes p
and_codes (IsAnd.and_chain at p others e) = not_codes p

or_codes : {ts : List Terminal} {i d j : ℕ} {e : Expr} → IsOr ts i e d j → begins_code (code_at ts i) ≡ true
or_codes (IsOr.one_and p) = and_codes p
or_codes (IsOr.or_chain at p others e) = and_codes p

pub expr_codes : {ts : List Terminal} {i d j : ℕ} {e : Expr} → IsExpr ts i e d j → begins_code (code_at ts i) ≡ true
expr_codes (IsExpr.plain p) = or_codes p
expr_codes (IsExpr.conditional at p condition q otherwise r e) = or_codes p

-- where no token stands, none begins
pub no_code : {ts : List Terminal} {i : ℕ} → ((k : TokenKind) → HasKind ts i k → ⊥) → begins_code (code_at ts i) ≡ false
unfolding code_at
no_code {ts} {i} none = nothing (slice_get ts i) refl
  where
    nothing : (found : Option Terminal) → slice_get ts i ≡ found → begins_code (code_of (slice_get ts i)) ≡ false
    nothing None e = ap (λ x. begins_code (code_of x)) e
    nothing (Some t) e = absurd (none t.kind (record { token = t; stands = e; kind = refl }))
