-- A name is each form of an expression, so each can begin wherever the tokens end.
use Rattle.std.proofs.Common.{◌≡◌, ℕ, suc, ◌≤◌, ◌++◌, length, take, List, [], ◌∷◌, refl, sym, subst, arith}
use Rattle.std.proofs.lemmas.List.{length-append, length-take-le}
use Rattle.px_lexer.specs.declared.token_list.TokenKind.TheVariants as kind
use Rattle.px_tree.specs.declared.expressions.ExprForm.TheVariants as form
use Rattle.px_lexer.specs.Terminals.{Terminal, Stands}
use Rattle.px_exprs.specs.Grammar.{Level, binary_levels, node, IsExpr, IsOr, IsAnd, IsNot, IsCompare, IsBinary, IsUnary, IsPrimary, IsAtom}
use Rattle.px_exprs.specs.Readings.{Form, HasShallow}
use Rattle.px_exprs.proofs.Agreement.{agree_take}

abbrev pub some_name : Terminal
some_name = record { kind = kind.Name; at = record { line = 1; column = 1 }; spelling = [] }

-- the form that a name behind these tokens has
abbrev pub IsFresh : {A : Type 0} → Form A → Type 0
IsFresh {A} X = (us : List Terminal) → (e : A) × X (us ++ some_name ∷ []) (length us) e 0 (suc (length us))

pub stands_behind : (us : List Terminal) (t : Terminal) → Stands (us ++ t ∷ []) (length us) t
stands_behind [] t = refl
stands_behind (u ∷ us) t = stands_behind us t

pub fresh_atom : IsFresh IsAtom
fresh_atom us =
    let stands = stands_behind us some_name in (
      node (length us) some_name.at (form.Name []),
      IsAtom.name (record { token = some_name; stands = stands; placed = refl }) (record { token = some_name; stands = stands; kind = refl; spelled = refl }) refl,
    )

pub fresh_primary : IsFresh IsPrimary
fresh_primary us = let atom = fresh_atom us in (atom.0, IsPrimary.one_atom atom.1)

pub fresh_unary : IsFresh IsUnary
fresh_unary us = let primary = fresh_primary us in (primary.0, IsUnary.unsigned primary.1)

pub fresh_binary : (levels : List Level) → IsFresh (λ ts. IsBinary ts levels)
fresh_binary [] us = let unary = fresh_unary us in (unary.0, IsBinary.tightest unary.1)
fresh_binary (level ∷ tighter) us = let operand = fresh_binary tighter us in (operand.0, IsBinary.alone operand.1)

pub fresh_operand : IsFresh (λ ts. IsBinary ts binary_levels)
fresh_operand = fresh_binary binary_levels

pub fresh_compare : IsFresh IsCompare
fresh_compare us = let operand = fresh_operand us in (operand.0, IsCompare.one_operand operand.1)

pub fresh_not : IsFresh IsNot
fresh_not us = let compare = fresh_compare us in (compare.0, IsNot.compared compare.1)

pub fresh_and : IsFresh IsAnd
fresh_and us = let operand = fresh_not us in (operand.0, IsAnd.one_not operand.1)

pub fresh_or : IsFresh IsOr
fresh_or us = let operand = fresh_and us in (operand.0, IsOr.one_and operand.1)

pub fresh_expr : IsFresh IsExpr
fresh_expr us = let plain = fresh_or us in (plain.0, IsExpr.plain plain.1)

-- Ways on

pub fresh_way : {A : Type 0} (X : Form A) → IsFresh X → (ts : List Terminal) (k room : ℕ) → k ≤ length ts → HasShallow X ts k k room
fresh_way X fresh ts k room le =
    let cut : length (take k ts) ≡ k = length-take-le k ts le in
    let tokens : List Terminal = take k ts ++ some_name ∷ [] in
    let long : length tokens ≡ suc k = omega (arith, length-append (take k ts) (some_name ∷ []), cut) in
    let made = fresh (take k ts) in
    let here : X tokens k made.0 0 (suc k) = subst (λ n. X tokens n made.0 0 (suc n)) cut made.1 in
    record {
      way = record {
        tokens = tokens;
        same = agree_take k ts (some_name ∷ []) le;
        long = omega (arith, long);
        tree = made.0;
        depth = 0;
        derived = subst (λ n. X tokens k made.0 0 n) (sym long) here;
      };
      shallow = omega arith;
    }

pub way_atom : (ts : List Terminal) (k room : ℕ) → k ≤ length ts → HasShallow IsAtom ts k k room
way_atom = fresh_way IsAtom fresh_atom

pub way_primary : (ts : List Terminal) (k room : ℕ) → k ≤ length ts → HasShallow IsPrimary ts k k room
way_primary = fresh_way IsPrimary fresh_primary

pub way_unary : (ts : List Terminal) (k room : ℕ) → k ≤ length ts → HasShallow IsUnary ts k k room
way_unary = fresh_way IsUnary fresh_unary

pub way_binary : (levels : List Level) (ts : List Terminal) (k room : ℕ) → k ≤ length ts → HasShallow (λ us. IsBinary us levels) ts k k room
way_binary levels = fresh_way (λ us. IsBinary us levels) (fresh_binary levels)

pub way_operand : (ts : List Terminal) (k room : ℕ) → k ≤ length ts → HasShallow (λ us. IsBinary us binary_levels) ts k k room
way_operand = fresh_way (λ us. IsBinary us binary_levels) fresh_operand

pub way_compare : (ts : List Terminal) (k room : ℕ) → k ≤ length ts → HasShallow IsCompare ts k k room
way_compare = fresh_way IsCompare fresh_compare

pub way_not : (ts : List Terminal) (k room : ℕ) → k ≤ length ts → HasShallow IsNot ts k k room
way_not = fresh_way IsNot fresh_not

pub way_and : (ts : List Terminal) (k room : ℕ) → k ≤ length ts → HasShallow IsAnd ts k k room
way_and = fresh_way IsAnd fresh_and

pub way_or : (ts : List Terminal) (k room : ℕ) → k ≤ length ts → HasShallow IsOr ts k k room
way_or = fresh_way IsOr fresh_or

pub way_expr : (ts : List Terminal) (k room : ℕ) → k ≤ length ts → HasShallow IsExpr ts k k room
way_expr = fresh_way IsExpr fresh_expr
