-- Which tokens an expression begins with.
use Rattle.std.proofs.Common.{◌≡◌, ℕ, suc, ◌+◌, ◌≤◌, ◌⊎◌, inl, inr, length, List, ◌∷◌, Option, refl, ap, arith}
use Rattle.px_lexer.specs.declared.spelling.Operator.TheVariants as sign
use Rattle.px_tree.specs.declared.expressions.Expr.{Expr}
use Rattle.px_tree.specs.declared.expressions.Comparison.{Comparison}
use Rattle.px_tree.specs.declared.expressions.CompareOp.{CompareOp}
use Rattle.px_tree.specs.declared.expressions.Link.{Link}
use Rattle.px_tree.specs.declared.expressions.Trailer.{Trailer}
use Rattle.px_tree.specs.declared.expressions.Argument.{Argument}
use Rattle.px_tree.specs.declared.expressions.Item.{Item}
use Rattle.px_tree.specs.declared.expressions.Entry.{Entry}
use Rattle.px_lexer.specs.Terminals.{Terminal, IsOperator}
use Rattle.px_exprs.specs.Grammar.{Level, binary_levels, AreTexts, IsCompareOp, IsExpr, IsOr, AreOrs, IsAnd, AreAnds, IsNot, IsCompare, AreComparisons, IsBinary, AreLinks, IsUnary, IsPrimary, AreTrailers, IsTrailer, AreArguments, IsArgument, AreItems, IsItem, MaybeExpr, AreExprs, AreEntries, IsAtom}
use Rattle.px_exprs.specs.Codes.{code_at}
use Rattle.px_exprs.proofs.Codes.{code_here, name_code}
use Rattle.px_exprs.proofs.Tables.{AreLevels, unary_code, compare_code, binary_code, are_levels, six_levels}

-- What an operand or a list begins with

pub texts_begin : {ts : List Terminal} {i j : ℕ} {contents : List (List ℕ)} → AreTexts ts i contents j → code_at ts i ≡ 0
texts_begin (AreTexts.last_text t) = code_here t
texts_begin (AreTexts.more_texts t others) = code_here t

-- the code of the first token of an atom, by its form
abbrev atom_code : {ts : List Terminal} {i d j : ℕ} {e : Expr} → IsAtom ts i e d j → ℕ
atom_code (IsAtom.name at n e) = 2
atom_code (IsAtom.number at h e) = 3
atom_code (IsAtom.texts at t e) = 0
atom_code (IsAtom.true_ at h e) = 4
atom_code (IsAtom.false_ at h e) = 5
atom_code (IsAtom.none at h e) = 6
atom_code (IsAtom.sizeof at h opened t closed e) = 7
atom_code (IsAtom.in_parentheses opened p closed) = 9
atom_code (IsAtom.empty_tuple at opened closed e) = 9
atom_code (IsAtom.tuple at opened p closed e) = 9
atom_code (IsAtom.empty_list at opened closed e) = 10
atom_code (IsAtom.list at opened p ending closed e) = 10
atom_code (IsAtom.empty_dict at opened closed e) = 8
atom_code (IsAtom.dict at opened p ending closed e) = 8

pub atom_first : {ts : List Terminal} {i d j : ℕ} {e : Expr} (p : IsAtom ts i e d j) → code_at ts i ≡ atom_code p
atom_first (IsAtom.name at n e) = name_code n
atom_first (IsAtom.number at h e) = code_here h
atom_first (IsAtom.texts at t e) = texts_begin t
atom_first (IsAtom.true_ at h e) = code_here h
atom_first (IsAtom.false_ at h e) = code_here h
atom_first (IsAtom.none at h e) = code_here h
atom_first (IsAtom.sizeof at h opened t closed e) = code_here h
atom_first (IsAtom.in_parentheses opened p closed) = code_here opened
atom_first (IsAtom.empty_tuple at opened closed e) = code_here opened
atom_first (IsAtom.tuple at opened p closed e) = code_here opened
atom_first (IsAtom.empty_list at opened closed e) = code_here opened
atom_first (IsAtom.list at opened p ending closed e) = code_here opened
atom_first (IsAtom.empty_dict at opened closed e) = code_here opened
atom_first (IsAtom.dict at opened p ending closed e) = code_here opened

pub atom_begins : {ts : List Terminal} {i d j : ℕ} {e : Expr} → IsAtom ts i e d j → code_at ts i ≤ 10
atom_begins p = omega (arith, atom_first p, bound p)
  where
    bound : {ts : List Terminal} {i d j : ℕ} {e : Expr} (p : IsAtom ts i e d j) → atom_code p ≤ 10
    bound (IsAtom.name at n e) = omega arith
    bound (IsAtom.number at h e) = omega arith
    bound (IsAtom.texts at t e) = omega arith
    bound (IsAtom.true_ at h e) = omega arith
    bound (IsAtom.false_ at h e) = omega arith
    bound (IsAtom.none at h e) = omega arith
    bound (IsAtom.sizeof at h opened t closed e) = omega arith
    bound (IsAtom.in_parentheses opened p closed) = omega arith
    bound (IsAtom.empty_tuple at opened closed e) = omega arith
    bound (IsAtom.tuple at opened p closed e) = omega arith
    bound (IsAtom.empty_list at opened closed e) = omega arith
    bound (IsAtom.list at opened p ending closed e) = omega arith
    bound (IsAtom.empty_dict at opened closed e) = omega arith
    bound (IsAtom.dict at opened p ending closed e) = omega arith

pub primary_begins : {ts : List Terminal} {i d j : ℕ} {e : Expr} → IsPrimary ts i e d j → code_at ts i ≤ 10
primary_begins (IsPrimary.one_atom p) = atom_begins p
primary_begins (IsPrimary.row at p others e) = atom_begins p

pub unary_begins : {ts : List Terminal} {i d j : ℕ} {e : Expr} → IsUnary ts i e d j → code_at ts i ≤ 18
unary_begins (IsUnary.signed at meant p e) = omega (arith, (unary_code meant).1)
unary_begins (IsUnary.cast at less t greater p e) = omega (arith, code_here less)
unary_begins (IsUnary.unsigned p) = omega (arith, primary_begins p)

pub binary_begins : {ts : List Terminal} {levels : List Level} {i d j : ℕ} {e : Expr} → IsBinary ts levels i e d j → code_at ts i ≤ 18
binary_begins (IsBinary.tightest p) = unary_begins p
binary_begins (IsBinary.alone p) = binary_begins p
binary_begins (IsBinary.binary_chain at p others e) = binary_begins p

pub compare_begins : {ts : List Terminal} {i d j : ℕ} {e : Expr} → IsCompare ts i e d j → code_at ts i ≤ 18
compare_begins (IsCompare.one_operand p) = binary_begins p
compare_begins (IsCompare.compare_chain at p others e) = binary_begins p

pub not_begins : {ts : List Terminal} {i d j : ℕ} {e : Expr} → IsNot ts i e d j → code_at ts i ≤ 21
not_begins (IsNot.compared p) = omega (arith, compare_begins p)
not_begins (IsNot.denied at denial p e) = omega (arith, code_here denial)

pub and_begins : {ts : List Terminal} {i d j : ℕ} {e : Expr} → IsAnd ts i e d j → code_at ts i ≤ 21
and_begins (IsAnd.one_not p) = not_begins p
and_begins (IsAnd.and_chain at p others e) = not_begins p

pub or_begins : {ts : List Terminal} {i d j : ℕ} {e : Expr} → IsOr ts i e d j → code_at ts i ≤ 21
or_begins (IsOr.one_and p) = and_begins p
or_begins (IsOr.or_chain at p others e) = and_begins p

pub expr_begins : {ts : List Terminal} {i d j : ℕ} {e : Expr} → IsExpr ts i e d j → code_at ts i ≤ 21
expr_begins (IsExpr.plain p) = or_begins p
expr_begins (IsExpr.conditional at p condition q otherwise r e) = or_begins p

pub exprs_begin : {ts : List Terminal} {i d j : ℕ} {es : List Expr} → AreExprs ts i es d j → code_at ts i ≤ 21
exprs_begin (AreExprs.last_expr p) = expr_begins p
exprs_begin (AreExprs.more_exprs p comma others) = expr_begins p

pub entries_begin : {ts : List Terminal} {i d j : ℕ} {es : List Entry} → AreEntries ts i es d j → code_at ts i ≤ 21
entries_begin (AreEntries.last_entry p colon q) = expr_begins p
entries_begin (AreEntries.more_entries p colon q comma others) = expr_begins p

pub argument_begins : {ts : List Terminal} {i d j : ℕ} {a : Argument} → IsArgument ts i a d j → code_at ts i ≤ 21
argument_begins (IsArgument.positional p) = expr_begins p
argument_begins (IsArgument.keyword n equal p) = omega (arith, name_code n)

pub arguments_begin : {ts : List Terminal} {i d j : ℕ} {es : List Argument} → AreArguments ts i es d j → code_at ts i ≤ 21
arguments_begin (AreArguments.last_argument p) = argument_begins p
arguments_begin (AreArguments.more_arguments p comma others) = argument_begins p

-- the first part of a slice, which may be absent
pub maybe_begins : {ts : List Terminal} {i d j : ℕ} {e : Option Expr} → MaybeExpr ts i e d j → IsOperator ts j sign.Colon → (code_at ts i ≤ 21) ⊎ (code_at ts i ≡ 31)
maybe_begins MaybeExpr.absent colon = inr (code_here colon)
maybe_begins (MaybeExpr.present p) colon = inl (expr_begins p)

-- an item begins with no bracket that closes
pub item_begins : {ts : List Terminal} {i d j : ℕ} {a : Item} → IsItem ts i a d j → (code_at ts i ≤ 21) ⊎ (31 ≤ code_at ts i)
item_begins (IsItem.index p) = inl (expr_begins p)
item_begins (IsItem.ellipsis p) = inr (omega (arith, code_here p))
item_begins (IsItem.slice p colon q) = elim (maybe_begins p colon) [ inl x ↦ inl x | inr x ↦ inr (omega (arith, x)) ]
item_begins (IsItem.step_slice p colon q second r) = elim (maybe_begins p colon) [ inl x ↦ inl x | inr x ↦ inr (omega (arith, x)) ]

pub items_begin : {ts : List Terminal} {i d j : ℕ} {es : List Item} → AreItems ts i es d j → (code_at ts i ≤ 21) ⊎ (31 ≤ code_at ts i)
items_begin (AreItems.last_item p) = item_begins p
items_begin (AreItems.more_items p comma others) = item_begins p

-- What the rest of a chain begins with

pub ors_begin : {ts : List Terminal} {k d j : ℕ} {es : List Expr} → AreOrs ts k es d j → code_at ts k ≡ 24
ors_begin (AreOrs.last_or o p) = code_here o
ors_begin (AreOrs.more_ors o p others) = code_here o

pub ands_begin : {ts : List Terminal} {k d j : ℕ} {es : List Expr} → AreAnds ts k es d j → code_at ts k ≡ 23
ands_begin (AreAnds.last_and o p) = code_here o
ands_begin (AreAnds.more_ands o p others) = code_here o

pub comparison_code : {ts : List Terminal} {k l : ℕ} {meant : CompareOp} → IsCompareOp ts k meant l → (18 ≤ code_at ts k) × (code_at ts k ≤ 22)
comparison_code (IsCompareOp.by_sign o e) = let x = compare_code o in (x.0, omega (arith, x.1))
comparison_code (IsCompareOp.in_ h m e) = (omega (arith, code_here h), omega (arith, code_here h))
comparison_code (IsCompareOp.not_in h g m e) = (omega (arith, code_here h), omega (arith, code_here h))
comparison_code (IsCompareOp.is_ h m e) = (omega (arith, code_here h), omega (arith, code_here h))
comparison_code (IsCompareOp.is_not h g m e) = (omega (arith, code_here h), omega (arith, code_here h))

pub comparisons_begin : {ts : List Terminal} {k d j : ℕ} {es : List Comparison} → AreComparisons ts k es d j → (18 ≤ code_at ts k) × (code_at ts k ≤ 22)
comparisons_begin (AreComparisons.last_comparison o p) = comparison_code o
comparisons_begin (AreComparisons.more_comparisons o p others) = comparison_code o

pub links_begin : {ts : List Terminal} {level : Level} {tighter : List Level} {k d j : ℕ} {es : List Link} → AreLevels (level ∷ tighter) → AreLinks ts level tighter k es d j → code_at ts k ≡ 12 + length tighter
links_begin {tighter} levels (AreLinks.last_link o p) = binary_code tighter levels o
links_begin {tighter} levels (AreLinks.more_links o p others) = binary_code tighter levels o

pub trailer_begins : {ts : List Terminal} {k d j : ℕ} {t : Trailer} → IsTrailer ts k t d j → (1 ≤ code_at ts k) × (code_at ts k ≤ 10)
trailer_begins (IsTrailer.attribute p n) = (omega (arith, code_here p), omega (arith, code_here p))
trailer_begins (IsTrailer.empty_call p c) = (omega (arith, code_here p), omega (arith, code_here p))
trailer_begins (IsTrailer.call p a ending c) = (omega (arith, code_here p), omega (arith, code_here p))
trailer_begins (IsTrailer.subscript p a ending c) = (omega (arith, code_here p), omega (arith, code_here p))

pub trailers_begin : {ts : List Terminal} {k d j : ℕ} {es : List Trailer} → AreTrailers ts k es d j → (1 ≤ code_at ts k) × (code_at ts k ≤ 10)
trailers_begin (AreTrailers.last_trailer t) = trailer_begins t
trailers_begin (AreTrailers.more_trailers t others) = trailer_begins t

-- A name before `=` is all of an expression

apart : (ts : List Terminal) (i j : ℕ) → j ≡ suc i → code_at ts j ≤ 31 → code_at ts (suc i) ≡ 32 → ⊥
apart ts i j e le equal = omega (arith, ap (code_at ts) e, le, equal)

atom_alone : {ts : List Terminal} {i d j : ℕ} {e : Expr} → IsAtom ts i e d j → code_at ts i ≡ 2 → code_at ts (suc i) ≡ 32 → j ≡ suc i
atom_alone (IsAtom.name at h e) n equal = refl
atom_alone p n equal = absurd (omega (arith, atom_first p, n))

primary_alone : {ts : List Terminal} {i d j : ℕ} {e : Expr} → IsPrimary ts i e d j → code_at ts i ≡ 2 → code_at ts (suc i) ≡ 32 → j ≡ suc i
primary_alone (IsPrimary.one_atom p) n equal = atom_alone p n equal
primary_alone (IsPrimary.row at p others e) n equal = absurd (apart _ _ _ (atom_alone p n equal) (omega (arith, (trailers_begin others).1)) equal)

unary_alone : {ts : List Terminal} {i d j : ℕ} {e : Expr} → IsUnary ts i e d j → code_at ts i ≡ 2 → code_at ts (suc i) ≡ 32 → j ≡ suc i
unary_alone (IsUnary.signed at meant p e) n equal = absurd (omega (arith, (unary_code meant).0, n))
unary_alone (IsUnary.cast at less t greater p e) n equal = absurd (omega (arith, code_here less, n))
unary_alone (IsUnary.unsigned p) n equal = primary_alone p n equal

binary_alone : {ts : List Terminal} {levels : List Level} {i d j : ℕ} {e : Expr} → AreLevels levels → length levels ≤ 6 → IsBinary ts levels i e d j → code_at ts i ≡ 2 → code_at ts (suc i) ≡ 32 → j ≡ suc i
binary_alone levels few (IsBinary.tightest p) n equal = unary_alone p n equal
binary_alone levels few (IsBinary.alone p) n equal = binary_alone levels.1 (omega (arith, few)) p n equal
binary_alone levels few (IsBinary.binary_chain at p others e) n equal = absurd (apart _ _ _ (binary_alone levels.1 (omega (arith, few)) p n equal) (omega (arith, links_begin levels others, few)) equal)

operand_alone : {ts : List Terminal} {i d j : ℕ} {e : Expr} → IsBinary ts binary_levels i e d j → code_at ts i ≡ 2 → code_at ts (suc i) ≡ 32 → j ≡ suc i
operand_alone p n equal = binary_alone are_levels (omega (arith, six_levels)) p n equal

compare_alone : {ts : List Terminal} {i d j : ℕ} {e : Expr} → IsCompare ts i e d j → code_at ts i ≡ 2 → code_at ts (suc i) ≡ 32 → j ≡ suc i
compare_alone (IsCompare.one_operand p) n equal = operand_alone p n equal
compare_alone (IsCompare.compare_chain at p others e) n equal = absurd (apart _ _ _ (operand_alone p n equal) (omega (arith, (comparisons_begin others).1)) equal)

not_alone : {ts : List Terminal} {i d j : ℕ} {e : Expr} → IsNot ts i e d j → code_at ts i ≡ 2 → code_at ts (suc i) ≡ 32 → j ≡ suc i
not_alone (IsNot.compared p) n equal = compare_alone p n equal
not_alone (IsNot.denied at denial p e) n equal = absurd (omega (arith, code_here denial, n))

and_alone : {ts : List Terminal} {i d j : ℕ} {e : Expr} → IsAnd ts i e d j → code_at ts i ≡ 2 → code_at ts (suc i) ≡ 32 → j ≡ suc i
and_alone (IsAnd.one_not p) n equal = not_alone p n equal
and_alone (IsAnd.and_chain at p others e) n equal = absurd (apart _ _ _ (not_alone p n equal) (omega (arith, ands_begin others)) equal)

or_alone : {ts : List Terminal} {i d j : ℕ} {e : Expr} → IsOr ts i e d j → code_at ts i ≡ 2 → code_at ts (suc i) ≡ 32 → j ≡ suc i
or_alone (IsOr.one_and p) n equal = and_alone p n equal
or_alone (IsOr.or_chain at p others e) n equal = absurd (apart _ _ _ (and_alone p n equal) (omega (arith, ors_begin others)) equal)

pub expr_alone : {ts : List Terminal} {i d j : ℕ} {e : Expr} → IsExpr ts i e d j → code_at ts i ≡ 2 → code_at ts (suc i) ≡ 32 → j ≡ suc i
expr_alone (IsExpr.plain p) n equal = or_alone p n equal
expr_alone (IsExpr.conditional at p condition q otherwise r e) n equal = absurd (apart _ _ _ (or_alone p n equal) (omega (arith, code_here condition)) equal)
