-- No end of a line stands inside an expression or a type: each of their tokens has a lower code.
use Rattle.std.proofs.Common.{◌≡◌, ℕ, suc, ◌+◌, ◌<◌, ◌≤◌, inl, inr, length, Bool, Option, List, [], ◌∷◌, pos, refl, sym, ap, subst, arith}
use Rattle.std.proofs.lemmas.Bool.{cases_lt}
use Rattle.px_lexer.specs.declared.token_list.TokenKind.{TokenKind}
use Rattle.px_lexer.specs.declared.token_list.TokenKind.TheVariants as kind
use Rattle.px_tree.specs.declared.typings.Axis.{Axis}
use Rattle.px_tree.specs.declared.typings.BaseType.{BaseType}
use Rattle.px_tree.specs.declared.typings.«Type».{«Type» as Typing}
use Rattle.px_tree.specs.declared.expressions.Expr.{Expr}
use Rattle.px_tree.specs.declared.expressions.CompareOp.{CompareOp}
use Rattle.px_tree.specs.declared.expressions.Comparison.{Comparison}
use Rattle.px_tree.specs.declared.expressions.Link.{Link}
use Rattle.px_tree.specs.declared.expressions.Trailer.{Trailer}
use Rattle.px_tree.specs.declared.expressions.Argument.{Argument}
use Rattle.px_tree.specs.declared.expressions.Item.{Item}
use Rattle.px_tree.specs.declared.expressions.Entry.{Entry}
use Rattle.px_lexer.specs.Terminals.{Terminal, HasKind, IsName}
use Rattle.px_exprs.specs.Typings.{AreNames, IsBase, IsAxis, AreAxes, HasAxes, HasConst, IsTyping}
use Rattle.px_exprs.specs.Grammar.{Level, AreTexts, IsCompareOp, IsExpr, IsOr, AreOrs, IsAnd, AreAnds, IsNot, IsCompare, AreComparisons, IsBinary, AreLinks, IsUnary, IsPrimary, AreTrailers, IsTrailer, AreArguments, IsArgument, AreItems, IsItem, MaybeExpr, HasComma, AreExprs, AreEntries, IsAtom, HasCommas}
use Rattle.px_exprs.specs.Codes.{kind_code, code_at}
use Rattle.px_exprs.proofs.Codes.{code_here, name_code}
use Rattle.px_exprs.proofs.Tables.{AreLevels, unary_code, compare_code, binary_code, are_levels, six_levels}

-- Tokens

-- each token from one index to before another may stand in an expression
pub record Inside (ts : List Terminal) (i j : ℕ) : Type 0 where
  pub low : (k : ℕ) → i ≤ k → k < j → code_at ts k ≤ 33

nothing : {ts : List Terminal} {i : ℕ} → Inside ts i i
nothing = record { low = λ k from to. absurd (omega (arith, from, to)) }

-- two parts, one behind the other
pub joined : {ts : List Terminal} {i m j : ℕ} → Inside ts i m → Inside ts m j → Inside ts i j
joined {m = m} p q = record { low = λ k from to. elim (cases_lt k m) [ inl lt ↦ p.low k from lt | inr ge ↦ q.low k (omega (arith, ge)) to ] }

pub code_inside : {ts : List Terminal} {i j : ℕ} → code_at ts i ≤ 33 → j ≡ suc i → Inside ts i j
code_inside {ts} {i} le e = record { low = λ k from to. let same : k ≡ i = omega (arith, e, from, to) in omega (arith, ap (code_at ts) same, le) }

pub kind_inside : {ts : List Terminal} {i : ℕ} {k : TokenKind} → HasKind ts i k → kind_code k ≤ 33 → Inside ts i (suc i)
kind_inside h le = code_inside (omega (arith, code_here h, le)) refl

kind_until : {ts : List Terminal} {i j : ℕ} {k : TokenKind} → HasKind ts i k → kind_code k ≤ 33 → j ≡ suc i → Inside ts i j
kind_until h le e = code_inside (omega (arith, code_here h, le)) e

pub name_inside : {ts : List Terminal} {i : ℕ} {name : List ℕ} → IsName ts i name → Inside ts i (suc i)
name_inside h = code_inside (omega (arith, name_code h)) refl

pub comparison_inside : {ts : List Terminal} {i j : ℕ} {meant : CompareOp} → IsCompareOp ts i meant j → Inside ts i j
comparison_inside (IsCompareOp.by_sign o e) = code_inside (omega (arith, (compare_code o).1)) e
comparison_inside (IsCompareOp.in_ h m e) = kind_until h (omega arith) e
comparison_inside (IsCompareOp.not_in h g m e) = joined (kind_inside h (omega arith)) (kind_until g (omega arith) e)
comparison_inside (IsCompareOp.is_ h m e) = kind_until h (omega arith) e
comparison_inside (IsCompareOp.is_not h g m e) = joined (kind_inside h (omega arith)) (kind_until g (omega arith) e)

pub texts_inside : {ts : List Terminal} {i j : ℕ} {contents : List (List ℕ)} → AreTexts ts i contents j → Inside ts i j
texts_inside (AreTexts.last_text t) = kind_inside t (omega arith)
texts_inside (AreTexts.more_texts t others) = joined (kind_inside t (omega arith)) (texts_inside others)

-- Types

pub names_inside : (ts : List Terminal) (i j : ℕ) (words : List (List ℕ)) → AreNames ts i words j → Inside ts i j
names_inside ts i j [] a = subst (λ k. Inside ts i k) a nothing
names_inside ts i j (name ∷ names) a = joined (name_inside a.0) (names_inside ts (suc i) j names a.1)

pub base_inside : {ts : List Terminal} {i j : ℕ} {b : BaseType} → IsBase ts i b j → Inside ts i j
base_inside {ts} {i} {j} h = names_inside ts i j h.words h.stand

pub axis_inside : {ts : List Terminal} {i j : ℕ} {a : Axis} → IsAxis ts i a j → Inside ts i j
axis_inside (IsAxis.strided c m e) = kind_until c (omega arith) e
axis_inside {ts} {i} (IsAxis.contiguous one c d stands number spelled m e) =
    let digit : HasKind ts (i + 2) (kind.Number (pos 1)) = record { token = one; stands = stands; kind = number } in
    joined (kind_until c (omega arith) (omega arith)) (joined (kind_until d (omega arith) (omega arith)) (kind_until digit (omega arith) (omega (arith, e))))

pub axes_inside : {ts : List Terminal} {i j : ℕ} {axes : List Axis} → AreAxes ts i axes j → Inside ts i j
axes_inside (AreAxes.last_axis a) = axis_inside a
axes_inside (AreAxes.more_axes a c others) = joined (axis_inside a) (joined (kind_inside c (omega arith)) (axes_inside others))

pub view_inside : (ts : List Terminal) (i : ℕ) (axes : List Axis) (d j : ℕ) → HasAxes ts i axes d j → Inside ts i j
view_inside ts i axes d j (HasAxes.no_view m p e) = subst (λ k. Inside ts i k) (sym e) nothing
view_inside ts i axes d j (HasAxes.view k opened a closed p e) = joined (kind_inside opened (omega arith)) (joined (axes_inside a) (kind_until closed (omega arith) e))

pub const_inside : (ts : List Terminal) (i : ℕ) (is_const : Bool) (j : ℕ) → HasConst ts i is_const j → Inside ts i j
const_inside ts i is_const j (HasConst.plain m e) = subst (λ k. Inside ts i k) (sym e) nothing
const_inside ts i is_const j (HasConst.const c m e) = subst (λ k. Inside ts i k) (sym e) (name_inside c)

pub typing_inside : {ts : List Terminal} {i d j : ℕ} {t : Typing} → IsTyping ts i t d j → Inside ts i j
typing_inside {ts} {i} {d} {j} {t} h =
    joined (const_inside ts i t.is_const h.base_from h.const) (joined (base_inside h.base) (view_inside ts h.axes_from t.axes d j h.axes))

-- Expressions

pub comma_inside : {ts : List Terminal} {i j : ℕ} → HasComma ts i j → Inside ts i j
comma_inside HasComma.no_comma = nothing
comma_inside (HasComma.comma c) = kind_inside c (omega arith)

mutual
  pub expr_inside : {ts : List Terminal} {i d j : ℕ} {e : Expr} → IsExpr ts i e d j → Inside ts i j
  expr_inside (IsExpr.plain p) = or_inside p
  expr_inside (IsExpr.conditional at p a q b r same) =
      joined (or_inside p) (joined (kind_inside a (omega arith)) (joined (or_inside q) (joined (kind_inside b (omega arith)) (expr_inside r))))

  pub or_inside : {ts : List Terminal} {i d j : ℕ} {e : Expr} → IsOr ts i e d j → Inside ts i j
  or_inside (IsOr.one_and p) = and_inside p
  or_inside (IsOr.or_chain at p q same) = joined (and_inside p) (ors_inside q)

  pub ors_inside : {ts : List Terminal} {i d j : ℕ} {es : List Expr} → AreOrs ts i es d j → Inside ts i j
  ors_inside (AreOrs.last_or a p) = joined (kind_inside a (omega arith)) (and_inside p)
  ors_inside (AreOrs.more_ors a p q) = joined (kind_inside a (omega arith)) (joined (and_inside p) (ors_inside q))

  pub and_inside : {ts : List Terminal} {i d j : ℕ} {e : Expr} → IsAnd ts i e d j → Inside ts i j
  and_inside (IsAnd.one_not p) = not_inside p
  and_inside (IsAnd.and_chain at p q same) = joined (not_inside p) (ands_inside q)

  pub ands_inside : {ts : List Terminal} {i d j : ℕ} {es : List Expr} → AreAnds ts i es d j → Inside ts i j
  ands_inside (AreAnds.last_and a p) = joined (kind_inside a (omega arith)) (not_inside p)
  ands_inside (AreAnds.more_ands a p q) = joined (kind_inside a (omega arith)) (joined (not_inside p) (ands_inside q))

  pub not_inside : {ts : List Terminal} {i d j : ℕ} {e : Expr} → IsNot ts i e d j → Inside ts i j
  not_inside (IsNot.compared p) = compare_inside p
  not_inside (IsNot.denied at a p same) = joined (kind_inside a (omega arith)) (not_inside p)

  pub compare_inside : {ts : List Terminal} {i d j : ℕ} {e : Expr} → IsCompare ts i e d j → Inside ts i j
  compare_inside (IsCompare.one_operand p) = binary_inside are_levels (omega (arith, six_levels)) p
  compare_inside (IsCompare.compare_chain at p q same) = joined (binary_inside are_levels (omega (arith, six_levels)) p) (comparisons_inside q)

  pub comparisons_inside : {ts : List Terminal} {i d j : ℕ} {es : List Comparison} → AreComparisons ts i es d j → Inside ts i j
  comparisons_inside (AreComparisons.last_comparison p q) = joined (comparison_inside p) (binary_inside are_levels (omega (arith, six_levels)) q)
  comparisons_inside (AreComparisons.more_comparisons p q r) = joined (comparison_inside p) (joined (binary_inside are_levels (omega (arith, six_levels)) q) (comparisons_inside r))

  -- a level's code is by how many are tighter
  pub binary_inside : {ts : List Terminal} {levels : List Level} {i d j : ℕ} {e : Expr} → AreLevels levels → length levels ≤ 6 → IsBinary ts levels i e d j → Inside ts i j
  binary_inside levels few (IsBinary.tightest p) = unary_inside p
  binary_inside levels few (IsBinary.alone p) = binary_inside levels.1 (omega (arith, few)) p
  binary_inside levels few (IsBinary.binary_chain at p q same) = joined (binary_inside levels.1 (omega (arith, few)) p) (links_inside levels few q)

  pub links_inside : {ts : List Terminal} {level : Level} {tighter : List Level} {i d j : ℕ} {es : List Link} → AreLevels (level ∷ tighter) → length (level ∷ tighter) ≤ 6 → AreLinks ts level tighter i es d j → Inside ts i j
  links_inside {tighter = tighter} levels few (AreLinks.last_link a p) =
      joined (code_inside (omega (arith, binary_code tighter levels a, few)) refl) (binary_inside levels.1 (omega (arith, few)) p)
  links_inside {tighter = tighter} levels few (AreLinks.more_links a p q) =
      joined (code_inside (omega (arith, binary_code tighter levels a, few)) refl) (joined (binary_inside levels.1 (omega (arith, few)) p) (links_inside levels few q))

  pub unary_inside : {ts : List Terminal} {i d j : ℕ} {e : Expr} → IsUnary ts i e d j → Inside ts i j
  unary_inside (IsUnary.signed at a p same) = joined (code_inside (omega (arith, (unary_code a).1)) refl) (unary_inside p)
  unary_inside (IsUnary.cast at a p b q same) = joined (kind_inside a (omega arith)) (joined (typing_inside p) (joined (kind_inside b (omega arith)) (unary_inside q)))
  unary_inside (IsUnary.unsigned p) = primary_inside p

  pub primary_inside : {ts : List Terminal} {i d j : ℕ} {e : Expr} → IsPrimary ts i e d j → Inside ts i j
  primary_inside (IsPrimary.one_atom p) = atom_inside p
  primary_inside (IsPrimary.row at p q same) = joined (atom_inside p) (trailers_inside q)

  pub trailers_inside : {ts : List Terminal} {i d j : ℕ} {es : List Trailer} → AreTrailers ts i es d j → Inside ts i j
  trailers_inside (AreTrailers.last_trailer p) = trailer_inside p
  trailers_inside (AreTrailers.more_trailers p q) = joined (trailer_inside p) (trailers_inside q)

  pub trailer_inside : {ts : List Terminal} {i d j : ℕ} {t : Trailer} → IsTrailer ts i t d j → Inside ts i j
  trailer_inside (IsTrailer.attribute a b) = joined (kind_inside a (omega arith)) (name_inside b)
  trailer_inside (IsTrailer.empty_call a b) = joined (kind_inside a (omega arith)) (kind_inside b (omega arith))
  trailer_inside (IsTrailer.call a p q b) = joined (kind_inside a (omega arith)) (joined (arguments_inside p) (joined (comma_inside q) (kind_inside b (omega arith))))
  trailer_inside (IsTrailer.subscript a p q b) = joined (kind_inside a (omega arith)) (joined (items_inside p) (joined (comma_inside q) (kind_inside b (omega arith))))

  pub arguments_inside : {ts : List Terminal} {i d j : ℕ} {es : List Argument} → AreArguments ts i es d j → Inside ts i j
  arguments_inside (AreArguments.last_argument p) = argument_inside p
  arguments_inside (AreArguments.more_arguments p a q) = joined (argument_inside p) (joined (kind_inside a (omega arith)) (arguments_inside q))

  pub argument_inside : {ts : List Terminal} {i d j : ℕ} {a : Argument} → IsArgument ts i a d j → Inside ts i j
  argument_inside (IsArgument.positional p) = expr_inside p
  argument_inside (IsArgument.keyword a b p) = joined (name_inside a) (joined (kind_inside b (omega arith)) (expr_inside p))

  pub items_inside : {ts : List Terminal} {i d j : ℕ} {es : List Item} → AreItems ts i es d j → Inside ts i j
  items_inside (AreItems.last_item p) = item_inside p
  items_inside (AreItems.more_items p a q) = joined (item_inside p) (joined (kind_inside a (omega arith)) (items_inside q))

  pub item_inside : {ts : List Terminal} {i d j : ℕ} {a : Item} → IsItem ts i a d j → Inside ts i j
  item_inside (IsItem.index p) = expr_inside p
  item_inside (IsItem.ellipsis a) = kind_inside a (omega arith)
  item_inside (IsItem.slice p a q) = joined (maybe_inside p) (joined (kind_inside a (omega arith)) (maybe_inside q))
  item_inside (IsItem.step_slice p a q b r) =
      joined (maybe_inside p) (joined (kind_inside a (omega arith)) (joined (maybe_inside q) (joined (kind_inside b (omega arith)) (maybe_inside r))))

  pub maybe_inside : {ts : List Terminal} {i d j : ℕ} {e : Option Expr} → MaybeExpr ts i e d j → Inside ts i j
  maybe_inside MaybeExpr.absent = nothing
  maybe_inside (MaybeExpr.present p) = expr_inside p

  pub exprs_inside : {ts : List Terminal} {i d j : ℕ} {es : List Expr} → AreExprs ts i es d j → Inside ts i j
  exprs_inside (AreExprs.last_expr p) = expr_inside p
  exprs_inside (AreExprs.more_exprs p a q) = joined (expr_inside p) (joined (kind_inside a (omega arith)) (exprs_inside q))

  pub entries_inside : {ts : List Terminal} {i d j : ℕ} {es : List Entry} → AreEntries ts i es d j → Inside ts i j
  entries_inside (AreEntries.last_entry p a q) = joined (expr_inside p) (joined (kind_inside a (omega arith)) (expr_inside q))
  entries_inside (AreEntries.more_entries p a q b r) =
      joined (expr_inside p) (joined (kind_inside a (omega arith)) (joined (expr_inside q) (joined (kind_inside b (omega arith)) (entries_inside r))))

  pub atom_inside : {ts : List Terminal} {i d j : ℕ} {e : Expr} → IsAtom ts i e d j → Inside ts i j
  atom_inside (IsAtom.name at a same) = name_inside a
  atom_inside (IsAtom.number at a same) = kind_inside a (omega arith)
  atom_inside (IsAtom.texts at p same) = texts_inside p
  atom_inside (IsAtom.true_ at a same) = kind_inside a (omega arith)
  atom_inside (IsAtom.false_ at a same) = kind_inside a (omega arith)
  atom_inside (IsAtom.none at a same) = kind_inside a (omega arith)
  atom_inside (IsAtom.sizeof at a b p c same) = joined (kind_inside a (omega arith)) (joined (kind_inside b (omega arith)) (joined (typing_inside p) (kind_inside c (omega arith))))
  atom_inside (IsAtom.in_parentheses a p b) = joined (kind_inside a (omega arith)) (joined (expr_inside p) (kind_inside b (omega arith)))
  atom_inside (IsAtom.empty_tuple at a b same) = joined (kind_inside a (omega arith)) (kind_inside b (omega arith))
  atom_inside (IsAtom.tuple at a p b same) = joined (kind_inside a (omega arith)) (joined (commas_inside p) (kind_inside b (omega arith)))
  atom_inside (IsAtom.empty_list at a b same) = joined (kind_inside a (omega arith)) (kind_inside b (omega arith))
  atom_inside (IsAtom.list at a p q b same) = joined (kind_inside a (omega arith)) (joined (exprs_inside p) (joined (comma_inside q) (kind_inside b (omega arith))))
  atom_inside (IsAtom.empty_dict at a b same) = joined (kind_inside a (omega arith)) (kind_inside b (omega arith))
  atom_inside (IsAtom.dict at a p q b same) = joined (kind_inside a (omega arith)) (joined (entries_inside p) (joined (comma_inside q) (kind_inside b (omega arith))))

  pub commas_inside : {ts : List Terminal} {i d j : ℕ} {es : List Expr} → HasCommas ts i es d j → Inside ts i j
  commas_inside (HasCommas.one_with_comma p a) = joined (expr_inside p) (kind_inside a (omega arith))
  commas_inside (HasCommas.several p a q r) = joined (expr_inside p) (joined (kind_inside a (omega arith)) (joined (exprs_inside q) (comma_inside r)))

-- Ends of lines

pub no_line : {ts : List Terminal} {i j k : ℕ} → Inside ts i j → i ≤ k → k < j → HasKind ts k kind.Newline → ⊥
no_line {k = k} inside from to h = omega (arith, inside.low k from to, code_here h)

pub no_line_inside : {ts : List Terminal} {i d j k : ℕ} {e : Expr} → IsExpr ts i e d j → i ≤ k → k < j → HasKind ts k kind.Newline → ⊥
no_line_inside p = no_line (expr_inside p)

pub no_line_in_primary : {ts : List Terminal} {i d j k : ℕ} {e : Expr} → IsPrimary ts i e d j → i ≤ k → k < j → HasKind ts k kind.Newline → ⊥
no_line_in_primary p = no_line (primary_inside p)
