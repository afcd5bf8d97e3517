-- A derivation hangs on its own tokens alone, so each list that has them has it too; and each derivation but of nothing has a token.
use Rattle.std.proofs.Common.{ℕ, suc, ◌+◌, ◌<◌, ◌≤◌, Bool, Option, List, [], ◌∷◌, take, ◌∙◌, arith}
use Rattle.px_base.specs.declared.refusals.Span.{Span}
use Rattle.px_lexer.specs.declared.spelling.Operator.{Operator}
use Rattle.px_lexer.specs.declared.token_list.TokenKind.{TokenKind}
use Rattle.px_tree.specs.declared.typings.Axis.{Axis}
use Rattle.px_tree.specs.declared.typings.«Type».{«Type» as Typing}
use Rattle.px_tree.specs.declared.expressions.Expr.{Expr}
use Rattle.px_tree.specs.declared.expressions.CompareOp.{CompareOp}
use Rattle.px_tree.specs.declared.expressions.Comparison.{Comparison}
use Rattle.px_tree.specs.declared.expressions.Link.{Link}
use Rattle.px_tree.specs.declared.expressions.Trailer.{Trailer}
use Rattle.px_tree.specs.declared.expressions.Argument.{Argument}
use Rattle.px_tree.specs.declared.expressions.Item.{Item}
use Rattle.px_tree.specs.declared.expressions.Entry.{Entry}
use Rattle.px_lexer.specs.Terminals.{Terminal, HasKind, IsName, IsAt}
use Rattle.px_exprs.specs.Readings.{Agree}
use Rattle.px_exprs.specs.Typings.{AreNames, IsAxis, AreAxes, HasAxes, HasConst, IsTyping}
use Rattle.px_exprs.specs.Grammar.{Level, IsOf, AreTexts, IsCompareOp, IsExpr, IsOr, AreOrs, IsAnd, AreAnds, IsNot, IsCompare, AreComparisons, IsBinary, AreLinks, IsUnary, IsPrimary, AreTrailers, IsTrailer, AreArguments, IsArgument, AreItems, IsItem, MaybeExpr, HasComma, AreExprs, AreEntries, IsAtom, HasCommas}
use Rattle.px_exprs.proofs.Agreement.{agree_same, agree_front}

-- Tokens

pub kind_carried : {ts us : List Terminal} (n : ℕ) → Agree n us ts → {i : ℕ} {k : TokenKind} → HasKind ts i k → i < n → HasKind us i k
kind_carried n agree {i} h lt = record { token = h.token; stands = agree i lt ∙ h.stands; kind = h.kind }

pub name_carried : {ts us : List Terminal} (n : ℕ) → Agree n us ts → {i : ℕ} {name : List ℕ} → IsName ts i name → i < n → IsName us i name
name_carried n agree {i} h lt = record { token = h.token; stands = agree i lt ∙ h.stands; kind = h.kind; spelled = h.spelled }

pub place_carried : {ts us : List Terminal} (n : ℕ) → Agree n us ts → {i : ℕ} {at : Span} → IsAt ts i at → i < n → IsAt us i at
place_carried n agree {i} h lt = record { token = h.token; stands = agree i lt ∙ h.stands; placed = h.placed }

pub of_carried : {A : Type 0} {table : List (Operator × A)} {ts us : List Terminal} (n : ℕ) → Agree n us ts → {i : ℕ} {meant : A} → IsOf table ts i meant → i < n → IsOf table us i meant
of_carried n agree h lt = record { spelled = h.spelled; known = h.known; stands = kind_carried n agree h.stands lt }

pub comparison_carried : {ts us : List Terminal} (n : ℕ) → Agree n us ts → {i j : ℕ} {meant : CompareOp} → IsCompareOp ts i meant j → (i < j) × (j ≤ n → IsCompareOp us i meant j)
comparison_carried n agree (IsCompareOp.by_sign o e) = (omega (arith, e), λ le. IsCompareOp.by_sign (of_carried n agree o (omega (arith, e, le))) e)
comparison_carried n agree (IsCompareOp.in_ h m e) = (omega (arith, e), λ le. IsCompareOp.in_ (kind_carried n agree h (omega (arith, e, le))) m e)
comparison_carried n agree (IsCompareOp.not_in h g m e) = (omega (arith, e), λ le. IsCompareOp.not_in (kind_carried n agree h (omega (arith, e, le))) (kind_carried n agree g (omega (arith, e, le))) m e)
comparison_carried n agree (IsCompareOp.is_ h m e) = (omega (arith, e), λ le. IsCompareOp.is_ (kind_carried n agree h (omega (arith, e, le))) m e)
comparison_carried n agree (IsCompareOp.is_not h g m e) = (omega (arith, e), λ le. IsCompareOp.is_not (kind_carried n agree h (omega (arith, e, le))) (kind_carried n agree g (omega (arith, e, le))) m e)

pub texts_carried : {ts us : List Terminal} (n : ℕ) → Agree n us ts → {i j : ℕ} {contents : List (List ℕ)} → AreTexts ts i contents j → (i < j) × (j ≤ n → AreTexts us i contents j)
texts_carried n agree (AreTexts.last_text t) = (omega arith, λ le. AreTexts.last_text (kind_carried n agree t (omega (arith, le))))
texts_carried {us = us} n agree (AreTexts.more_texts t others) =
    let later = texts_carried {us = us} n agree others in
    (omega (arith, later.0), λ le. AreTexts.more_texts (kind_carried n agree t (omega (arith, later.0, le))) (later.1 le))

-- Types

pub names_carried : (ts us : List Terminal) (n : ℕ) → Agree n us ts → (i j : ℕ) (words : List (List ℕ)) → AreNames ts i words j → (i ≤ j) × (j ≤ n → AreNames us i words j)
names_carried ts us n agree i j [] a = (omega (arith, a), λ le. a)
names_carried ts us n agree i j (name ∷ names) a =
    let later = names_carried ts us n agree (suc i) j names a.1 in
    (omega (arith, later.0), λ le. (name_carried n agree a.0 (omega (arith, later.0, le)), later.1 le))

pub axis_carried : {ts us : List Terminal} (n : ℕ) → Agree n us ts → {i j : ℕ} {a : Axis} → IsAxis ts i a j → (i < j) × (j ≤ n → IsAxis us i a j)
axis_carried n agree (IsAxis.strided c m e) = (omega (arith, e), λ le. IsAxis.strided (kind_carried n agree c (omega (arith, e, le))) m e)
axis_carried n agree {i} (IsAxis.contiguous one c d stands number spelled m e) =
    (omega (arith, e), λ le. IsAxis.contiguous one (kind_carried n agree c (omega (arith, e, le))) (kind_carried n agree d (omega (arith, e, le))) (agree (i + 2) (omega (arith, e, le)) ∙ stands) number spelled m e)

pub axes_carried : {ts us : List Terminal} (n : ℕ) → Agree n us ts → {i j : ℕ} {axes : List Axis} → AreAxes ts i axes j → (i < j) × (j ≤ n → AreAxes us i axes j)
axes_carried {us = us} n agree (AreAxes.last_axis a) = let a' = axis_carried {us = us} n agree a in (a'.0, λ le. AreAxes.last_axis (a'.1 le))
axes_carried {us = us} n agree (AreAxes.more_axes a c others) =
    let a' = axis_carried {us = us} n agree a in
    let later = axes_carried {us = us} n agree others in
    (omega (arith, a'.0, later.0), λ le. AreAxes.more_axes (a'.1 (omega (arith, later.0, le))) (kind_carried n agree c (omega (arith, later.0, le))) (later.1 le))

pub view_carried : {ts us : List Terminal} (n : ℕ) → Agree n us ts → (i : ℕ) (axes : List Axis) (d j : ℕ) → HasAxes ts i axes d j → (i ≤ j) × (j ≤ n → HasAxes us i axes d j)
view_carried n agree i axes d j (HasAxes.no_view m p e) = (omega (arith, e), λ le. HasAxes.no_view m p e)
view_carried {us = us} n agree i axes d j (HasAxes.view k opened a closed p e) =
    let a' = axes_carried {us = us} n agree a in
    (omega (arith, a'.0, e), λ le. HasAxes.view k (kind_carried n agree opened (omega (arith, a'.0, e, le))) (a'.1 (omega (arith, e, le))) (kind_carried n agree closed (omega (arith, e, le))) p e)

pub const_carried : {ts us : List Terminal} (n : ℕ) → Agree n us ts → (i : ℕ) (is_const : Bool) (j : ℕ) → HasConst ts i is_const j → (i ≤ j) × (j ≤ n → HasConst us i is_const j)
const_carried n agree i is_const j (HasConst.plain m e) = (omega (arith, e), λ le. HasConst.plain m e)
const_carried n agree i is_const j (HasConst.const c m e) = (omega (arith, e), λ le. HasConst.const (name_carried n agree c (omega (arith, e, le))) m e)

pub typing_carried : {ts us : List Terminal} (n : ℕ) → Agree n us ts → {i d j : ℕ} {t : Typing} → IsTyping ts i t d j → (i ≤ j) × (j < n → IsTyping us i t d j)
typing_carried {ts} {us} n agree {i} {d} {j} {t} h =
    let c = const_carried {us = us} n agree i t.is_const h.base_from h.const in
    let b = names_carried ts us n agree h.base_from h.axes_from h.base.words h.base.stand in
    let a = view_carried {us = us} n agree h.axes_from t.axes d j h.axes in (
      omega (arith, a.0, b.0, c.0),
      λ lt. record {
        number = h.number;
        placed = place_carried n agree h.placed (omega (arith, a.0, b.0, c.0, lt));
        base_from = h.base_from;
        axes_from = h.axes_from;
        const = c.1 (omega (arith, a.0, b.0, lt));
        base = record { words = h.base.words; stand = b.1 (omega (arith, a.0, lt)); known = h.base.known };
        axes = a.1 (omega (arith, lt));
      },
    )

-- Expressions

mutual
  pub expr_carried : {ts us : List Terminal} (n : ℕ) → Agree n us ts → {i d j : ℕ} {e : Expr} → IsExpr ts i e d j → (i < j) × (j ≤ n → IsExpr us i e d j)
  expr_carried {us = us} n agree (IsExpr.plain p) = let p' = or_carried {us = us} n agree p in (p'.0, λ le. IsExpr.plain (p'.1 le))
  expr_carried {us = us} n agree (IsExpr.conditional at p a q b r same) =
      let p' = or_carried {us = us} n agree p in
      let q' = or_carried {us = us} n agree q in
      let r' = expr_carried {us = us} n agree r in
      (omega (arith, p'.0, q'.0, r'.0), λ le. IsExpr.conditional (place_carried n agree at (omega (arith, le, p'.0, q'.0, r'.0))) (p'.1 (omega (arith, le, p'.0, q'.0, r'.0))) (kind_carried n agree a (omega (arith, le, p'.0, q'.0, r'.0))) (q'.1 (omega (arith, le, p'.0, q'.0, r'.0))) (kind_carried n agree b (omega (arith, le, p'.0, q'.0, r'.0))) (r'.1 (omega (arith, le, p'.0, q'.0, r'.0))) same)

  pub or_carried : {ts us : List Terminal} (n : ℕ) → Agree n us ts → {i d j : ℕ} {e : Expr} → IsOr ts i e d j → (i < j) × (j ≤ n → IsOr us i e d j)
  or_carried {us = us} n agree (IsOr.one_and p) = let p' = and_carried {us = us} n agree p in (p'.0, λ le. IsOr.one_and (p'.1 le))
  or_carried {us = us} n agree (IsOr.or_chain at p q same) =
      let p' = and_carried {us = us} n agree p in
      let q' = ors_carried {us = us} n agree q in
      (omega (arith, p'.0, q'.0), λ le. IsOr.or_chain (place_carried n agree at (omega (arith, le, p'.0, q'.0))) (p'.1 (omega (arith, le, p'.0, q'.0))) (q'.1 (omega (arith, le, p'.0, q'.0))) same)

  pub ors_carried : {ts us : List Terminal} (n : ℕ) → Agree n us ts → {i d j : ℕ} {e : List Expr} → AreOrs ts i e d j → (i < j) × (j ≤ n → AreOrs us i e d j)
  ors_carried {us = us} n agree (AreOrs.last_or a p) =
      let p' = and_carried {us = us} n agree p in
      (omega (arith, p'.0), λ le. AreOrs.last_or (kind_carried n agree a (omega (arith, le, p'.0))) (p'.1 (omega (arith, le, p'.0))))
  ors_carried {us = us} n agree (AreOrs.more_ors a p q) =
      let p' = and_carried {us = us} n agree p in
      let q' = ors_carried {us = us} n agree q in
      (omega (arith, p'.0, q'.0), λ le. AreOrs.more_ors (kind_carried n agree a (omega (arith, le, p'.0, q'.0))) (p'.1 (omega (arith, le, p'.0, q'.0))) (q'.1 (omega (arith, le, p'.0, q'.0))))

  pub and_carried : {ts us : List Terminal} (n : ℕ) → Agree n us ts → {i d j : ℕ} {e : Expr} → IsAnd ts i e d j → (i < j) × (j ≤ n → IsAnd us i e d j)
  and_carried {us = us} n agree (IsAnd.one_not p) = let p' = not_carried {us = us} n agree p in (p'.0, λ le. IsAnd.one_not (p'.1 le))
  and_carried {us = us} n agree (IsAnd.and_chain at p q same) =
      let p' = not_carried {us = us} n agree p in
      let q' = ands_carried {us = us} n agree q in
      (omega (arith, p'.0, q'.0), λ le. IsAnd.and_chain (place_carried n agree at (omega (arith, le, p'.0, q'.0))) (p'.1 (omega (arith, le, p'.0, q'.0))) (q'.1 (omega (arith, le, p'.0, q'.0))) same)

  pub ands_carried : {ts us : List Terminal} (n : ℕ) → Agree n us ts → {i d j : ℕ} {e : List Expr} → AreAnds ts i e d j → (i < j) × (j ≤ n → AreAnds us i e d j)
  ands_carried {us = us} n agree (AreAnds.last_and a p) =
      let p' = not_carried {us = us} n agree p in
      (omega (arith, p'.0), λ le. AreAnds.last_and (kind_carried n agree a (omega (arith, le, p'.0))) (p'.1 (omega (arith, le, p'.0))))
  ands_carried {us = us} n agree (AreAnds.more_ands a p q) =
      let p' = not_carried {us = us} n agree p in
      let q' = ands_carried {us = us} n agree q in
      (omega (arith, p'.0, q'.0), λ le. AreAnds.more_ands (kind_carried n agree a (omega (arith, le, p'.0, q'.0))) (p'.1 (omega (arith, le, p'.0, q'.0))) (q'.1 (omega (arith, le, p'.0, q'.0))))

  pub not_carried : {ts us : List Terminal} (n : ℕ) → Agree n us ts → {i d j : ℕ} {e : Expr} → IsNot ts i e d j → (i < j) × (j ≤ n → IsNot us i e d j)
  not_carried {us = us} n agree (IsNot.compared p) = let p' = compare_carried {us = us} n agree p in (p'.0, λ le. IsNot.compared (p'.1 le))
  not_carried {us = us} n agree (IsNot.denied at a p same) =
      let p' = not_carried {us = us} n agree p in
      (omega (arith, p'.0), λ le. IsNot.denied (place_carried n agree at (omega (arith, le, p'.0))) (kind_carried n agree a (omega (arith, le, p'.0))) (p'.1 (omega (arith, le, p'.0))) same)

  pub compare_carried : {ts us : List Terminal} (n : ℕ) → Agree n us ts → {i d j : ℕ} {e : Expr} → IsCompare ts i e d j → (i < j) × (j ≤ n → IsCompare us i e d j)
  compare_carried {us = us} n agree (IsCompare.one_operand p) = let p' = binary_carried {us = us} n agree p in (p'.0, λ le. IsCompare.one_operand (p'.1 le))
  compare_carried {us = us} n agree (IsCompare.compare_chain at p q same) =
      let p' = binary_carried {us = us} n agree p in
      let q' = comparisons_carried {us = us} n agree q in
      (omega (arith, p'.0, q'.0), λ le. IsCompare.compare_chain (place_carried n agree at (omega (arith, le, p'.0, q'.0))) (p'.1 (omega (arith, le, p'.0, q'.0))) (q'.1 (omega (arith, le, p'.0, q'.0))) same)

  pub comparisons_carried : {ts us : List Terminal} (n : ℕ) → Agree n us ts → {i d j : ℕ} {e : List Comparison} → AreComparisons ts i e d j → (i < j) × (j ≤ n → AreComparisons us i e d j)
  comparisons_carried {us = us} n agree (AreComparisons.last_comparison p q) =
      let p' = comparison_carried {us = us} n agree p in
      let q' = binary_carried {us = us} n agree q in
      (omega (arith, p'.0, q'.0), λ le. AreComparisons.last_comparison (p'.1 (omega (arith, le, p'.0, q'.0))) (q'.1 (omega (arith, le, p'.0, q'.0))))
  comparisons_carried {us = us} n agree (AreComparisons.more_comparisons p q r) =
      let p' = comparison_carried {us = us} n agree p in
      let q' = binary_carried {us = us} n agree q in
      let r' = comparisons_carried {us = us} n agree r in
      (omega (arith, p'.0, q'.0, r'.0), λ le. AreComparisons.more_comparisons (p'.1 (omega (arith, le, p'.0, q'.0, r'.0))) (q'.1 (omega (arith, le, p'.0, q'.0, r'.0))) (r'.1 (omega (arith, le, p'.0, q'.0, r'.0))))

  pub binary_carried : {ts us : List Terminal} (n : ℕ) → Agree n us ts → {levels : List Level} {i d j : ℕ} {e : Expr} → IsBinary ts levels i e d j → (i < j) × (j ≤ n → IsBinary us levels i e d j)
  binary_carried {us = us} n agree (IsBinary.tightest p) = let p' = unary_carried {us = us} n agree p in (p'.0, λ le. IsBinary.tightest (p'.1 le))
  binary_carried {us = us} n agree (IsBinary.alone p) = let p' = binary_carried {us = us} n agree p in (p'.0, λ le. IsBinary.alone (p'.1 le))
  binary_carried {us = us} n agree (IsBinary.binary_chain at p q same) =
      let p' = binary_carried {us = us} n agree p in
      let q' = links_carried {us = us} n agree q in
      (omega (arith, p'.0, q'.0), λ le. IsBinary.binary_chain (place_carried n agree at (omega (arith, le, p'.0, q'.0))) (p'.1 (omega (arith, le, p'.0, q'.0))) (q'.1 (omega (arith, le, p'.0, q'.0))) same)

  pub links_carried : {ts us : List Terminal} (n : ℕ) → Agree n us ts → {level : Level} {tighter : List Level} {i d j : ℕ} {es : List Link} → AreLinks ts level tighter i es d j → (i < j) × (j ≤ n → AreLinks us level tighter i es d j)
  links_carried {us = us} n agree (AreLinks.last_link a p) =
      let p' = binary_carried {us = us} n agree p in
      (omega (arith, p'.0), λ le. AreLinks.last_link (of_carried n agree a (omega (arith, le, p'.0))) (p'.1 (omega (arith, le, p'.0))))
  links_carried {us = us} n agree (AreLinks.more_links a p q) =
      let p' = binary_carried {us = us} n agree p in
      let q' = links_carried {us = us} n agree q in
      (omega (arith, p'.0, q'.0), λ le. AreLinks.more_links (of_carried n agree a (omega (arith, le, p'.0, q'.0))) (p'.1 (omega (arith, le, p'.0, q'.0))) (q'.1 (omega (arith, le, p'.0, q'.0))))

  pub unary_carried : {ts us : List Terminal} (n : ℕ) → Agree n us ts → {i d j : ℕ} {e : Expr} → IsUnary ts i e d j → (i < j) × (j ≤ n → IsUnary us i e d j)
  unary_carried {us = us} n agree (IsUnary.signed at a p same) =
      let p' = unary_carried {us = us} n agree p in
      (omega (arith, p'.0), λ le. IsUnary.signed (place_carried n agree at (omega (arith, le, p'.0))) (of_carried n agree a (omega (arith, le, p'.0))) (p'.1 (omega (arith, le, p'.0))) same)
  unary_carried {us = us} n agree (IsUnary.cast at a p b q same) =
      let p' = typing_carried {us = us} n agree p in
      let q' = unary_carried {us = us} n agree q in
      (omega (arith, p'.0, q'.0), λ le. IsUnary.cast (place_carried n agree at (omega (arith, le, p'.0, q'.0))) (kind_carried n agree a (omega (arith, le, p'.0, q'.0))) (p'.1 (omega (arith, le, p'.0, q'.0))) (kind_carried n agree b (omega (arith, le, p'.0, q'.0))) (q'.1 (omega (arith, le, p'.0, q'.0))) same)
  unary_carried {us = us} n agree (IsUnary.unsigned p) = let p' = primary_carried {us = us} n agree p in (p'.0, λ le. IsUnary.unsigned (p'.1 le))

  pub primary_carried : {ts us : List Terminal} (n : ℕ) → Agree n us ts → {i d j : ℕ} {e : Expr} → IsPrimary ts i e d j → (i < j) × (j ≤ n → IsPrimary us i e d j)
  primary_carried {us = us} n agree (IsPrimary.one_atom p) = let p' = atom_carried {us = us} n agree p in (p'.0, λ le. IsPrimary.one_atom (p'.1 le))
  primary_carried {us = us} n agree (IsPrimary.row at p q same) =
      let p' = atom_carried {us = us} n agree p in
      let q' = trailers_carried {us = us} n agree q in
      (omega (arith, p'.0, q'.0), λ le. IsPrimary.row (place_carried n agree at (omega (arith, le, p'.0, q'.0))) (p'.1 (omega (arith, le, p'.0, q'.0))) (q'.1 (omega (arith, le, p'.0, q'.0))) same)

  pub trailers_carried : {ts us : List Terminal} (n : ℕ) → Agree n us ts → {i d j : ℕ} {e : List Trailer} → AreTrailers ts i e d j → (i < j) × (j ≤ n → AreTrailers us i e d j)
  trailers_carried {us = us} n agree (AreTrailers.last_trailer p) = let p' = trailer_carried {us = us} n agree p in (p'.0, λ le. AreTrailers.last_trailer (p'.1 le))
  trailers_carried {us = us} n agree (AreTrailers.more_trailers p q) =
      let p' = trailer_carried {us = us} n agree p in
      let q' = trailers_carried {us = us} n agree q in
      (omega (arith, p'.0, q'.0), λ le. AreTrailers.more_trailers (p'.1 (omega (arith, le, p'.0, q'.0))) (q'.1 (omega (arith, le, p'.0, q'.0))))

  pub trailer_carried : {ts us : List Terminal} (n : ℕ) → Agree n us ts → {i d j : ℕ} {e : Trailer} → IsTrailer ts i e d j → (i < j) × (j ≤ n → IsTrailer us i e d j)
  trailer_carried n agree (IsTrailer.attribute a b) = (omega arith, λ le. IsTrailer.attribute (kind_carried n agree a (omega (arith, le))) (name_carried n agree b (omega (arith, le))))
  trailer_carried n agree (IsTrailer.empty_call a b) = (omega arith, λ le. IsTrailer.empty_call (kind_carried n agree a (omega (arith, le))) (kind_carried n agree b (omega (arith, le))))
  trailer_carried {us = us} n agree (IsTrailer.call a p q b) =
      let p' = arguments_carried {us = us} n agree p in
      let q' = comma_carried {us = us} n agree q in
      (omega (arith, p'.0, q'.0), λ le. IsTrailer.call (kind_carried n agree a (omega (arith, le, p'.0, q'.0))) (p'.1 (omega (arith, le, p'.0, q'.0))) (q'.1 (omega (arith, le, p'.0, q'.0))) (kind_carried n agree b (omega (arith, le, p'.0, q'.0))))
  trailer_carried {us = us} n agree (IsTrailer.subscript a p q b) =
      let p' = items_carried {us = us} n agree p in
      let q' = comma_carried {us = us} n agree q in
      (omega (arith, p'.0, q'.0), λ le. IsTrailer.subscript (kind_carried n agree a (omega (arith, le, p'.0, q'.0))) (p'.1 (omega (arith, le, p'.0, q'.0))) (q'.1 (omega (arith, le, p'.0, q'.0))) (kind_carried n agree b (omega (arith, le, p'.0, q'.0))))

  pub arguments_carried : {ts us : List Terminal} (n : ℕ) → Agree n us ts → {i d j : ℕ} {e : List Argument} → AreArguments ts i e d j → (i < j) × (j ≤ n → AreArguments us i e d j)
  arguments_carried {us = us} n agree (AreArguments.last_argument p) = let p' = argument_carried {us = us} n agree p in (p'.0, λ le. AreArguments.last_argument (p'.1 le))
  arguments_carried {us = us} n agree (AreArguments.more_arguments p a q) =
      let p' = argument_carried {us = us} n agree p in
      let q' = arguments_carried {us = us} n agree q in
      (omega (arith, p'.0, q'.0), λ le. AreArguments.more_arguments (p'.1 (omega (arith, le, p'.0, q'.0))) (kind_carried n agree a (omega (arith, le, p'.0, q'.0))) (q'.1 (omega (arith, le, p'.0, q'.0))))

  pub argument_carried : {ts us : List Terminal} (n : ℕ) → Agree n us ts → {i d j : ℕ} {e : Argument} → IsArgument ts i e d j → (i < j) × (j ≤ n → IsArgument us i e d j)
  argument_carried {us = us} n agree (IsArgument.positional p) = let p' = expr_carried {us = us} n agree p in (p'.0, λ le. IsArgument.positional (p'.1 le))
  argument_carried {us = us} n agree (IsArgument.keyword a b p) =
      let p' = expr_carried {us = us} n agree p in
      (omega (arith, p'.0), λ le. IsArgument.keyword (name_carried n agree a (omega (arith, le, p'.0))) (kind_carried n agree b (omega (arith, le, p'.0))) (p'.1 (omega (arith, le, p'.0))))

  pub items_carried : {ts us : List Terminal} (n : ℕ) → Agree n us ts → {i d j : ℕ} {e : List Item} → AreItems ts i e d j → (i < j) × (j ≤ n → AreItems us i e d j)
  items_carried {us = us} n agree (AreItems.last_item p) = let p' = item_carried {us = us} n agree p in (p'.0, λ le. AreItems.last_item (p'.1 le))
  items_carried {us = us} n agree (AreItems.more_items p a q) =
      let p' = item_carried {us = us} n agree p in
      let q' = items_carried {us = us} n agree q in
      (omega (arith, p'.0, q'.0), λ le. AreItems.more_items (p'.1 (omega (arith, le, p'.0, q'.0))) (kind_carried n agree a (omega (arith, le, p'.0, q'.0))) (q'.1 (omega (arith, le, p'.0, q'.0))))

  pub item_carried : {ts us : List Terminal} (n : ℕ) → Agree n us ts → {i d j : ℕ} {e : Item} → IsItem ts i e d j → (i < j) × (j ≤ n → IsItem us i e d j)
  item_carried {us = us} n agree (IsItem.index p) = let p' = expr_carried {us = us} n agree p in (p'.0, λ le. IsItem.index (p'.1 le))
  item_carried n agree (IsItem.ellipsis a) = (omega arith, λ le. IsItem.ellipsis (kind_carried n agree a (omega (arith, le))))
  item_carried {us = us} n agree (IsItem.slice p a q) =
      let p' = maybe_carried {us = us} n agree p in
      let q' = maybe_carried {us = us} n agree q in
      (omega (arith, p'.0, q'.0), λ le. IsItem.slice (p'.1 (omega (arith, le, p'.0, q'.0))) (kind_carried n agree a (omega (arith, le, p'.0, q'.0))) (q'.1 (omega (arith, le, p'.0, q'.0))))
  item_carried {us = us} n agree (IsItem.step_slice p a q b r) =
      let p' = maybe_carried {us = us} n agree p in
      let q' = maybe_carried {us = us} n agree q in
      let r' = maybe_carried {us = us} n agree r in
      (omega (arith, p'.0, q'.0, r'.0), λ le. IsItem.step_slice (p'.1 (omega (arith, le, p'.0, q'.0, r'.0))) (kind_carried n agree a (omega (arith, le, p'.0, q'.0, r'.0))) (q'.1 (omega (arith, le, p'.0, q'.0, r'.0))) (kind_carried n agree b (omega (arith, le, p'.0, q'.0, r'.0))) (r'.1 (omega (arith, le, p'.0, q'.0, r'.0))))

  pub maybe_carried : {ts us : List Terminal} (n : ℕ) → Agree n us ts → {i d j : ℕ} {e : Option Expr} → MaybeExpr ts i e d j → (i ≤ j) × (j ≤ n → MaybeExpr us i e d j)
  maybe_carried n agree MaybeExpr.absent = (omega arith, λ le. MaybeExpr.absent)
  maybe_carried {us = us} n agree (MaybeExpr.present p) =
      let p' = expr_carried {us = us} n agree p in
      (omega (arith, p'.0), λ le. MaybeExpr.present (p'.1 (omega (arith, le, p'.0))))

  pub comma_carried : {ts us : List Terminal} (n : ℕ) → Agree n us ts → {i j : ℕ} → HasComma ts i j → (i ≤ j) × (j ≤ n → HasComma us i j)
  comma_carried n agree HasComma.no_comma = (omega arith, λ le. HasComma.no_comma)
  comma_carried n agree (HasComma.comma a) = (omega arith, λ le. HasComma.comma (kind_carried n agree a (omega (arith, le))))

  pub exprs_carried : {ts us : List Terminal} (n : ℕ) → Agree n us ts → {i d j : ℕ} {e : List Expr} → AreExprs ts i e d j → (i < j) × (j ≤ n → AreExprs us i e d j)
  exprs_carried {us = us} n agree (AreExprs.last_expr p) = let p' = expr_carried {us = us} n agree p in (p'.0, λ le. AreExprs.last_expr (p'.1 le))
  exprs_carried {us = us} n agree (AreExprs.more_exprs p a q) =
      let p' = expr_carried {us = us} n agree p in
      let q' = exprs_carried {us = us} n agree q in
      (omega (arith, p'.0, q'.0), λ le. AreExprs.more_exprs (p'.1 (omega (arith, le, p'.0, q'.0))) (kind_carried n agree a (omega (arith, le, p'.0, q'.0))) (q'.1 (omega (arith, le, p'.0, q'.0))))

  pub entries_carried : {ts us : List Terminal} (n : ℕ) → Agree n us ts → {i d j : ℕ} {e : List Entry} → AreEntries ts i e d j → (i < j) × (j ≤ n → AreEntries us i e d j)
  entries_carried {us = us} n agree (AreEntries.last_entry p a q) =
      let p' = expr_carried {us = us} n agree p in
      let q' = expr_carried {us = us} n agree q in
      (omega (arith, p'.0, q'.0), λ le. AreEntries.last_entry (p'.1 (omega (arith, le, p'.0, q'.0))) (kind_carried n agree a (omega (arith, le, p'.0, q'.0))) (q'.1 (omega (arith, le, p'.0, q'.0))))
  entries_carried {us = us} n agree (AreEntries.more_entries p a q b r) =
      let p' = expr_carried {us = us} n agree p in
      let q' = expr_carried {us = us} n agree q in
      let r' = entries_carried {us = us} n agree r in
      (omega (arith, p'.0, q'.0, r'.0), λ le. AreEntries.more_entries (p'.1 (omega (arith, le, p'.0, q'.0, r'.0))) (kind_carried n agree a (omega (arith, le, p'.0, q'.0, r'.0))) (q'.1 (omega (arith, le, p'.0, q'.0, r'.0))) (kind_carried n agree b (omega (arith, le, p'.0, q'.0, r'.0))) (r'.1 (omega (arith, le, p'.0, q'.0, r'.0))))

  pub atom_carried : {ts us : List Terminal} (n : ℕ) → Agree n us ts → {i d j : ℕ} {e : Expr} → IsAtom ts i e d j → (i < j) × (j ≤ n → IsAtom us i e d j)
  atom_carried n agree (IsAtom.name at a same) = (omega arith, λ le. IsAtom.name (place_carried n agree at (omega (arith, le))) (name_carried n agree a (omega (arith, le))) same)
  atom_carried n agree (IsAtom.number at a same) = (omega arith, λ le. IsAtom.number (place_carried n agree at (omega (arith, le))) (kind_carried n agree a (omega (arith, le))) same)
  atom_carried {us = us} n agree (IsAtom.texts at p same) =
      let p' = texts_carried {us = us} n agree p in
      (omega (arith, p'.0), λ le. IsAtom.texts (place_carried n agree at (omega (arith, le, p'.0))) (p'.1 (omega (arith, le, p'.0))) same)
  atom_carried n agree (IsAtom.true_ at a same) = (omega arith, λ le. IsAtom.true_ (place_carried n agree at (omega (arith, le))) (kind_carried n agree a (omega (arith, le))) same)
  atom_carried n agree (IsAtom.false_ at a same) = (omega arith, λ le. IsAtom.false_ (place_carried n agree at (omega (arith, le))) (kind_carried n agree a (omega (arith, le))) same)
  atom_carried n agree (IsAtom.none at a same) = (omega arith, λ le. IsAtom.none (place_carried n agree at (omega (arith, le))) (kind_carried n agree a (omega (arith, le))) same)
  atom_carried {us = us} n agree (IsAtom.sizeof at a b p c same) =
      let p' = typing_carried {us = us} n agree p in
      (omega (arith, p'.0), λ le. IsAtom.sizeof (place_carried n agree at (omega (arith, le, p'.0))) (kind_carried n agree a (omega (arith, le, p'.0))) (kind_carried n agree b (omega (arith, le, p'.0))) (p'.1 (omega (arith, le, p'.0))) (kind_carried n agree c (omega (arith, le, p'.0))) same)
  atom_carried {us = us} n agree (IsAtom.in_parentheses a p b) =
      let p' = expr_carried {us = us} n agree p in
      (omega (arith, p'.0), λ le. IsAtom.in_parentheses (kind_carried n agree a (omega (arith, le, p'.0))) (p'.1 (omega (arith, le, p'.0))) (kind_carried n agree b (omega (arith, le, p'.0))))
  atom_carried n agree (IsAtom.empty_tuple at a b same) = (omega arith, λ le. IsAtom.empty_tuple (place_carried n agree at (omega (arith, le))) (kind_carried n agree a (omega (arith, le))) (kind_carried n agree b (omega (arith, le))) same)
  atom_carried {us = us} n agree (IsAtom.tuple at a p b same) =
      let p' = commas_carried {us = us} n agree p in
      (omega (arith, p'.0), λ le. IsAtom.tuple (place_carried n agree at (omega (arith, le, p'.0))) (kind_carried n agree a (omega (arith, le, p'.0))) (p'.1 (omega (arith, le, p'.0))) (kind_carried n agree b (omega (arith, le, p'.0))) same)
  atom_carried n agree (IsAtom.empty_list at a b same) = (omega arith, λ le. IsAtom.empty_list (place_carried n agree at (omega (arith, le))) (kind_carried n agree a (omega (arith, le))) (kind_carried n agree b (omega (arith, le))) same)
  atom_carried {us = us} n agree (IsAtom.list at a p q b same) =
      let p' = exprs_carried {us = us} n agree p in
      let q' = comma_carried {us = us} n agree q in
      (omega (arith, p'.0, q'.0), λ le. IsAtom.list (place_carried n agree at (omega (arith, le, p'.0, q'.0))) (kind_carried n agree a (omega (arith, le, p'.0, q'.0))) (p'.1 (omega (arith, le, p'.0, q'.0))) (q'.1 (omega (arith, le, p'.0, q'.0))) (kind_carried n agree b (omega (arith, le, p'.0, q'.0))) same)
  atom_carried n agree (IsAtom.empty_dict at a b same) = (omega arith, λ le. IsAtom.empty_dict (place_carried n agree at (omega (arith, le))) (kind_carried n agree a (omega (arith, le))) (kind_carried n agree b (omega (arith, le))) same)
  atom_carried {us = us} n agree (IsAtom.dict at a p q b same) =
      let p' = entries_carried {us = us} n agree p in
      let q' = comma_carried {us = us} n agree q in
      (omega (arith, p'.0, q'.0), λ le. IsAtom.dict (place_carried n agree at (omega (arith, le, p'.0, q'.0))) (kind_carried n agree a (omega (arith, le, p'.0, q'.0))) (p'.1 (omega (arith, le, p'.0, q'.0))) (q'.1 (omega (arith, le, p'.0, q'.0))) (kind_carried n agree b (omega (arith, le, p'.0, q'.0))) same)

  pub commas_carried : {ts us : List Terminal} (n : ℕ) → Agree n us ts → {i d j : ℕ} {e : List Expr} → HasCommas ts i e d j → (i < j) × (j ≤ n → HasCommas us i e d j)
  commas_carried {us = us} n agree (HasCommas.one_with_comma p a) =
      let p' = expr_carried {us = us} n agree p in
      (omega (arith, p'.0), λ le. HasCommas.one_with_comma (p'.1 (omega (arith, le, p'.0))) (kind_carried n agree a (omega (arith, le, p'.0))))
  commas_carried {us = us} n agree (HasCommas.several p a q r) =
      let p' = expr_carried {us = us} n agree p in
      let q' = exprs_carried {us = us} n agree q in
      let r' = comma_carried {us = us} n agree r in
      (omega (arith, p'.0, q'.0, r'.0), λ le. HasCommas.several (p'.1 (omega (arith, le, p'.0, q'.0, r'.0))) (kind_carried n agree a (omega (arith, le, p'.0, q'.0, r'.0))) (q'.1 (omega (arith, le, p'.0, q'.0, r'.0))) (r'.1 (omega (arith, le, p'.0, q'.0, r'.0))))

-- an expression is one of the tokens before its end alone
pub expr_cut : {ts : List Terminal} {i d j : ℕ} {e : Expr} → IsExpr ts i e d j → IsExpr (take j ts) i e d j
expr_cut {ts} {j = j} p = (expr_carried j (agree_front j ts) p).1 (omega arith)

-- How far each form goes

pub comparison_forward : {ts : List Terminal} {i j : ℕ} {meant : CompareOp} → IsCompareOp ts i meant j → i < j
comparison_forward {ts} p = (comparison_carried 0 (agree_same ts) p).0

pub texts_forward : {ts : List Terminal} {i j : ℕ} {contents : List (List ℕ)} → AreTexts ts i contents j → i < j
texts_forward {ts} p = (texts_carried 0 (agree_same ts) p).0

pub comma_forward : {ts : List Terminal} {i j : ℕ} → HasComma ts i j → i ≤ j
comma_forward {ts} p = (comma_carried 0 (agree_same ts) p).0

pub typing_forward : {ts : List Terminal} {i d j : ℕ} {t : Typing} → IsTyping ts i t d j → i ≤ j
typing_forward {ts} p = (typing_carried 0 (agree_same ts) p).0

pub expr_forward : {ts : List Terminal} {i d j : ℕ} {e : Expr} → IsExpr ts i e d j → i < j
expr_forward {ts} p = (expr_carried 0 (agree_same ts) p).0
