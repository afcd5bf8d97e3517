-- A target is a primary, and an expression is a target where its tree is that of one.
use Rattle.std.proofs.Common.{ℕ, List, [], ◌∷◌, length, refl, arith}
use Rattle.px_tree.specs.declared.expressions.Expr.{Expr}
use Rattle.px_tree.specs.declared.expressions.ExprForm.TheOpen.{ExprForm-F}
use Rattle.px_tree.specs.declared.expressions.ExprForm.TheVariants as form
use Rattle.px_tree.specs.declared.expressions.ExprForm.TheVariants.{rolls-Name, rolls-Number, rolls-Text, rolls-True, rolls-False, rolls-None, rolls-Sizeof, rolls-Tuple, rolls-List, rolls-Dict, rolls-Row, rolls-Unary, rolls-Cast, rolls-Chain, rolls-Compare, rolls-Not, rolls-And, rolls-Or, rolls-Conditional}
use Rattle.px_lexer.specs.Terminals.{Terminal}
use Rattle.px_exprs.specs.Grammar.{Level, binary_levels, node, IsExpr, IsOr, IsAnd, IsNot, IsCompare, IsBinary, IsUnary, IsPrimary, IsAtom, HasCommas, AreExprs}
use Rattle.px_exprs.specs.Codes.{Past}
use Rattle.px_exprs.specs.Readings.{Stops}
use Rattle.px_exprs.proofs.Beginnings.{primary_begins}
use Rattle.px_exprs.proofs.Fresh.{IsFresh, some_name, stands_behind}
use Rattle.px_exprs.proofs.Keeping.{expr_carried, expr_forward}
use Rattle.px_exprs.proofs.Stops.{past_carried}
use Rattle.px_exprs.proofs.Uniqueness.{primary_only}
use Rattle.px_parser.specs.Shapes.{Nested}
use Rattle.px_parser.specs.StatementGrammar.{IsTarget, HasTargets, AreTargets}
use Rattle.px_parser.specs.Parts.{IsTargetTree, AreTargetTrees}
use Rattle.px_parser.proofs.Shapely.{Solid, GoodForm, Good, good_nested}
use Rattle.px_parser.proofs.Onlies.{Leads, Only, OnlyForm, only_nested}
use Rattle.px_parser.proofs.ExprShapes.{fresh_form, BeginsLow}
use Rattle.px_parser.proofs.TargetsTrees.{target_told}

-- A primary is an expression

unary_is_binary : (levels : List Level) {ts : List Terminal} {i d j : ℕ} {e : Expr} → IsUnary ts i e d j → IsBinary ts levels i e d j
unary_is_binary [] p = IsBinary.tightest p
unary_is_binary (level ∷ tighter) p = IsBinary.alone (unary_is_binary tighter p)

pub primary_is_expr : {ts : List Terminal} {i d j : ℕ} {e : Expr} → IsPrimary ts i e d j → IsExpr ts i e d j
primary_is_expr p = IsExpr.plain (IsOr.one_and (IsAnd.one_not (IsNot.compared (IsCompare.one_operand (unary_is_binary binary_levels (IsUnary.unsigned p))))))

-- A target is a primary

mutual
  pub target_is_primary : {ts : List Terminal} {i d j : ℕ} {e : Expr} → IsTarget ts i e d j → IsPrimary ts i e d j
  target_is_primary (IsTarget.name at n e) = IsPrimary.one_atom (IsAtom.name at n e)
  target_is_primary (IsTarget.element at p others ends e) = IsPrimary.row at p others e
  target_is_primary (IsTarget.in_parentheses opened p closed) = IsPrimary.one_atom (IsAtom.in_parentheses opened (primary_is_expr (target_is_primary p)) closed)
  target_is_primary (IsTarget.tuple at opened p closed e) = IsPrimary.one_atom (IsAtom.tuple at opened (targets_are_commas p) closed e)

  targets_are_commas : {ts : List Terminal} {i d j : ℕ} {es : List Expr} → HasTargets ts i es d j → HasCommas ts i es d j
  targets_are_commas (HasTargets.one_with_comma p comma) = HasCommas.one_with_comma (primary_is_expr (target_is_primary p)) comma
  targets_are_commas (HasTargets.several p comma others ending) = HasCommas.several (primary_is_expr (target_is_primary p)) comma (targets_are_exprs others) ending

  targets_are_exprs : {ts : List Terminal} {i d j : ℕ} {es : List Expr} → AreTargets ts i es d j → AreExprs ts i es d j
  targets_are_exprs (AreTargets.last_target p) = AreExprs.last_expr (primary_is_expr (target_is_primary p))
  targets_are_exprs (AreTargets.more_targets p comma others) = AreExprs.more_exprs (primary_is_expr (target_is_primary p)) comma (targets_are_exprs others)

pub target_is_expr : {ts : List Terminal} {i d j : ℕ} {e : Expr} → IsTarget ts i e d j → IsExpr ts i e d j
target_is_expr p = primary_is_expr (target_is_primary p)

-- Its tree

mutual
  pub target_has_tree : {ts : List Terminal} {i d j : ℕ} {e : Expr} → IsTarget ts i e d j → IsTargetTree e
  target_has_tree (IsTarget.name at n e) = IsTargetTree.name _ _ _ e
  target_has_tree (IsTarget.element at p others ends e) = IsTargetTree.element _ _ _ _ ends e
  target_has_tree (IsTarget.in_parentheses opened p closed) = target_has_tree p
  target_has_tree (IsTarget.tuple at opened (HasTargets.one_with_comma p comma) closed e) = IsTargetTree.tuple _ _ _ _ (target_has_tree p) AreTargetTrees.none e
  target_has_tree (IsTarget.tuple at opened (HasTargets.several p comma others ending) closed e) = IsTargetTree.tuple _ _ _ _ (target_has_tree p) (targets_have_trees others) e

  targets_have_trees : {ts : List Terminal} {i d j : ℕ} {es : List Expr} → AreTargets ts i es d j → AreTargetTrees es
  targets_have_trees (AreTargets.last_target p) = AreTargetTrees.more (target_has_tree p) AreTargetTrees.none
  targets_have_trees (AreTargets.more_targets p comma others) = AreTargetTrees.more (target_has_tree p) (targets_have_trees others)

-- An expression with such a tree: each other form is another one

mutual
  pub expr_target : {ts : List Terminal} {i d j : ℕ} {e : Expr} → IsExpr ts i e d j → IsTargetTree e → IsTarget ts i e d j
  expr_target (IsExpr.plain p) t = or_target p t
  expr_target (IsExpr.conditional {k = k} {at = place} {value = v} {test = w} {otherwise = o} at p condition q otherwise r e) t =
      absurd (target_told k place (ExprForm-F.Conditional v w o) (rolls-Conditional v w o) e t)

  or_target : {ts : List Terminal} {i d j : ℕ} {e : Expr} → IsOr ts i e d j → IsTargetTree e → IsTarget ts i e d j
  or_target (IsOr.one_and p) t = and_target p t
  or_target (IsOr.or_chain {k = k} {at = place} {first = f} {others = fs} at p others e) t = absurd (target_told k place (ExprForm-F.Or (f ∷ fs)) (rolls-Or (f ∷ fs)) e t)

  and_target : {ts : List Terminal} {i d j : ℕ} {e : Expr} → IsAnd ts i e d j → IsTargetTree e → IsTarget ts i e d j
  and_target (IsAnd.one_not p) t = not_target p t
  and_target (IsAnd.and_chain {k = k} {at = place} {first = f} {others = fs} at p others e) t = absurd (target_told k place (ExprForm-F.And (f ∷ fs)) (rolls-And (f ∷ fs)) e t)

  not_target : {ts : List Terminal} {i d j : ℕ} {e : Expr} → IsNot ts i e d j → IsTargetTree e → IsTarget ts i e d j
  not_target (IsNot.compared p) t = compare_target p t
  not_target (IsNot.denied {i = i} {at = place} {operand = f} at denial p e) t = absurd (target_told i place (ExprForm-F.Not f) (rolls-Not f) e t)

  compare_target : {ts : List Terminal} {i d j : ℕ} {e : Expr} → IsCompare ts i e d j → IsTargetTree e → IsTarget ts i e d j
  compare_target (IsCompare.one_operand p) t = binary_target p t
  compare_target (IsCompare.compare_chain {k = k} {at = place} {first = f} {others = fs} at p others e) t = absurd (target_told k place (ExprForm-F.Compare f fs) (rolls-Compare f fs) e t)

  binary_target : {ts : List Terminal} {levels : List Level} {i d j : ℕ} {e : Expr} → IsBinary ts levels i e d j → IsTargetTree e → IsTarget ts i e d j
  binary_target (IsBinary.tightest p) t = unary_target p t
  binary_target (IsBinary.alone p) t = binary_target p t
  binary_target (IsBinary.binary_chain {k = k} {at = place} {first = f} {others = fs} at p others e) t = absurd (target_told k place (ExprForm-F.Chain f fs) (rolls-Chain f fs) e t)

  unary_target : {ts : List Terminal} {i d j : ℕ} {e : Expr} → IsUnary ts i e d j → IsTargetTree e → IsTarget ts i e d j
  unary_target (IsUnary.signed {i = i} {at = place} {meant = m} {operand = f} at o p e) t = absurd (target_told i place (ExprForm-F.Unary m f) (rolls-Unary m f) e t)
  unary_target (IsUnary.cast {i = i} {at = place} {typing = u} {operand = f} at less typing greater p e) t = absurd (target_told i place (ExprForm-F.Cast u f) (rolls-Cast u f) e t)
  unary_target (IsUnary.unsigned p) t = primary_target p t

  pub primary_target : {ts : List Terminal} {i d j : ℕ} {e : Expr} → IsPrimary ts i e d j → IsTargetTree e → IsTarget ts i e d j
  primary_target (IsPrimary.one_atom p) t = atom_target p t
  primary_target (IsPrimary.row {k = k} {at = place} {atom = f} {others = fs} at p others e) t = IsTarget.element at p others (target_told k place (ExprForm-F.Row f fs) (rolls-Row f fs) e t) e

  atom_target : {ts : List Terminal} {i d j : ℕ} {e : Expr} → IsAtom ts i e d j → IsTargetTree e → IsTarget ts i e d j
  atom_target (IsAtom.name at n e) t = IsTarget.name at n e
  atom_target (IsAtom.number {i = i} {at = place} {n = n} at h e) t = absurd (target_told i place (ExprForm-F.Number n) (rolls-Number n) e t)
  atom_target (IsAtom.texts {i = i} {at = place} {contents = c} at p e) t = absurd (target_told i place (ExprForm-F.Text c) (rolls-Text c) e t)
  atom_target (IsAtom.true_ {i = i} {at = place} at h e) t = absurd (target_told i place ExprForm-F.True rolls-True e t)
  atom_target (IsAtom.false_ {i = i} {at = place} at h e) t = absurd (target_told i place ExprForm-F.False rolls-False e t)
  atom_target (IsAtom.none {i = i} {at = place} at h e) t = absurd (target_told i place ExprForm-F.None rolls-None e t)
  atom_target (IsAtom.sizeof {i = i} {at = place} {typing = u} at h opened typing closed e) t = absurd (target_told i place (ExprForm-F.Sizeof u) (rolls-Sizeof u) e t)
  atom_target (IsAtom.in_parentheses opened p closed) t = IsTarget.in_parentheses opened (expr_target p t) closed
  atom_target (IsAtom.empty_tuple {i = i} {at = place} at opened closed e) t = absurd ((target_told i place (ExprForm-F.Tuple []) (rolls-Tuple []) e t).1 refl)
  atom_target (IsAtom.tuple {i = i} {at = place} {items = fs} at opened p closed e) t =
      IsTarget.tuple at opened (commas_targets p (target_told i place (ExprForm-F.Tuple fs) (rolls-Tuple fs) e t).0) closed e
  atom_target (IsAtom.empty_list {i = i} {at = place} at opened closed e) t = absurd (target_told i place (ExprForm-F.List []) (rolls-List []) e t)
  atom_target (IsAtom.list {i = i} {at = place} {items = fs} at opened p ending closed e) t = absurd (target_told i place (ExprForm-F.List fs) (rolls-List fs) e t)
  atom_target (IsAtom.empty_dict {i = i} {at = place} at opened closed e) t = absurd (target_told i place (ExprForm-F.Dict []) (rolls-Dict []) e t)
  atom_target (IsAtom.dict {i = i} {at = place} {entries = fs} at opened p ending closed e) t = absurd (target_told i place (ExprForm-F.Dict fs) (rolls-Dict fs) e t)

  commas_targets : {ts : List Terminal} {i d j : ℕ} {es : List Expr} → HasCommas ts i es d j → AreTargetTrees es → HasTargets ts i es d j
  commas_targets (HasCommas.one_with_comma p comma) (AreTargetTrees.more t trees) = HasTargets.one_with_comma (expr_target p t) comma
  commas_targets (HasCommas.several p comma others ending) (AreTargetTrees.more t trees) = HasTargets.several (expr_target p t) comma (exprs_targets others trees) ending

  exprs_targets : {ts : List Terminal} {i d j : ℕ} {es : List Expr} → AreExprs ts i es d j → AreTargetTrees es → AreTargets ts i es d j
  exprs_targets (AreExprs.last_expr p) (AreTargetTrees.more t trees) = AreTargets.last_target (expr_target p t)
  exprs_targets (AreExprs.more_exprs p comma others) (AreTargetTrees.more t trees) = AreTargets.more_targets (expr_target p t) comma (exprs_targets others trees)

-- As a shape

fresh_target : IsFresh IsTarget
fresh_target us =
    let stands = stands_behind us some_name in (
      node (length us) some_name.at (form.Name []),
      IsTarget.name (record { token = some_name; stands = stands; placed = refl }) (record { token = some_name; stands = stands; kind = refl; spelled = refl }) refl,
    )

pub good_form_target : GoodForm IsTarget
good_form_target = record {
  sound = record {
    carried = λ {ts} {us} {i} {d} {j} h a. expr_target ((expr_carried j a (target_is_expr h)).1 (omega arith)) (target_has_tree h);
    forward = λ h. expr_forward (target_is_expr h);
  };
  fresh = fresh_form fresh_target;
}

pub good_target : Good (Nested IsTarget)
good_target = good_nested good_form_target

pub only_form_target : OnlyForm IsTarget (Past 12)
only_form_target = record {
  one = λ {ts} {us} {l = l} h s g r agree.
      let same = primary_only (target_is_primary (good_form_target.sound.carried h (λ i lt. agree i (omega (arith, lt))))) (past_carried ts us l agree s) _ _ _ (target_is_primary g) r in
      (same.tree, same.end);
}

pub only_target : Only (Nested IsTarget) (Past 12)
only_target = only_nested only_form_target

pub solid_target : Solid (Nested IsTarget)
solid_target = record { grows = λ h. expr_forward (target_is_expr h.read) }

pub leads_target : {R : Stops} → Leads (Nested IsTarget) R BeginsLow
leads_target = record { leads = λ h r. omega (arith, primary_begins (target_is_primary h.read)) }
