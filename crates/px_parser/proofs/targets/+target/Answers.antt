use Rattle.std.proofs.Common.{refl, sym, subst}
use Rattle.std.proofs.lemmas.Bool.{false≢true}
use Rattle.px_base.proofs.Facts.{denied}
use Rattle.px_parser.specs.StatementGrammar.{EndsWithSubscript}
use Rattle.px_parser.specs.Parts.{IsTargetTree, AreTargetTrees}
use Rattle.px_parser.proofs.TargetsTrees.{of_form, row_target, row_told, tuple_target, tuple_told, targets_there, targets_before, targets_end}
use Rattle.px_parser.proofs.targets.+target.Goals as goal

pub is_target-returns-in-Name : goal.is_target-returns-in-Name
is_target-returns-in-Name t c = (λ _. IsTargetTree.name c.args.expr.now.number c.args.expr.now.at c.in-Name.field-0 (of_form c.args.expr.now c.in-Name.is), λ _. refl)

pub is_target-returns-in-Row : goal.is_target-returns-in-Row
is_target-returns-in-Row t c = (
  λ h. row_target c.in-Row.field-0 c.in-Row.is (subst EndsWithSubscript c.as_slice.ensures (c.ends_with_subscript.ensures.0 h)),
  λ target. c.ends_with_subscript.ensures.1 (subst EndsWithSubscript (sym c.as_slice.ensures) (row_told c.in-Row.field-0 c.in-Row.is target)),
)

pub is_target-returns-then-not-is_empty : goal.is_target-returns-then-not-is_empty
is_target-returns-then-not-is_empty t c = (
  λ h. tuple_target c.in-Tuple.items c.in-Tuple.is (λ e. false≢true (c.if-not-is_empty.ensures.1 e)) (subst AreTargetTrees c.as_slice-then-not-is_empty.ensures (c.are_targets.ensures.0 h)),
  λ target. c.are_targets.ensures.1 (subst AreTargetTrees (sym c.as_slice-then-not-is_empty.ensures) (tuple_told c.in-Tuple.is target)),
)

pub are_targets-returns-then-not-is_target : goal.are_targets-returns-then-not-is_target
are_targets-returns-then-not-is_target t c = (
  λ holds. absurd (false≢true holds),
  λ targets. absurd
      (denied c.is_target.ensures c.if-not-is_target.true (targets_there c.args.exprs.now c.loop-expr.expr-index c.loop-expr-test.true c.expr-item.is (c.loop-expr.invariant.0 targets)).0),
)

pub are_targets-loop-expr-preserved : goal.are_targets-loop-expr-preserved
are_targets-loop-expr-preserved t c = (
  λ targets. (targets_there c.args.exprs.now c.loop-expr.expr-index c.loop-expr-test.true c.expr-item.is (c.loop-expr.invariant.0 targets)).1,
  λ targets. c.loop-expr.invariant.1 (targets_before c.args.exprs.now c.loop-expr.expr-index c.loop-expr-test.true c.expr-item.is (c.is_target.ensures.0 c.if-not-is_target.false) targets),
)

pub are_targets-returns : goal.are_targets-returns
are_targets-returns t c = (λ _. c.loop-expr.invariant.1 (targets_end c.args.exprs.now c.loop-expr.expr-index c.loop-expr-test.false), λ _. refl)
