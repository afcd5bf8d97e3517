use Rattle.std.proofs.Common.{sym, ◌∙◌, arith, subst}
use Rattle.std.proofs.lemmas.Bool.{false≢true}
use Rattle.std.proofs.lemmas.Result.{err_from_is_err_and}
use Rattle.px_base.proofs.Facts.{denied}
use Rattle.px_parser.proofs.TargetsSteps.{augment_stuck}
use Rattle.px_parser.proofs.TargetsReading.{behind_operator, value_refused, augmentation_read}
use Rattle.px_parser.proofs.targets.augmentation.Goals as goal
use Rattle.px_parser.proofs.targets.augmentation.Goals.{then-not-is_alone-via-then-not-is_alone, then-not-is_alone-via-else-not-is_alone+then-not-is_target}
use Rattle.px_parser.specs.Parts.{IsTargetTree}

pub returns-then-not-is_alone : goal.returns-then-not-is_alone
returns-then-not-is_alone c = λ room.
    augment_stuck (record { read = c.requires.read; stands = c.requires.behind }) (λ one target. elim c.then-not-is_alone.branch [
      | then-not-is_alone-via-then-not-is_alone w ↦ false≢true (sym w.if-not-is_alone.true ∙ one)
      | then-not-is_alone-via-else-not-is_alone+then-not-is_target w ↦ denied w.is_target.ensures w.if-not-is_target.true (subst IsTargetTree (sym (w.get.ensures ∙ c.in_ok-target_tree.ensures)) target)
    ]) room

pub overflow_add-to : goal.overflow_add-to
overflow_add-to c = omega (arith, behind_operator c.args.tokens.now c.args.to c.requires.behind.spelled c.requires.input c.requires.behind.stands, c.requires.input.input.few)

pub expr-requires-clause-inside : goal.expr-requires-clause-inside
expr-requires-clause-inside c = behind_operator c.args.tokens.now c.args.to c.requires.behind.spelled c.requires.input c.requires.behind.stands

pub returns-in_err-value : goal.returns-in_err-value
returns-in_err-value c =
    let p = err_from_is_err_and c.from_residual-in_err-value.result c.from_residual-in_err-value.ensures.1 in
    let target = subst IsTargetTree (c.get.ensures ∙ c.in_ok-target_tree.ensures) (c.is_target.ensures.0 c.if-not-is_target.false) in
    rw (p.1, p.2) (λ room. value_refused (record { read = c.requires.read; stands = c.requires.behind }) c.if-not-is_alone.false target room _ (c.in_err-value.ensures room))

pub returns : goal.returns
returns c = λ room.
    let target = subst IsTargetTree (c.get.ensures ∙ c.in_ok-target_tree.ensures) (c.is_target.ensures.0 c.if-not-is_target.false) in
    augmentation_read (record { read = c.requires.read; stands = c.requires.behind }) c.if-not-is_alone.false target room (c.in_ok-value.ensures room) (c.into_inner.ensures ∙ c.in_ok-target_tree.ensures) c.in_ok-value_tree.ensures c.keep_before_simple_end.result
    c.keep_before_simple_end.ensures
