use Rattle.std.proofs.Common.{◌≡◌, ◌+◌, [], ◌∷◌, ◌++◌, length, drop, refl, sym, ap, ◌∙◌, arith}
use Rattle.std.specs.Prelude.{zip, min}
use Rattle.std.specs.Vec.Iter.{into_iter_items}
use Rattle.std.proofs.lemmas.List.{length-append}
use Rattle.px_base.specs.declared.c_types.CmpOp.TheVariants.{Lt}
use Rattle.px_operators.specs.Operators.{given, compare_steps}
use Rattle.px_operators.specs.Kept.{trees_kept, operand_kept, operands_kept}
use Rattle.px_operators.proofs.OperandLoops.{compare_turn, comparison_gives, split_more, split_end, no_more, zip_behind, zip_none}
use Rattle.px_operators.proofs.operators.comparison_of.Goals as goal
use Rattle.px_operators.proofs.operators.comparison_of.Goals.{then-len-last+in_ok-right, else-len-last, else-loop-op-test, then-loop-op-test+in_default-next}

pub loop-op-init : goal.loop-op-init
loop-op-init c =
    let gone = c.in-Some.ensures.cases.1 in
    let was = c.into_iter-others.ensures.len in
    let ok = c.args.operands.ok.0 in
    let begins = sym c.into_iter-others.ensures.rest ∙ c.in-Some.ensures.cases.0 in
    let short = ap length begins in
    let none = ap length c.new-steps.ensures.items in
    let len_is = c.len.ensures in
    let less = c.saturating_sub.ensures in
    let last_is = c.min-last.ensures in (
      ap (λ trees. trees_kept trees ++ compare_steps c.args.number c.args.at (operand_kept c.in-Some.first) (zip c.args.ops.now (operands_kept (into_iter_items c.next.new.self)))) c.new-steps.ensures.items,
      omega arith,
      none,
      omega arith,
    )

pub loop-op-preserved : goal.loop-op-preserved
loop-op-preserved c =
    let at = c.loop-op in
    let rest = into_iter_items c.next-in-loop-op.new.self in
    let steps : into_iter_items at.others ≡ c.in-Some-next.right ∷ rest = c.in-Some-next.ensures.cases.0 in
    let gone = c.in-Some-next.ensures.cases.1 in
    let was = at.invariant.1 in
    let short = ap length steps in
    let so_far = at.invariant.2 in
    let all_steps = at.invariant.3 in
    let below = c.loop-op-test.true in
    let pushed = ap length c.in_ok-push.ensures.items in
    let len_is = c.len-in-loop-op.ensures in
    let ok = at.steps.ok.0 in
    let here : c.len-in-loop-op.result ≡ at.op-index = omega arith in
    let last_is : c.min-last.result ≡ min (length c.args.ops.now) (at.op-index + (1 + length rest)) = omega arith in (
      compare_turn c.args.number c.args.at c.args.ops.now at.op-index Lt at.steps.items c.push.new.self.items c.in_ok-step.step
          at.left c.in-Some-next.right c.if-len-last.right c.given-next.result (into_iter_items at.others) rest _
          at.invariant.0 below steps c.in_ok-step.ensures c.in_ok-push.ensures.items (c.given-next.ensures ∙ ap (λ place. given c.args.number place c.in-Some-next.right.c_type) c.at_of.ensures)
          (elim c.if-len-last.branch [
            | then-len-last+in_ok-right w ↦ let more = w.if-len-last.true in
                split_more c.args.number c.args.at (operand_kept at.left) (operand_kept c.in-Some-next.right) (operand_kept c.if-len-last.right) _ c.args.ops.now at.op-index c.min-last.result rest
                below last_is (omega arith) (ap operand_kept w.right-is ∙ w.in_ok-right.ensures)
            | else-len-last w ↦ let none = w.if-len-last.false in
                split_end c.args.number c.args.at (operand_kept at.left) (operand_kept c.in-Some-next.right) (operand_kept c.if-len-last.right) _ c.args.ops.now at.op-index c.min-last.result rest
                below last_is (omega arith) (ap operand_kept w.right-is)
          ]),
      omega arith,
      omega (arith, length-append at.steps.items (c.in_ok-step.step ∷ [])),
      omega arith,
    )

pub returns : goal.returns
returns c =
    let at = c.loop-op in
    let begins = sym c.into_iter-others.ensures.rest ∙ c.in-Some.ensures.cases.0 in
    let steps_of = compare_steps c.args.number c.args.at (operand_kept at.left) in
    comparison_gives c.args.number c.args.at c.args.ops.now c.args.operands.items (into_iter_items c.next.new.self) c.in-Some.first at.steps.items c.of_comparisons.result begins
    (elim c.loop-op-test.branch [
      | else-loop-op-test w ↦ no_more steps_of (trees_kept at.steps.items) _ _ refl at.invariant.0 (zip_behind c.args.ops.now (operands_kept (into_iter_items at.others)) at.op-index w.loop-op-test.false)
      | then-loop-op-test+in_default-next w ↦ no_more steps_of (trees_kept at.steps.items) _ _ refl at.invariant.0
          (zip_none operand_kept (drop at.op-index c.args.ops.now) (into_iter_items at.others) (sym at.invariant.1 ∙ w.in_default-next.ensures.cases.0))
    ])
    c.of_comparisons.ensures
