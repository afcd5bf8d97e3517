use Rattle.std.proofs.Common.{◌≡◌, ◌∷◌, ◌++◌, length, sym, ap, ◌∙◌, arith}
use Rattle.std.specs.Vec.Iter.{into_iter_items, into_iter_len}
use Rattle.px_operators.specs.Operators.{logic_steps}
use Rattle.px_operators.specs.OperatorsKept.{head_of_logic}
use Rattle.px_operators.specs.Kept.{trees_kept, operand_kept, operands_kept}
use Rattle.px_operators.proofs.OperandLoops.{logic_turn}
use Rattle.px_operators.proofs.operators.logic_of.Goals as goal

pub loop-right-init : goal.loop-right-init
loop-right-init c =
    let same = c.into_iter-right-iterator.ensures.into_iter_gives in
    let gone = c.in-Some.ensures.cases.1 in
    let was = c.into_iter-others.ensures.len in
    let ok = c.args.operands.ok.0 in
    let short = ap length (sym c.into_iter-others.ensures.rest ∙ c.in-Some.ensures.cases.0) in
    let left : into_iter_len c.next.new.self ≡ length (into_iter_items c.next.new.self) = omega arith in (
      ap (λ trees. trees_kept trees ++ logic_steps (head_of_logic c.args.logic) c.args.number c.args.at (operand_kept c.in-Some.first) (operands_kept (into_iter_items c.into_iter-right-iterator.result))) c.new-steps.ensures.items,
      ap (λ it. into_iter_len it) same ∙ left ∙ ap (λ it. length (into_iter_items it)) (sym same),
    )

pub loop-right-preserved : goal.loop-right-preserved
loop-right-preserved c =
    let at = c.loop-right in
    let steps : into_iter_items at.right-iterator ≡ c.in-Some-right.right ∷ into_iter_items c.next-in-loop-right.new.self = c.in-Some-right.ensures.steps.0 in (
      logic_turn (head_of_logic c.args.logic) c.args.number c.args.at at.steps.items c.push.new.self.items c.in_ok-step.step
          at.left c.in-Some-right.right c.given-left.result (into_iter_items at.right-iterator) (into_iter_items c.next-in-loop-right.new.self) c.common-t.result _
          at.invariant.0 steps c.in_ok-step.ensures c.in_ok-push.ensures.items c.common-t.ensures c.given-left.ensures,
      let was = at.invariant.1 in
          let gone = c.in-Some-right.ensures.steps.1 in
          let short = ap length steps in
          omega arith,
    )
