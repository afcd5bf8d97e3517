use Rattle.std.proofs.Common.{◌≡◌, ◌∷◌, ◌++◌, length, drop, refl, sym, ap, ◌∙◌, arith}
use Rattle.std.specs.Prelude.{zip}
use Rattle.std.specs.Vec.Iter.{into_iter_items}
use Rattle.px_base.specs.declared.c_types.BinOp.TheVariants.{Add}
use Rattle.px_operators.specs.Operators.{binary_steps}
use Rattle.px_operators.specs.Kept.{trees_kept, operand_kept, operands_kept}
use Rattle.px_operators.proofs.OperandLoops.{binary_turn, chain_gives, no_more, zip_behind, zip_none}
use Rattle.px_operators.proofs.operators.chain_of.Goals as goal
use Rattle.px_operators.proofs.operators.chain_of.Goals.{else-loop-op-test, then-loop-op-test+in_default-next}

pub loop-op-init : goal.loop-op-init
loop-op-init c = (
  ap (λ trees. trees_kept trees ++ binary_steps c.args.cdivision c.args.number c.args.at (operand_kept c.in-Some.first) (zip c.args.ops.now (operands_kept (into_iter_items c.next.new.self)))) c.new-steps.ensures.items,
  let gone = c.in-Some.ensures.cases.1 in
      let was = c.into_iter-others.ensures.len in
      let ok = c.args.operands.ok.0 in
      let short = ap length (sym c.into_iter-others.ensures.rest ∙ c.in-Some.ensures.cases.0) in
      omega arith,
)

pub loop-op-preserved : goal.loop-op-preserved
loop-op-preserved c =
    let at = c.loop-op in
    let steps : into_iter_items at.others ≡ c.in-Some-next.right ∷ into_iter_items c.next-in-loop-op.new.self = c.in-Some-next.ensures.cases.0 in (
      binary_turn c.args.cdivision c.args.number c.args.at c.args.ops.now at.op-index Add at.steps.items c.push.new.self.items c.in_ok-step.step
          at.left c.in-Some-next.right c.given-left.result (into_iter_items at.others) (into_iter_items c.next-in-loop-op.new.self) c.binary_type-t.result _
          at.invariant.0 c.loop-op-test.true steps c.in_ok-step.ensures c.in_ok-push.ensures.items c.binary_type-t.ensures c.given-left.ensures,
      let was = at.invariant.1 in
          let gone = c.in-Some-next.ensures.cases.1 in
          let short = ap length steps in
          omega arith,
    )

pub returns : goal.returns
returns c =
    let at = c.loop-op in
    let begins = sym c.into_iter-others.ensures.rest ∙ c.in-Some.ensures.cases.0 in
    let steps_of = binary_steps c.args.cdivision c.args.number c.args.at (operand_kept at.left) in
    chain_gives c.args.cdivision c.args.number c.args.at c.args.ops.now c.args.operands.items (into_iter_items c.next.new.self) c.in-Some.first at.steps.items c.of_steps.result begins
    (elim c.loop-op-test.branch [
      | else-loop-op-test w ↦ no_more steps_of (trees_kept at.steps.items) _ _ refl at.invariant.0 (zip_behind c.args.ops.now (operands_kept (into_iter_items at.others)) at.op-index w.loop-op-test.false)
      | then-loop-op-test+in_default-next w ↦ no_more steps_of (trees_kept at.steps.items) _ _ refl at.invariant.0
          (zip_none operand_kept (drop at.op-index c.args.ops.now) (into_iter_items at.others) (sym at.invariant.1 ∙ w.in_default-next.ensures.cases.0))
    ])
    c.of_steps.ensures
