use Rattle.std.proofs.Common.{◌≡◌, [], ◌∷◌, ◌++◌, length, map, refl, sym, ap, ◌∙◌, arith}
use Rattle.std.specs.Vec.Iter.{into_iter_items}
use Rattle.px_typed_walk.specs.TypedView.{rose_of_typed}
use Rattle.px_operators.specs.Kept.{trees_kept, operands_kept}
use Rattle.px_operators.proofs.AllParts.{nothing_left}
use Rattle.std.proofs.lemmas.List.{append-nil}
use Rattle.px_operators.proofs.OperandLoops.{one_more}
use Rattle.px_types.specs.Statements.{trees_of}
use Rattle.px_types.proofs.statements.trees_of.Goals as goal

pub loop-operand-init : goal.loop-operand-init
loop-operand-init c = (
  ap (λ trees. trees_kept trees ++ map trees_of (operands_kept (into_iter_items c.into_iter-operand-iterator.result))) c.new-trees.ensures.items,
  c.into_iter-operand-iterator.ensures.into_iter_gives.1 ∙ c.args.operands.ok.0 ∙ ap length (sym c.into_iter-operand-iterator.ensures.into_iter_gives.0),
)

pub loop-operand-preserved : goal.loop-operand-preserved
loop-operand-preserved c =
    let at = c.loop-operand in
    let steps : into_iter_items at.operand-iterator ≡ c.in-Some.operand ∷ into_iter_items c.next.new.self = c.in-Some.ensures.steps.0 in (
      one_more at.trees.items c.push.new.self.items c.in-Some.operand.tree (rose_of_typed c.in-Some.operand.tree)
          (map trees_of (operands_kept (into_iter_items c.next.new.self))) _ c.in_ok-push.ensures.items refl
          (ap (λ xs. trees_kept at.trees.items ++ map trees_of (operands_kept xs)) (sym steps) ∙ at.invariant.0),
      let was = at.invariant.1 in
          let gone = c.in-Some.ensures.steps.1 in
          let short = ap length steps in
          omega arith,
    )

pub returns : goal.returns
returns c =
    let at = c.loop-operand in
    let none : into_iter_items at.operand-iterator ≡ [] = nothing_left _ (sym at.invariant.1 ∙ c.in-None.ensures.steps.0) in
    sym (append-nil (trees_kept at.trees.items))
    ∙ ap (λ xs. trees_kept at.trees.items ++ map trees_of (operands_kept xs)) (sym none)
    ∙ at.invariant.0
    ∙ ap (λ xs. map trees_of (operands_kept xs)) c.into_iter-operand-iterator.ensures.into_iter_gives.0
