use Rattle.std.proofs.Common.{◌≡◌, [], ◌∷◌, ◌++◌, length, map, sym, ap, ◌∙◌, arith}
use Rattle.std.proofs.lemmas.List.{append-nil}
use Rattle.std.specs.Vec.Iter.{into_iter_items}
use Rattle.px_typed_walk.specs.TypedView.{rose_of_typed, typed_node}
use Rattle.px_operators.specs.Conversions.{in_c}
use Rattle.px_operators.specs.Kept.{trees_kept, operand_kept, operands_kept}
use Rattle.px_operators.proofs.AllParts.{nothing_left}
use Rattle.px_operators.proofs.OperandLoops.{one_more}
use Rattle.px_operators.proofs.operators.in_common.Goals as goal

pub loop-operand-init : goal.loop-operand-init
loop-operand-init c = (
  ap (λ trees. trees_kept trees ++ map (in_c c.args.t) (operands_kept (into_iter_items c.into_iter-operand-iterator.result))) c.new-parts.ensures.items,
  c.into_iter-operand-iterator.ensures.into_iter_gives.1 ∙ c.args.operands.ok.0 ∙ ap length (sym c.into_iter-operand-iterator.ensures.into_iter_gives.0),
)

pub loop-operand-preserved : goal.loop-operand-preserved
loop-operand-preserved c =
    let at = c.loop-operand in
    let steps : into_iter_items at.operand-iterator ≡ c.in-Some.operand ∷ into_iter_items c.next.new.self = c.in-Some.ensures.steps.0 in (
      one_more at.parts.items c.push.new.self.items c.in_ok-in_c.field-0 (in_c c.args.t (operand_kept c.in-Some.operand))
          (map (in_c c.args.t) (operands_kept (into_iter_items c.next.new.self))) _ c.in_ok-push.ensures.items c.in_ok-in_c.ensures
          (ap (λ xs. trees_kept at.parts.items ++ map (in_c c.args.t) (operands_kept xs)) (sym steps) ∙ at.invariant.0),
      let was = at.invariant.1 in
          let gone = c.in-Some.ensures.steps.1 in
          let short = ap length steps in
          omega arith,
    )

pub returns : goal.returns
returns c =
    let at = c.loop-operand in
    let none : into_iter_items at.operand-iterator ≡ [] = nothing_left _ (sym at.invariant.1 ∙ c.in-None.ensures.steps.0) in
    let parts = sym (append-nil (trees_kept at.parts.items))
    ∙ ap (λ xs. trees_kept at.parts.items ++ map (in_c c.args.t) (operands_kept xs)) (sym none)
    ∙ at.invariant.0
    ∙ ap (λ xs. map (in_c c.args.t) (operands_kept xs)) c.into_iter-operand-iterator.ensures.into_iter_gives.0 in
    c.tree_of.ensures
    ∙ ap (λ items. typed_node c.args.head c.args.number c.args.at (map rose_of_typed items)) c.from_vec.ensures
    ∙ ap (typed_node c.args.head c.args.number c.args.at) parts
