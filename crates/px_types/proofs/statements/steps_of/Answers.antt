use Rattle.std.proofs.Common.{◌≡◌, [], ◌∷◌, length, map, sym, ap, subst, ◌∙◌, arith}
use Rattle.std.specs.Vec.Iter.{into_iter_items}
use Rattle.px_tree.specs.declared.typed_trees.TypedTree.{TypedTree}
use Rattle.px_typed_walk.specs.TypedView.{rose_of_typed}
use Rattle.px_operators.specs.Outcomes.{all_of, Gives}
use Rattle.px_operators.specs.Kept.{gathered_kept}
use Rattle.px_operators.proofs.AllParts.{gives_mapped, map_twice, nothing_left, parts_begin, parts_turn, parts_end}
use Rattle.px_types.specs.Statements.{assigned_at}
use Rattle.px_types.proofs.statements.steps_of.Goals as goal

pub loop-target-init : goal.loop-target-init
loop-target-init c = (
  parts_begin rose_of_typed (λ target. assigned_at c.args.t c.args.value_at (rose_of_typed target)) (gathered_kept c.new-steps.result) (into_iter_items c.into_iter-target-iterator.result) c.new-steps.ensures,
  c.into_iter-target-iterator.ensures.into_iter_gives.1 ∙ c.args.targets.ok.0 ∙ ap length (sym c.into_iter-target-iterator.ensures.into_iter_gives.0),
)

pub loop-target-preserved : goal.loop-target-preserved
loop-target-preserved c =
    let at = c.loop-target in
    let steps : into_iter_items at.target-iterator ≡ c.in-Some.target ∷ into_iter_items c.next.new.self = c.in-Some.ensures.steps.0 in (
      parts_turn rose_of_typed (λ target. assigned_at c.args.t c.args.value_at (rose_of_typed target)) (gathered_kept at.steps) (gathered_kept c.take.new.self) (into_iter_items at.target-iterator)
          (into_iter_items c.next.new.self) c.in-Some.target c.assigned_given.result _ at.invariant.0 steps c.assigned_given.ensures c.in_ok-take.ensures,
      let was = at.invariant.1 in
          let gone = c.in-Some.ensures.steps.1 in
          let short = ap length steps in
          omega arith,
    )

pub returns : goal.returns
returns c =
    let at = c.loop-target in
    let none : into_iter_items at.target-iterator ≡ [] = nothing_left _ (sym at.invariant.1 ∙ c.in-None.ensures.steps.0) in
    let all = parts_end rose_of_typed (λ target. assigned_at c.args.t c.args.value_at (rose_of_typed target)) (gathered_kept at.steps) _ _ at.invariant.0 none in
    subst (λ o. Gives (λ all. map rose_of_typed all.items) c.all.result o)
    (all ∙ ap (λ xs. all_of (map (λ target. assigned_at c.args.t c.args.value_at (rose_of_typed target)) xs)) c.into_iter-target-iterator.ensures.into_iter_gives.0 ∙ sym (ap all_of (map_twice rose_of_typed (assigned_at c.args.t c.args.value_at) c.args.targets.items)))
    (gives_mapped (λ all. all.items) (map rose_of_typed) c.all.result (gathered_kept at.steps) c.all.ensures)
