use Rattle.std.proofs.Common.{◌≡◌, [], ◌∷◌, length, map, sym, ap, subst, ◌∙◌, arith}
use Rattle.std.specs.Vec.Iter.{into_iter_items}
use Rattle.px_operators.specs.Outcomes.{followed, all_of, Gives}
use Rattle.px_operators.specs.Operators.{operand}
use Rattle.px_operators.specs.Kept.{part_kept, operand_kept, gathered_kept}
use Rattle.px_operators.proofs.AllParts.{gives_mapped, map_twice, nothing_left, parts_begin, parts_turn, parts_end}
use Rattle.px_operators.proofs.operands.as_operands.Goals as goal

pub loop-part-init : goal.loop-part-init
loop-part-init c = (
  parts_begin operand_kept (λ part. followed (part_kept part) operand) (gathered_kept c.new-all.result) (into_iter_items c.into_iter-part-iterator.result) c.new-all.ensures,
  c.into_iter-part-iterator.ensures.into_iter_gives.1 ∙ c.args.parts.ok.0 ∙ ap length (sym c.into_iter-part-iterator.ensures.into_iter_gives.0),
)

pub loop-part-preserved : goal.loop-part-preserved
loop-part-preserved c =
    let at = c.loop-part in
    let steps : into_iter_items at.part-iterator ≡ c.in-Some.part ∷ into_iter_items c.next.new.self = c.in-Some.ensures.steps.0 in (
      parts_turn operand_kept (λ part. followed (part_kept part) operand) (gathered_kept at.all) (gathered_kept c.take.new.self) (into_iter_items at.part-iterator)
          (into_iter_items c.next.new.self) c.in-Some.part c.operand_part.result _ at.invariant.0 steps c.operand_part.ensures c.in_ok-take.ensures,
      let was = at.invariant.1 in
          let gone = c.in-Some.ensures.steps.1 in
          let short = ap length steps in
          omega arith,
    )

pub returns : goal.returns
returns c =
    let at = c.loop-part in
    let none : into_iter_items at.part-iterator ≡ [] = nothing_left _ (sym at.invariant.1 ∙ c.in-None.ensures.steps.0) in
    let all = parts_end operand_kept (λ part. followed (part_kept part) operand) (gathered_kept at.all) _ _ at.invariant.0 none in
    subst (λ o. Gives (λ all. map operand_kept all.items) c.all.result o)
    (all ∙ ap (λ xs. all_of (map (λ part. followed (part_kept part) operand) xs)) c.into_iter-part-iterator.ensures.into_iter_gives.0 ∙ sym (ap all_of (map_twice part_kept (λ o. followed o operand) c.args.parts.items)))
    (gives_mapped (λ all. all.items) (map operand_kept) c.all.result (gathered_kept at.all) c.all.ensures)
