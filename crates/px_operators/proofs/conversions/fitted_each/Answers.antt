use Rattle.std.proofs.Common.{◌≡◌, ◌∷◌, length, map, drop, sym, ap, subst, ◌∙◌, arith}
use Rattle.std.specs.Vec.Iter.{into_iter_items}
use Rattle.px_base.specs.declared.c_types.CType.TheVariants as c_type
use Rattle.px_tree.specs.declared.typed_values.ValueType.TheVariants as value
use Rattle.px_typed_walk.specs.TypedView.{rose_of_typed}
use Rattle.px_operators.specs.Outcomes.{Gives, mapped}
use Rattle.px_operators.specs.Conversions.{fitted_each}
use Rattle.px_operators.specs.Kept.{parts_kept, gathered_kept}
use Rattle.px_operators.proofs.AllParts.{gives_mapped, nothing_left}
use Rattle.px_operators.proofs.EachFitted.{each_begin, each_turn, each_past, each_ended}
use Rattle.px_operators.proofs.conversions.fitted_each.Goals as goal
use Rattle.px_operators.proofs.conversions.fitted_each.Goals.{else-loop-t-test, then-loop-t-test+in_default}

pub loop-t-init : goal.loop-t-init
loop-t-init c = (
  each_begin (gathered_kept c.new-all.result) c.args.types.now (into_iter_items c.into_iter-others.result) c.new-all.ensures,
  c.into_iter-others.ensures.len ∙ c.args.parts.ok.0 ∙ ap length (sym c.into_iter-others.ensures.rest),
)

pub loop-t-preserved : goal.loop-t-preserved
loop-t-preserved c =
    let at = c.loop-t in
    let steps : into_iter_items at.others ≡ c.in-Some.part ∷ into_iter_items c.next.new.self = c.in-Some.ensures.cases.0 in (
      each_turn (gathered_kept at.all) (gathered_kept c.take.new.self) c.args.types.now at.t-index (value.C c_type.SChar) (into_iter_items at.others) (into_iter_items c.next.new.self)
          c.in-Some.part c.fitted_part.result _ at.invariant.0 c.loop-t-test.true steps c.fitted_part.ensures c.in_ok-take.ensures,
      let was = at.invariant.1 in
          let gone = c.in-Some.ensures.cases.1 in
          let short = ap length steps in
          omega arith,
    )

pub returns : goal.returns
returns c =
    let at = c.loop-t in
    let total = fitted_each c.args.types.now (parts_kept (into_iter_items c.into_iter-others.result)) in
    let all : mapped (map rose_of_typed) (gathered_kept at.all) ≡ total =
    elim c.loop-t-test.branch [
      | else-loop-t-test w ↦ each_past (gathered_kept at.all) c.args.types.now at.t-index (into_iter_items at.others) total at.invariant.0 w.loop-t-test.false
      | then-loop-t-test+in_default w ↦ each_ended (gathered_kept at.all) (drop at.t-index c.args.types.now) (into_iter_items at.others) total at.invariant.0
          (nothing_left _ (sym at.invariant.1 ∙ w.in_default.ensures.cases.0))
    ] in
    subst (λ o. Gives (λ all. map rose_of_typed all.items) c.all.result o)
    (all ∙ ap (λ xs. fitted_each c.args.types.now (parts_kept xs)) c.into_iter-others.ensures.rest)
    (gives_mapped (λ all. all.items) (map rose_of_typed) c.all.result (gathered_kept at.all) c.all.ensures)
