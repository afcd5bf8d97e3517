-- A step along the third axis, which is the last.
use Rattle.std.proofs.Common.{FitsSigned, ap, arith, drop, length, pos, rules, slice_index_or, sym, take, w64, ◌≡◌, ◌∙◌}
use mir.Syntax.{w128}
use Rattle.std.proofs.lemmas.Int.{to_z-of_z}
use Rattle.px_model.specs.Sequences.{item_index}
use Rattle.px_views.specs.Strides.{wrapped_place}
use Rattle.px_views.proofs.Ways.{walk_end, walk_some}
use Rattle.px_views.proofs.strided.StridedView.third_place.Goals as goal

pub returns-then-self-eq2 : goal.returns-then-self-eq2
returns-then-self-eq2 c =
    sym (walk_end c.args.self.now c.args.wraparound 2 c.args.from (drop 2 (take c.args.self.now.rank c.args.at)) (omega (arith, c.if-self-eq2.true)))

pub returns-in-Some : goal.returns-in-Some
returns-in-Some c =
    let three : length c.args.at ≡ 3 = search rules in
    let index : FitsSigned w128 (slice_index_or c.args.at 2 (pos 0)) = search rules in
    let stride : FitsSigned w64 (slice_index_or c.args.self.now.strides 2 (pos 0)) = search rules in
    sym (walk_end c.args.self.now c.args.wraparound 3 c.moved.result (drop 3 (take c.args.self.now.rank c.args.at)) (omega (arith, c.args.self.now.few_axes)))
    ∙ walk_some c.args.self.now c.args.wraparound c.args.at (omega (arith, c.args.self.now.few_axes)) 2 c.in-Some.i c.moved.result c.args.from
    (omega (arith, c.requires, c.if-self-eq2.false))
    (ap (item_index _ c.args.wraparound) (sym (to_z-of_z w128 _ index)) ∙ sym c.item.ensures ∙ c.in-Some.is)
    (c.moved.ensures.value ∙ ap (wrapped_place c.args.from c.in-Some.i) (to_z-of_z w64 _ stride))
