-- A step along the first axis.
use Rattle.std.proofs.Common.{◌≡◌, FitsSigned, length, arith, ap, sym, pos, slice_index_or, ◌∙◌, rules, w64}
use mir.Syntax.{w128}
use Rattle.std.proofs.lemmas.Int.{to_z-of_z}
use Rattle.px_model.specs.Sequences.{item_index}
use Rattle.px_views.specs.Strides.{wrapped_place}
use Rattle.px_views.proofs.Ways.{walk_some}
use Rattle.px_views.proofs.strided.StridedView.first_place.Goals as goal

pub returns-in-Some : goal.returns-in-Some
returns-in-Some c =
    let three : length c.args.at ≡ 3 = search rules in
    let index : FitsSigned w128 (slice_index_or c.args.at 0 (pos 0)) = search rules in
    let stride : FitsSigned w64 (slice_index_or c.args.self.now.strides 0 (pos 0)) = search rules in
    c.second_place.ensures
    ∙ walk_some c.args.self.now c.args.wraparound c.args.at (omega (arith, c.args.self.now.few_axes)) 0 c.in-Some.i c.moved.result c.args.self.now.offset
    (omega (arith, c.args.self.now.some_axes))
    (ap (item_index _ c.args.wraparound) (sym (to_z-of_z w128 _ index)) ∙ sym c.item.ensures ∙ c.in-Some.is)
    (c.moved.ensures.value ∙ ap (wrapped_place c.args.self.now.offset c.in-Some.i) (to_z-of_z w64 _ stride))
