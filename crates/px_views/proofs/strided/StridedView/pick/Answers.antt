-- An index in range picks, and another one is a fault.
use Rattle.std.proofs.Common.{◌≡◌, Some, None, Ok, Err, sym, ap, ◌∙◌}
use mir.Syntax.{w128}
use Rattle.std.proofs.lemmas.Int.{to_z-of_z}
use Rattle.px_model.specs.Sequences.{item_index}
use Rattle.px_views.specs.Cells.{axes_in}
use Rattle.px_views.specs.Strides.{axis_at}
use Rattle.px_views.proofs.Ways.{picks}
use Rattle.px_views.proofs.strided.StridedView.pick.Goals as goal
use Rattle.px_views.proofs.strided.StridedView.pick.Goals.{After-item}

found : (c : After-item) → item_index (axis_at (axes_in c.args.self.now) c.args.axis).extent c.args.wraparound c.args.at ≡ c.item.result
found c =
    sym (c.item.ensures
    ∙ ap (item_index c.axis.result.extent c.args.wraparound) (to_z-of_z w128 c.args.at c.ranges.at)
    ∙ ap (λ a. item_index a.extent c.args.wraparound c.args.at) c.axis.ensures)

pub returns-in-Some-clause-cells : goal.returns-in-Some-clause-cells
returns-in-Some-clause-cells c =
    let d : After-item = (goal.at.returns-in-Some-clause-cells c).After-item in
    ap Ok c.picked.ensures.cells
    ∙ sym (picks c.args.self.now c.args.axis c.args.at c.args.wraparound (Some c.in-Some.i) c.requires.there (found d ∙ c.in-Some.is))

pub returns-in-None-clause-cells : goal.returns-in-None-clause-cells
returns-in-None-clause-cells c =
    let d : After-item = (goal.at.returns-in-None-clause-cells c).After-item in
    ap Err c.index_error.ensures
    ∙ sym (picks c.args.self.now c.args.axis c.args.at c.args.wraparound None c.requires.there (found d ∙ c.in-None.is))
