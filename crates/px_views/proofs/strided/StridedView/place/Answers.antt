-- The way along the axes ends at the cell that the indices pick.
use Rattle.std.proofs.Common.{◌≡◌, length, arith, ap, ◌∙◌, rules}
use Rattle.px_views.specs.Cells.{cell_given}
use Rattle.px_views.proofs.Ways.{walked}
use Rattle.px_views.proofs.strided.StridedView.place.Goals as goal

pub returns : goal.returns
returns c =
    let three : length c.args.at ≡ 3 = search rules in
    ap (cell_given c.args.self.now.buffer) c.first_place.ensures
    ∙ walked c.args.self.now c.args.wraparound c.args.at (omega (arith, c.args.self.now.few_axes))
