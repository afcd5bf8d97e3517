-- The cells are those of the axes in the other order.
use Rattle.std.proofs.Common.{◌∙◌}
use Rattle.px_views.specs.Triples.{listed}
use Rattle.px_views.proofs.Methods.{turned_need, turned_taken, turned_view}
use Rattle.px_views.proofs.strided.StridedView.transpose.Goals as goal

pub with_axes-requires-clause-cells : goal.with_axes-requires-clause-cells
with_axes-requires-clause-cells c = turned_need c.args.self.now (listed c.axes.result) (listed c.turned.result) c.axes.ensures c.turned.ensures

pub returns-clause-cells : goal.returns-clause-cells
returns-clause-cells c =
    turned_view c.args.self.now c.with_axes.result c.with_axes.ensures.array
    (c.with_axes.ensures.axes ∙ turned_taken c.args.self.now (listed c.axes.result) (listed c.turned.result) c.axes.ensures c.turned.ensures)
    c.with_axes.ensures.offset
