-- An axis of one item more reaches the same cells.
use Rattle.std.proofs.Common.{◌∙◌, ap, take}
use Rattle.std.specs.Prelude.{insert}
use Rattle.px_views.specs.Strides.{no_axis}
use Rattle.px_views.specs.Triples.{listed}
use Rattle.px_views.proofs.Methods.{wide_need, wide_taken, wide_view}
use Rattle.px_views.proofs.strided.StridedView.new_axis.Goals as goal

pub with_axes-requires-clause-cells : goal.with_axes-requires-clause-cells
with_axes-requires-clause-cells c =
    wide_need c.args.self.now c.args.axis c.requires.few c.requires.there (listed c.with_one.result)
    (c.with_one.ensures ∙ ap (λ axes. take 3 (insert axes c.args.axis no_axis)) c.axes.ensures)

pub returns-clause-cells : goal.returns-clause-cells
returns-clause-cells c =
    wide_view c.args.self.now c.args.axis c.requires.few c.requires.there c.with_axes.result c.with_axes.ensures.array
    (c.with_axes.ensures.axes
    ∙ wide_taken c.args.self.now c.args.axis c.requires.few c.requires.there (listed c.with_one.result)
    (c.with_one.ensures ∙ ap (λ axes. take 3 (insert axes c.args.axis no_axis)) c.axes.ensures))
    c.with_axes.ensures.offset
