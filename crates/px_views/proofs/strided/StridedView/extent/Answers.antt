-- The cell at the low end of each axis is the least, and the one at the high ends the greatest.
use Rattle.std.proofs.Common.{◌≢◌, ◌<◌, ℕ, zero, suc, arith, refl}
use Rattle.px_model.specs.Views.{cell_count}
use Rattle.px_views.specs.Strides.{extents}
use Rattle.px_views.specs.Triples.{listed}
use Rattle.px_views.proofs.Methods.{extent_view, no_cells}
use Rattle.px_views.proofs.strided.StridedView.extent.Goals as goal

pub returns-then-has_none : goal.returns-then-has_none
returns-then-has_none c = no_cells c.args.self.now (listed c.axes-axes.result) c.axes-axes.ensures (c.has_none.ensures.0 c.if-has_none.true)

positive : (n : ℕ) → n ≢ 0 → 0 < n
positive zero h = absurd (h refl)
positive (suc n) h = omega arith

pub returns : goal.returns
returns c =
    let axes = c.axes-axes.result in
    let some : 0 < cell_count (extents (listed axes)) = positive _ (λ none. absurd (cc (c.has_none.ensures.1 none, c.if-has_none.false))) in
    extent_view c.args.self.now axes.first axes.second axes.third c.axes-axes.ensures some
    c.lowered.result c.lowered-2.result c.lowered-low.result c.raised.result c.raised-2.result c.raised-high.result
    c.lowered.ensures c.lowered-2.ensures c.lowered-low.ensures c.raised.ensures c.raised-2.ensures c.raised-high.ensures
