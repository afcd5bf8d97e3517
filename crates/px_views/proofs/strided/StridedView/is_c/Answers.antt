-- The axes, filled up to three, reach the same cells.
use Rattle.px_views.specs.Triples.{listed}
use Rattle.px_views.proofs.Methods.{compact_view}
use Rattle.px_views.proofs.strided.StridedView.is_c.Goals as goal

pub returns : goal.returns
returns c =
    let same = compact_view c.args.self.now (listed c.axes.result) c.axes.ensures in
    (λ is. same.0 (c.is_compact.ensures.0 is), λ h. c.is_compact.ensures.1 (same.1 h))
