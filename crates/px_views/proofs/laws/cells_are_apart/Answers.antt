-- Each view is one of row-major axes.
use Rattle.px_views.proofs.ViewLaws.{apart_law}
use Rattle.px_views.proofs.laws.cells_are_apart.Goals as goal

pub returns : goal.returns
returns c same =
    apart_law c.args.view.now c.args.one.now c.args.other.now c.requires.view c.requires.one c.requires.other same
