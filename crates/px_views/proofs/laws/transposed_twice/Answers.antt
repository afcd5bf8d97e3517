-- Each view is one of row-major axes.
use Rattle.px_views.proofs.ViewLaws.{turned_law}
use Rattle.px_views.proofs.laws.transposed_twice.Goals as goal

pub returns : goal.returns
returns c = turned_law c.args.view.now c.requires
