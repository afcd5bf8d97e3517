-- Each view is one of row-major axes.
use Rattle.px_views.proofs.ViewLaws.{index_law}
use Rattle.px_views.proofs.laws.index_of_a_slice.Goals as goal

pub returns : goal.returns
returns c =
    index_law c.args.view.now c.args.axis c.args.from c.args.to c.args.step c.args.i c.requires.view c.requires.there c.requires.nonzero c.requires.within
