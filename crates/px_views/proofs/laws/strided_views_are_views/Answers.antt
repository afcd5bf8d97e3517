-- What the type of a strided view keeps of its places.
use Rattle.px_views.specs.Cells.{view_cells}
use Rattle.px_views.proofs.ViewLaws.{below_law, buffer_law, view_law}
use Rattle.px_views.proofs.laws.strided_views_are_views.Goals as goal

pub returns-clause-view : goal.returns-clause-view
unfolding view_cells
returns-clause-view c = view_law c.args.view.now

pub returns-clause-below : goal.returns-clause-below
unfolding view_cells
returns-clause-below c = below_law c.args.view.now

pub returns-clause-buffer : goal.returns-clause-buffer
unfolding view_cells
returns-clause-buffer c = buffer_law c.args.view.now
