-- Three axes, with which a view of fewer axes is filled up by axes of one item.
use Rattle.std.specs.Prelude.{◌≡◌, ◌<◌, pos, ◌⊎◌, List, [], ◌∷◌}
use Rattle.px_model.specs.Views.{cell_count}
use Rattle.px_views.specs.declared.axes.Axis.{Axis}
use Rattle.px_views.specs.declared.triples.Triple.{Triple}
use Rattle.px_views.specs.Strides.{axis_at, extents}

abbrev pub listed : Triple → List Axis
listed axes = axes.first ∷ axes.second ∷ axes.third ∷ []

-- axes, filled up to three
abbrev pub triple : List Axis → List Axis
triple axes = axis_at axes 0 ∷ axis_at axes 1 ∷ axis_at axes 2 ∷ []

-- several items along an axis are as far apart as the items along the axes behind it reach
abbrev pub IsRowMajor : List Axis → Type 0
IsRowMajor [] = Unit {0}
IsRowMajor (axis ∷ axes) = (1 < axis.extent → axis.stride ≡ pos (cell_count (extents axes))) × IsRowMajor axes

-- the items stand one behind another in row-major order, if there are any
abbrev pub IsCompact : List Axis → Type 0
IsCompact axes = (cell_count (extents axes) ≡ 0) ⊎ IsRowMajor axes
