-- A strided view as its shape and its cells.
use Rattle.std.specs.Prelude.{◌≡◌, ℕ, ℤ, pos, unsigned_abs, List, [], ◌∷◌, Result}
use Rattle.std.specs.Result.{result_map_both}
use Rattle.px_base.specs.declared.faults.Fault.{Fault}
use Rattle.px_model.specs.declared.cells.Cell.{Cell}
use Rattle.px_model.specs.declared.cells.ViewCells.{ViewCells}
use Rattle.px_views.specs.declared.axes.Axis.{Axis}
use Rattle.px_views.specs.declared.strided.StridedView.{StridedView}
use Rattle.px_views.specs.Strides.{axes_of, extents, spread}

-- the cell of a buffer at a place
abbrev pub cell_at : ℕ → ℤ → Cell
cell_at buffer place = record { buffer = buffer; place = unsigned_abs place }

abbrev pub axes_in : StridedView → List Axis
axes_in view = axes_of view.rank view.shape view.strides

-- the cells that its strides reach from its offset
unfoldable pub view_cells : StridedView → ViewCells
view_cells view = record { shape = extents (axes_in view); cells = spread (cell_at view.buffer) (pos view.offset) (axes_in view) }

-- the view that a call gives, as its cells, or the call's fault
abbrev pub cells_given : Result StridedView Fault → Result ViewCells Fault
cells_given given = result_map_both view_cells (λ fault. fault) given

-- the cell that a call gives, or its fault
abbrev pub cell_given : ℕ → Result ℕ Fault → Result (List Cell) Fault
cell_given buffer given = result_map_both (λ place. record { buffer = buffer; place = place } ∷ []) (λ fault. fault) given

-- a view of the same array
pub record IsSameArray (old new : StridedView) : Type 0 where
  pub buffer : new.buffer ≡ old.buffer
  pub element : new.element ≡ old.element
  pub size : new.size ≡ old.size
