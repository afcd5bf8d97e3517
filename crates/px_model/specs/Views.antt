-- What subscripts pick from a view, which is its shape and its cells in row-major order (Cython user guide, Typed Memoryviews).
-- Along its first axis a view is a sequence of rows, and along another one each of its rows is such a sequence; an index and a slice
-- pick from it by Python's rules for sequences.
use Rattle.std.specs.Prelude.{◌≡◌, ◌<◌, ℕ, zero, suc, ◌+◌, ◌*◌, ◌==◌, ℤ, pos, unsigned_abs, Bool, if◌then◌else◌, Option, Some, None, Result, Ok, Err, List, [], ◌∷◌, map, fold, length, take, drop, reverse, insert, remove, slice_index, slice_index_or, slice_set, unwrap_or}
use Rattle.std.specs.List.{flat_map, range_with_len}
use Rattle.px_base.specs.declared.faults.Fault.{Fault}
use Rattle.px_base.specs.declared.faults.Kind.TheVariants.{IndexError, ValueError}
use Rattle.px_base.specs.declared.faults.Said.TheVariants.{Axis}
use Rattle.px_model.specs.declared.cells.Cell.{Cell}
use Rattle.px_model.specs.declared.cells.ViewCells.{ViewCells}
use Rattle.px_model.specs.Sequences.{item_index, slice_indices}

-- how many cells a shape has
abbrev pub cell_count : List ℕ → ℕ
cell_count [] = 1
cell_count (extent ∷ shape) = extent * cell_count shape

-- a view has as many cells as its shape says, and they are all distinct
pub record IsView (view : ViewCells) : Type 0 where
  pub full : length view.cells ≡ cell_count view.shape
  pub distinct : (j k : ℕ) (d : Cell) → j < length view.cells → k < length view.cells → slice_index_or view.cells j d ≡ slice_index_or view.cells k d → j ≡ k

-- cells in row-major order, as the rows of the first axis, each of so many cells
abbrev pub rows : {X : Type 0} → ℕ → ℕ → List X → List (List X)
rows zero width cells = []
rows (suc count) width cells = take width cells ∷ rows count width (drop width cells)

-- the rows one after another
abbrev pub joined : {X : Type 0} → List (List X) → List X
joined rs = flat_map (λ r. r) rs

-- `change` is done to the sequence of rows along an axis
abbrev pub along : {X : Type 0} → (List (List X) → List (List X)) → ℕ → List ℕ → List X → List X
along change axis [] cells = cells
along change zero (extent ∷ shape) cells = joined (change (rows extent (cell_count shape) cells))
along change (suc axis) (extent ∷ shape) cells = flat_map (along change axis shape) (rows extent (cell_count shape) cells)

-- the row of this number alone
abbrev pub nth_row : {X : Type 0} → ℕ → List (List X) → List (List X)
nth_row i rs = slice_index_or rs i [] ∷ []

-- the rows of these numbers
abbrev pub rows_at : {X : Type 0} → List ℕ → List (List X) → List (List X)
rows_at indices rs = map (λ i. slice_index_or rs i []) indices

-- the fault of an index that is out of range on an axis
abbrev pub index_fault : ℕ → Fault
index_fault axis = record { kind = IndexError; said = Axis axis }

-- the fault of a step of 0 on an axis
abbrev pub step_fault : ℕ → Fault
step_fault axis = record { kind = ValueError; said = Axis axis }

-- an index takes its axis away
unfoldable pub indexed : ℕ → ℕ → ViewCells → ViewCells
indexed axis i view = record { shape = remove view.shape axis; cells = along (nth_row i) axis view.shape view.cells }

-- what an index gives where it is in range, and else its fault
abbrev pub at_index : {X : Type 0} → ℕ → Option ℕ → (ℕ → Result X Fault) → Result X Fault
at_index axis None picked = Err (index_fault axis)
at_index axis (Some i) picked = picked i

-- an index on one axis
unfoldable pub pick_of : ViewCells → ℕ → ℤ → Bool → Result ViewCells Fault
pick_of view axis at wraparound = at_index axis (item_index (slice_index view.shape axis) wraparound at) (λ i. Ok (indexed axis i view))

-- the rows that a slice picks along its axis
unfoldable pub sliced : ℕ → List ℕ → ViewCells → ViewCells
sliced axis indices view =
    record { shape = slice_set view.shape axis (length indices); cells = along (rows_at indices) axis view.shape view.cells }

-- a slice on one axis; its step is 1 where it has none
unfoldable pub slice_of : ViewCells → ℕ → Option ℤ → Option ℤ → Option ℤ → Result ViewCells Fault
slice_of view axis from to step =
    if unsigned_abs (unwrap_or step (pos 1)) == 0 then Err (step_fault axis)
    else Ok (sliced axis (slice_indices (slice_index view.shape axis) from to (unwrap_or step (pos 1))) view)

-- `None` is a new axis with one row
unfoldable pub with_axis : ViewCells → ℕ → ViewCells
with_axis view axis = record { shape = insert view.shape axis 1; cells = view.cells }

-- the first items of all rows, then the second ones, and so on
abbrev pub columns : {X : Type 0} → ℕ → List (List X) → List (List X)
columns zero rs = []
columns (suc width) rs = flat_map (take 1) rs ∷ columns width (map (drop 1) rs)

-- the cells with their axes in the other order: those of each row so, and the first axis as the last
abbrev pub turned : {X : Type 0} → List ℕ → List X → List X
turned [] cells = cells
turned (extent ∷ shape) cells = joined (columns (cell_count shape) (map (turned shape) (rows extent (cell_count shape) cells)))

-- `.T`
unfoldable pub transposed : ViewCells → ViewCells
transposed view = record { shape = reverse view.shape; cells = turned view.shape view.cells }

-- A subscript with an index on each axis, from the left: each takes the first axis of what the one before it left, and
-- the first one that is out of range gives the fault, with the number of its axis.
abbrev pub items_picked : ℕ → Bool → List ℤ → ViewCells → Result (List Cell) Fault
items_picked axis wraparound [] view = Ok view.cells
items_picked axis wraparound (at ∷ rest) view =
    at_index axis (item_index (slice_index view.shape 0) wraparound at)
    (λ i. items_picked (axis + 1) wraparound rest (indexed 0 i view))

-- the cells that are left when each axis has an index, which is one
unfoldable pub element_of : ViewCells → List ℤ → Bool → Result (List Cell) Fault
element_of view at wraparound = items_picked 0 wraparound at view

-- the cells of a whole buffer, in the order of their places
abbrev pub buffer_cells : ℕ → ℕ → List Cell
buffer_cells buffer count = map (λ place. record { buffer = buffer; place = place }) (range_with_len 0 count)

-- the view of a new array: its cells stand in its buffer in row-major order, or in column-major order, in which the first
-- index changes first
abbrev pub array_cells : ℕ → List ℕ → Bool → ViewCells
array_cells buffer shape fortran =
    if fortran then transposed (record { shape = reverse shape; cells = buffer_cells buffer (cell_count shape) })
    else record { shape = shape; cells = buffer_cells buffer (cell_count shape) }

-- the places of cells are `from`, `from` + 1 and so on
abbrev pub AreConsecutive : ℕ → List Cell → Type 0
AreConsecutive from cells = map (λ c. c.place) cells ≡ range_with_len from (length cells)
