-- What holds of views, as lists of cells.
use Rattle.std.proofs.Common.{◌≡◌, ◌≢◌, ℕ, ℤ, pos, suc, ◌+◌, ◌*◌, ◌<◌, List, [], ◌∷◌, length, get_or, map, refl, sym, ◌∙◌, ap, subst, arith, false, Result, Ok, Option}
use Rattle.std.specs.Prelude.{◌+ℤ◌, ◌*ℤ◌, All, remove, reverse, slice_index, slice_set, unsigned_abs}
use Rattle.std.proofs.lemmas.Int.{ints}
use Rattle.std.proofs.lemmas.Bool.{lt-ltb}
use Rattle.std.proofs.lemmas.List.{get_or-map, get_or-set_same, length-map, length-set, map-set, reverse-reverse}
use Rattle.std.proofs.lemmas.List.FromFn.{fill_by_all}
use Rattle.px_base.specs.declared.faults.Fault.{Fault}
use Rattle.px_model.specs.declared.cells.Cell.{Cell}
use Rattle.px_model.specs.declared.cells.ViewCells.{ViewCells}
use Rattle.px_model.specs.Sequences.{goes_up, slice_indices, slice_start}
use Rattle.px_model.specs.Views.{IsView, along, cell_count, element_of, indexed, items_picked, nth_row, rows_at, sliced, transposed, turned}
use Rattle.px_views.specs.declared.axes.Axis.{Axis}
use Rattle.px_views.specs.declared.strided.StridedView.{StridedView}
use Rattle.px_views.specs.Cells.{axes_in, cell_at}
use Rattle.px_views.specs.Laws.{IsIndexOf}
use Rattle.px_views.specs.Strides.{axis_at, extents, no_axis, places_of, spread}
use Rattle.px_views.proofs.Numbers.{stepped_place}
use Rattle.px_views.proofs.Lists.{map-remove, map-reverse, remove-set}
use Rattle.px_views.proofs.Spreads.{indexed_spread, length_spread, sliced_spread, spread_map, turned_spread}
use Rattle.px_views.proofs.Indices.{IsIndex, place_at, position, position_below, position_injective}
use Rattle.px_views.proofs.Slicing.{picked_below, picked_is}
use Rattle.px_views.proofs.RowMajor.{c_axes, extents-c_axes, pos_of, spread-c_axes}
use Rattle.px_views.proofs.Walking.{first_indexed}

-- ---- each view is one of row-major axes
no_cell : Cell
no_cell = record { buffer = 0; place = 0 }

-- the cell of a number
cell_of : ViewCells → ℤ → Cell
cell_of view z = get_or view.cells (unsigned_abs z) no_cell

abbrev strided : (ℤ → Cell) → ℤ → List Axis → ViewCells
strided f o axes = record { shape = extents axes; cells = spread f o axes }

as_strided : (view : ViewCells) → IsView view → view ≡ record { shape = extents (c_axes view.shape); cells = spread (cell_of view) (pos 0) (c_axes view.shape) }
unfolding cell_of
as_strided view is =
    let cells : view.cells ≡ spread (cell_of view) (pos 0) (c_axes view.shape) =
    fill_by_all (λ k. get_or view.cells k no_cell) view.cells (cell_count view.shape) no_cell is.full (λ k less. refl)
    ∙ sym (spread-c_axes (cell_of view) 0 view.shape) in
    ap (λ cs. record { shape = view.shape; cells = cs }) cells
    ∙ ap (λ s. record { shape = s; cells = spread (cell_of view) (pos 0) (c_axes view.shape) }) (sym (extents-c_axes view.shape))

-- ---- picks of strided views
module _ (f : ℤ → Cell) where
  indexed_is : (o : ℤ) (axes : List Axis) (n i : ℕ) → n < length axes → i < (axis_at axes n).extent
      → indexed n i (strided f o axes) ≡ strided f (o +ℤ pos i *ℤ (axis_at axes n).stride) (remove axes n)
  unfolding indexed
  indexed_is o axes n i h k =
      ap (λ s. record { shape = s; cells = along (nth_row i) n (extents axes) (spread f o axes) }) (sym (map-remove (λ a. a.extent) axes n))
      ∙ ap (λ cs. record { shape = extents (remove axes n); cells = cs }) (indexed_spread f o axes n i h k)

  transposed_is : (o : ℤ) (axes : List Axis) → transposed (strided f o axes) ≡ strided f o (reverse axes)
  unfolding transposed
  transposed_is o axes =
      ap (λ s. record { shape = s; cells = turned (extents axes) (spread f o axes) }) (sym (map-reverse (λ a. a.extent) axes))
      ∙ ap (λ cs. record { shape = extents (reverse axes); cells = cs }) (turned_spread f o axes)

  sliced_is : (o p : ℤ) (axes : List Axis) (n : ℕ) (t : ℤ) (indices : List ℕ) → n < length axes
      → ((m : ℕ) → m < length indices → get_or indices m 0 < (axis_at axes n).extent)
      → ((m : ℕ) → m < length indices → p +ℤ pos m *ℤ t ≡ o +ℤ pos (get_or indices m 0) *ℤ (axis_at axes n).stride)
      → sliced n indices (strided f o axes) ≡ strided f p (slice_set axes n (record { extent = length indices; stride = t }))
  unfolding sliced
  sliced_is o p axes n t indices h below reach =
      ap (λ s. record { shape = s; cells = along (rows_at indices) n (extents axes) (spread f o axes) }) (sym (map-set (λ a. a.extent) axes n (record { extent = length indices; stride = t })))
      ∙ ap (λ cs. record { shape = extents (slice_set axes n (record { extent = length indices; stride = t })); cells = cs })
      (sliced_spread f (length indices) t indices refl o p axes n h below reach)

  -- an index of a slice
  index_sliced : (o p : ℤ) (axes : List Axis) (n : ℕ) (t : ℤ) (indices : List ℕ) (i : ℕ) → n < length axes → i < length indices
      → ((m : ℕ) → m < length indices → get_or indices m 0 < (axis_at axes n).extent)
      → ((m : ℕ) → m < length indices → p +ℤ pos m *ℤ t ≡ o +ℤ pos (get_or indices m 0) *ℤ (axis_at axes n).stride)
      → indexed n i (sliced n indices (strided f o axes)) ≡ indexed n (get_or indices i 0) (strided f o axes)
  index_sliced o p axes n t indices i h within below reach =
      let cut : Axis = record { extent = length indices; stride = t } in
      let there : n < length (slice_set axes n cut) = omega (arith, length-set axes n cut) in
      let at : axis_at (slice_set axes n cut) n ≡ cut = get_or-set_same axes n cut no_axis h in
      ap (indexed n i) (sliced_is o p axes n t indices h below reach)
      ∙ indexed_is p (slice_set axes n cut) n i there (subst (λ a. i < a.extent) (sym at) within)
      ∙ ap (λ a. strided f (p +ℤ pos i *ℤ a.stride) (remove (slice_set axes n cut) n)) at
      ∙ ap (λ axes. strided f (p +ℤ pos i *ℤ t) axes) (remove-set axes n cut)
      ∙ ap (λ z. strided f z (remove axes n)) (reach i within)
      ∙ sym (indexed_is o axes n (get_or indices i 0) h (below i within))

  -- an index on each axis
  picked_one : (number : ℕ) (o : ℤ) (axes : List Axis) (us : List ℕ) → IsIndex axes us
      → items_picked number false (map (λ u. pos u) us) (strided f o axes) ≡ Ok (f (place_at o axes us) ∷ [])
  picked_one number o [] [] h = refl
  picked_one number o [] (u ∷ us) h = absurd h
  picked_one number o (a ∷ axes) [] h = absurd h
  picked_one number o (a ∷ axes) (u ∷ us) h =
      rw (lt-ltb u a.extent h.0)
      (ap (items_picked (number + 1) false (map (λ u. pos u) us))
      (first_indexed f u o a axes ∙ ap (λ cs. record { shape = extents axes; cells = cs }) (indexed_spread f o (a ∷ axes) 0 u (omega arith) h.0))
      ∙ picked_one (number + 1) (o +ℤ pos u *ℤ a.stride) axes us h.1)

-- ---- the laws
pub index_law : (view : ViewCells) (n : ℕ) (from to : Option ℤ) (k : ℤ) (i : ℕ) → IsView view → n < length view.shape → k ≢ pos 0
    → i < length (slice_indices (slice_index view.shape n) from to k)
    → indexed n i (sliced n (slice_indices (slice_index view.shape n) from to k) view)
    ≡ indexed n (get_or (slice_indices (slice_index view.shape n) from to k) i 0) view
index_law view n from to k i is there nonzero within =
    let axes : List Axis = c_axes view.shape in
    let shape : extents axes ≡ view.shape = extents-c_axes view.shape in
    let h : n < length axes = omega (arith, length-map axes (λ a. a.extent), ap length shape) in
    let extent : (axis_at axes n).extent ≡ slice_index view.shape n =
    sym (get_or-map (λ a. a.extent) axes n no_axis 0 h) ∙ ap (λ s. get_or s n 0) shape in
    let indices : List ℕ = slice_indices (slice_index view.shape n) from to k in
    let s : ℤ = (axis_at axes n).stride in
    let start : ℤ = slice_start (slice_index view.shape n) (goes_up k) from in
    let same : view ≡ strided (cell_of view) (pos 0) axes = as_strided view is in
    ap (λ v. indexed n i (sliced n indices v)) same
    ∙ index_sliced (cell_of view) (pos 0) (pos 0 +ℤ start *ℤ s) axes n (s *ℤ k) indices i h within
    (λ m less. omega (arith, extent, picked_below (slice_index view.shape n) from to k nonzero m less))
    (λ m less. omega (arith, ints, stepped_place (get_or indices m 0) start m k s (picked_is (slice_index view.shape n) from to k nonzero m less)))
    ∙ ap (indexed n (get_or indices i 0)) (sym same)

pub turned_law : (view : ViewCells) → IsView view → transposed (transposed view) ≡ view
turned_law view is =
    let axes : List Axis = c_axes view.shape in
    let same : view ≡ strided (cell_of view) (pos 0) axes = as_strided view is in
    ap (λ v. transposed (transposed v)) same
    ∙ ap transposed (transposed_is (cell_of view) (pos 0) axes)
    ∙ transposed_is (cell_of view) (pos 0) (reverse axes)
    ∙ ap (strided (cell_of view) (pos 0)) (reverse-reverse axes)
    ∙ sym same

index_of_shape : (shape us : List ℕ) → IsIndexOf shape us → IsIndex (c_axes shape) us
unfolding c_axes
index_of_shape [] [] h = tt
index_of_shape [] (u ∷ us) h = absurd (omega (arith, h.one_each))
index_of_shape (n ∷ shape) [] h = absurd (omega (arith, h.one_each))
index_of_shape (n ∷ shape) (u ∷ us) h =
    (h.within 0 (omega arith), index_of_shape shape us (record { one_each = omega (arith, h.one_each); within = λ a less. h.within (suc a) (omega arith) }))

c_place : (o : ℕ) (shape us : List ℕ) → IsIndex (c_axes shape) us → place_at (pos o) (c_axes shape) us ≡ pos (o + position (c_axes shape) us)
unfolding c_axes
c_place o [] us h = omega (arith, ints)
c_place o (n ∷ shape) [] h = absurd h
c_place o (n ∷ shape) (u ∷ us) h =
    c_place (o + u * cell_count shape) shape us h.1
    ∙ ap (λ m. pos m) (omega (arith, ap (λ s. u * cell_count s) (extents-c_axes shape)))

one_cell : (c d : Cell) (r : Result (List Cell) Fault) → r ≡ Ok (c ∷ []) → r ≡ Ok (d ∷ []) → c ≡ d
one_cell c d r e h = cc

pub apart_law : (view : ViewCells) (us vs : List ℕ) → IsView view → IsIndexOf view.shape us → IsIndexOf view.shape vs
    → element_of view (map (λ u. pos u) us) false ≡ element_of view (map (λ u. pos u) vs) false → us ≡ vs
unfolding element_of cell_of
apart_law view us vs is h k e =
    let axes : List Axis = c_axes view.shape in
    let same : view ≡ strided (cell_of view) (pos 0) axes = as_strided view is in
    let hu : IsIndex axes us = index_of_shape view.shape us h in
    let hv : IsIndex axes vs = index_of_shape view.shape vs k in
    let one : items_picked 0 false (map (λ u. pos u) us) view ≡ Ok (cell_of view (place_at (pos 0) axes us) ∷ []) =
    ap (items_picked 0 false (map (λ u. pos u) us)) same ∙ picked_one (cell_of view) 0 (pos 0) axes us hu in
    let two : items_picked 0 false (map (λ u. pos u) vs) view ≡ Ok (cell_of view (place_at (pos 0) axes vs) ∷ []) =
    ap (items_picked 0 false (map (λ u. pos u) vs)) same ∙ picked_one (cell_of view) 0 (pos 0) axes vs hv in
    let cells : cell_of view (place_at (pos 0) axes us) ≡ cell_of view (place_at (pos 0) axes vs) = one_cell _ _ (items_picked 0 false (map (λ u. pos u) us) view) one (e ∙ two) in
    let count : length view.cells ≡ cell_count (extents axes) = is.full ∙ ap cell_count (sym (extents-c_axes view.shape)) in
    let at : get_or view.cells (0 + position axes us) no_cell ≡ get_or view.cells (0 + position axes vs) no_cell =
    ap (λ z. get_or view.cells (unsigned_abs z) no_cell) (sym (c_place 0 view.shape us hu)) ∙ cells
    ∙ ap (λ z. get_or view.cells (unsigned_abs z) no_cell) (c_place 0 view.shape vs hv) in
    let numbers : 0 + position axes us ≡ 0 + position axes vs =
    is.distinct (0 + position axes us) (0 + position axes vs) no_cell (omega (arith, count, position_below axes us hu)) (omega (arith, count, position_below axes vs hv)) at in
    position_injective axes us vs hu hv (omega (arith, numbers))

-- ---- the cells of a strided view
module _ (view : StridedView) where
  abbrev axes : List Axis
  axes = axes_in view

  abbrev cells : List Cell
  cells = spread (cell_at view.buffer) (pos view.offset) axes

  places : List ℤ
  places = places_of (pos view.offset) axes

  cells_are : cells ≡ map (cell_at view.buffer) places
  unfolding places places_of
  cells_are = spread_map (cell_at view.buffer) (pos view.offset) axes

  same_length : length cells ≡ length places
  same_length = ap length cells_are ∙ length-map places (cell_at view.buffer)

  cell_is : (k : ℕ) (d : Cell) → k < length cells → get_or cells k d ≡ cell_at view.buffer (get_or places k (pos 0))
  cell_is k d less = ap (λ cs. get_or cs k d) cells_are ∙ get_or-map (cell_at view.buffer) places k (pos 0) d (omega (arith, same_length))

  pub below_law : All (λ cell. cell.place < view.size) (spread (cell_at view.buffer) (pos view.offset) (axes_in view))
  unfolding places
  below_law k d less =
      let inside = view.cells.inside k (omega (arith, same_length)) in
      let placed = pos_of (get_or places k (pos 0)) inside.0 in
      rw (cell_is k d less) (omega (arith, ints, placed, inside.1))

  pub buffer_law : All (λ cell. cell.buffer ≡ view.buffer) (spread (cell_at view.buffer) (pos view.offset) (axes_in view))
  buffer_law k d less = rw (cell_is k d less) refl

  pub view_law : IsView (record { shape = extents (axes_in view); cells = spread (cell_at view.buffer) (pos view.offset) (axes_in view) })
  unfolding places
  view_law = record {
    full = length_spread (cell_at view.buffer) (pos view.offset) axes;
    distinct = λ j k d jless kless e.
        let inside = λ (m : ℕ) (less : m < length cells). view.cells.inside m (omega (arith, same_length)) in
        let same : unsigned_abs (get_or places j (pos 0)) ≡ unsigned_abs (get_or places k (pos 0)) =
        ap (λ c. c.place) (sym (cell_is j d jless) ∙ e ∙ cell_is k d kless) in
        view.cells.distinct j k (omega (arith, same_length)) (omega (arith, same_length))
        (sym (pos_of (get_or places j (pos 0)) (inside j jless).0) ∙ ap (λ n. pos n) same ∙ pos_of (get_or places k (pos 0)) (inside k kless).0);
  }
