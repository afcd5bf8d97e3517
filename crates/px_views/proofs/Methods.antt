-- What the methods of a view owe, of the views that they make.
use Rattle.std.proofs.Common.{◌≡◌, ◌≢◌, ℕ, ℤ, pos, negsuc, zero, suc, ◌+◌, ◌-◌, ◌^◌, ◌<◌, ◌≤◌, List, [], ◌∷◌, ◌++◌, length, get_or, take, refl, sym, ◌∙◌, ap, subst, arith, Option, Some, Ok, Err, false}
use Rattle.std.specs.Prelude.{◌+ℤ◌, ◌*ℤ◌, ◌==◌, ◌↔◌, if◌then◌else◌, insert, remove, reverse, slice_index, slice_set, unsigned_abs, unwrap_or}
use Rattle.std.proofs.lemmas.Bool.Decides.{nat_tests}
use Rattle.std.proofs.lemmas.List.{map-set}
use Rattle.px_model.specs.Sequences.{slice_indices}
use Rattle.px_model.specs.declared.cells.Cell.{Cell}
use Rattle.px_model.specs.declared.cells.ViewCells.{ViewCells}
use Rattle.px_model.specs.Views.{AreConsecutive, cell_count, indexed, slice_of, sliced, step_fault, transposed, with_axis}
use Rattle.px_views.specs.declared.axes.Axis.{Axis}
use Rattle.px_views.specs.declared.strided.StridedView.{StridedView}
use Rattle.px_views.specs.Cells.{IsSameArray, axes_in, cell_at, view_cells}
use Rattle.px_views.specs.Answers.{IsExtent, IsGreatestDivisor}
use Rattle.px_views.specs.Strides.{AreCells, axis_at, extents, high_index, low_index, no_axis, places_of, spread, step_sizes}
use Rattle.px_views.specs.Triples.{IsCompact, triple}
use Rattle.px_views.proofs.Ways.{extent_of, rank_length}
use Rattle.px_views.proofs.Lists.{map-insert, map-remove, map-reverse}
use Rattle.px_views.proofs.Spreads.{turned_spread, widened_spread}
use Rattle.px_views.proofs.Indices.{Reaches, reached, cells_reached}
use Rattle.px_views.proofs.Slicing.{picked_below}
use Rattle.px_views.proofs.Carried.{wide_reaches, two_reach, three_reach}
use Rattle.px_views.proofs.Picks.{empty_spread, picked_cells, picked_spread, cut_cells, cut_spread}
use Rattle.px_views.proofs.RowMajor.{compact_is}
use Rattle.px_views.proofs.Extremes.{extent_is, highs_found, lows_found}
use Rattle.px_views.proofs.Filled.{filled_cells, filled_sizes, filled_spread, taken, without_taken, with_taken, replaced_taken}

pub view_is : (v : StridedView) (axes : List Axis) → axes_in v ≡ axes
    → view_cells v ≡ record { shape = extents axes; cells = spread (cell_at v.buffer) (pos v.offset) axes }
unfolding view_cells
view_is v axes e = ap (λ axes. record { shape = extents axes; cells = spread (cell_at v.buffer) (pos v.offset) axes }) e

-- a view of the same array
same_view : (old new : StridedView) (axes : List Axis) → IsSameArray old new → axes_in new ≡ axes
    → view_cells new ≡ record { shape = extents axes; cells = spread (cell_at old.buffer) (pos new.offset) axes }
same_view old new axes same e =
    view_is new axes e ∙ ap (λ b. record { shape = extents axes; cells = spread (cell_at b) (pos new.offset) axes }) same.buffer

-- what is said of an axis is said of one that is equal to it
pub at_axis : (o i p : ℕ) (a b : Axis) → a ≡ b → ((m : ℕ) → m < 2 ^ 64 → pos o +ℤ pos i *ℤ a.stride ≡ pos m → p ≡ m)
    → (m : ℕ) → m < 2 ^ 64 → pos o +ℤ pos i *ℤ b.stride ≡ pos m → p ≡ m
at_axis o i p a b e exact m small is = exact m small (ap (λ x. pos o +ℤ pos i *ℤ x.stride) e ∙ is)

-- ---- an index
module _ (old : StridedView) (n i p : ℕ) (there : n < old.rank) (within : i < (axis_at (axes_in old) n).extent)
    (exact : (m : ℕ) → m < 2 ^ 64 → pos old.offset +ℤ pos i *ℤ (axis_at (axes_in old) n).stride ≡ pos m → p ≡ m) where
  there_picked : n < length (axes_in old)
  there_picked = omega (arith, rank_length old)

  pub picked_taken : (ts : List Axis) → ts ≡ remove (triple (axes_in old)) n ++ no_axis ∷ [] → take (old.rank - 1) ts ≡ remove (axes_in old) n
  picked_taken ts e =
      ap (take (old.rank - 1)) e
      ∙ ap (λ r. take (r - 1) (remove (triple (axes_in old)) n ++ no_axis ∷ [])) (sym (rank_length old))
      ∙ without_taken (axes_in old) n (omega (arith, rank_length old, old.few_axes)) there_picked

  pub picked_need : (ts : List Axis) → ts ≡ remove (triple (axes_in old)) n ++ no_axis ∷ [] → AreCells old.size (places_of (pos p) (take (old.rank - 1) ts))
  picked_need ts e =
      subst (λ axes. AreCells old.size (places_of (pos p) axes)) (sym (picked_taken ts e))
      (picked_cells old.size old.offset (axes_in old) old.limit n i p there_picked within exact old.cells)

  pub picked_view : (new : StridedView) → IsSameArray old new → axes_in new ≡ remove (axes_in old) n → new.offset ≡ p
      → view_cells new ≡ indexed n i (view_cells old)
  unfolding view_cells indexed
  picked_view new same axes offset =
      same_view old new (remove (axes_in old) n) same axes
      ∙ ap (λ o. record { shape = extents (remove (axes_in old) n); cells = spread (cell_at old.buffer) (pos o) (remove (axes_in old) n) }) offset
      ∙ ap (λ s. record { shape = s; cells = spread (cell_at old.buffer) (pos p) (remove (axes_in old) n) }) (map-remove (λ a. a.extent) (axes_in old) n)
      ∙ ap (λ cs. record { shape = remove (extents (axes_in old)) n; cells = cs })
      (sym (picked_spread old.size old.offset (axes_in old) old.limit n i p there_picked within exact old.cells (cell_at old.buffer)))

-- ---- a slice
module _ (old : StridedView) (n c f p : ℕ) (t k : ℤ) (from to : Option ℤ) (there : n < old.rank) (nonzero : k ≢ pos 0)
    (count : c ≡ length (slice_indices (axis_at (axes_in old) n).extent from to k))
    (items : (m : ℕ) → m < c → pos (get_or (slice_indices (axis_at (axes_in old) n).extent from to k) m 0) ≡ pos f +ℤ pos m *ℤ k)
    (exact : (m : ℕ) → m < 2 ^ 64 → pos old.offset +ℤ pos f *ℤ (axis_at (axes_in old) n).stride ≡ pos m → p ≡ m)
    (scaled : unsigned_abs ((axis_at (axes_in old) n).stride *ℤ k) < 2 ^ 63 → t ≡ (axis_at (axes_in old) n).stride *ℤ k) where
  abbrev indices : List ℕ
  indices = slice_indices (axis_at (axes_in old) n).extent from to k

  there_cut : n < length (axes_in old)
  there_cut = omega (arith, rank_length old)

  below : (m : ℕ) → m < c → get_or indices m 0 < (axis_at (axes_in old) n).extent
  below m less = picked_below (axis_at (axes_in old) n).extent from to k nonzero m (omega (arith, count))

  pub cut_taken : (ts : List Axis) → ts ≡ slice_set (triple (axes_in old)) n (record { extent = c; stride = t })
      → take old.rank ts ≡ slice_set (axes_in old) n (record { extent = c; stride = t })
  cut_taken ts e =
      ap (take old.rank) e
      ∙ ap (λ r. take r (slice_set (triple (axes_in old)) n (record { extent = c; stride = t }))) (sym (rank_length old))
      ∙ replaced_taken (axes_in old) n (record { extent = c; stride = t }) (omega (arith, rank_length old, old.few_axes)) there_cut

  pub cut_need : (ts : List Axis) → ts ≡ slice_set (triple (axes_in old)) n (record { extent = c; stride = t }) → AreCells old.size (places_of (pos p) (take old.rank ts))
  cut_need ts e =
      subst (λ axes. AreCells old.size (places_of (pos p) axes)) (sym (cut_taken ts e))
      (cut_cells old.size old.offset (axes_in old) old.limit n c f p t k indices nonzero there_cut (sym count) below items exact scaled old.cells)

  pub cut_view : (new : StridedView) → IsSameArray old new → axes_in new ≡ slice_set (axes_in old) n (record { extent = c; stride = t }) → new.offset ≡ p
      → view_cells new ≡ sliced n indices (view_cells old)
  unfolding view_cells sliced
  cut_view new same axes offset =
      let cut : List Axis = slice_set (axes_in old) n (record { extent = c; stride = t }) in
      same_view old new cut same axes
      ∙ ap (λ o. record { shape = extents cut; cells = spread (cell_at old.buffer) (pos o) cut }) offset
      ∙ ap (λ s. record { shape = s; cells = spread (cell_at old.buffer) (pos p) cut })
      (map-set (λ a. a.extent) (axes_in old) n (record { extent = c; stride = t }) ∙ ap (λ m. slice_set (extents (axes_in old)) n m) count)
      ∙ ap (λ cs. record { shape = slice_set (extents (axes_in old)) n (length indices); cells = cs })
      (sym (cut_spread old.size old.offset (axes_in old) old.limit n c f p t k indices nonzero there_cut (sym count) below items exact scaled old.cells (cell_at old.buffer)))

-- ---- a new axis
module _ (old : StridedView) (n : ℕ) (few : old.rank < 3) (there : n ≤ old.rank) where
  pub wide_taken : (ts : List Axis) → ts ≡ take 3 (insert (triple (axes_in old)) n no_axis) → take (old.rank + 1) ts ≡ insert (axes_in old) n no_axis
  wide_taken ts e =
      ap (take (old.rank + 1)) e
      ∙ ap (λ r. take (r + 1) (take 3 (insert (triple (axes_in old)) n no_axis))) (sym (rank_length old))
      ∙ with_taken (axes_in old) n (omega (arith, rank_length old)) (omega (arith, rank_length old))

  pub wide_need : (ts : List Axis) → ts ≡ take 3 (insert (triple (axes_in old)) n no_axis) → AreCells old.size (places_of (pos old.offset) (take (old.rank + 1) ts))
  wide_need ts e =
      subst (λ axes. AreCells old.size (places_of (pos old.offset) axes)) (sym (wide_taken ts e))
      (cells_reached old.size (pos old.offset) (insert (axes_in old) n no_axis)
      (wide_reaches (pos 0) old.size (pos old.offset) (axes_in old) n (omega (arith, rank_length old)) (reached old.size (pos old.offset) (axes_in old) old.cells)))

  pub wide_view : (new : StridedView) → IsSameArray old new → axes_in new ≡ insert (axes_in old) n no_axis → new.offset ≡ old.offset
      → view_cells new ≡ with_axis (view_cells old) n
  unfolding view_cells with_axis
  wide_view new same axes offset =
      let wide : List Axis = insert (axes_in old) n no_axis in
      same_view old new wide same axes
      ∙ ap (λ o. record { shape = extents wide; cells = spread (cell_at old.buffer) (pos o) wide }) offset
      ∙ ap (λ s. record { shape = s; cells = spread (cell_at old.buffer) (pos old.offset) wide }) (map-insert (λ a. a.extent) (axes_in old) n no_axis)
      ∙ ap (λ cs. record { shape = insert (extents (axes_in old)) n 1; cells = cs })
      (widened_spread (cell_at old.buffer) (pos old.offset) (axes_in old) n (pos 0) (omega (arith, rank_length old)))

-- ---- the axes in the other order
turned_reaches : (size : ℕ) (o : ℤ) (axes : List Axis) → 1 ≤ length axes → length axes ≤ 3 → Reaches size o axes → Reaches size o (reverse axes)
turned_reaches size o [] h k reaches = absurd (omega arith)
turned_reaches size o (x ∷ []) h k reaches = reaches
turned_reaches size o (x ∷ y ∷ []) h k reaches = two_reach size o x y reaches
turned_reaches size o (x ∷ y ∷ z ∷ []) h k reaches = three_reach size o x y z reaches
turned_reaches size o (x ∷ y ∷ z ∷ a ∷ axes) h k reaches = absurd (omega arith)

module _ (old : StridedView) where
  pub turned_taken : (ts us : List Axis) → ts ≡ triple (axes_in old) → take old.rank us ≡ reverse (take old.rank ts) → take old.rank us ≡ reverse (axes_in old)
  turned_taken ts us e h =
      h ∙ ap (λ axes. reverse (take old.rank axes)) e ∙ ap (λ r. reverse (take r (triple (axes_in old)))) (sym (rank_length old))
      ∙ ap reverse (taken (axes_in old) (omega (arith, rank_length old, old.few_axes)))

  pub turned_need : (ts us : List Axis) → ts ≡ triple (axes_in old) → take old.rank us ≡ reverse (take old.rank ts) → AreCells old.size (places_of (pos old.offset) (take old.rank us))
  turned_need ts us e h =
      subst (λ axes. AreCells old.size (places_of (pos old.offset) axes)) (sym (turned_taken ts us e h))
      (cells_reached old.size (pos old.offset) (reverse (axes_in old))
      (turned_reaches old.size (pos old.offset) (axes_in old) (omega (arith, rank_length old, old.some_axes)) (omega (arith, rank_length old, old.few_axes))
      (reached old.size (pos old.offset) (axes_in old) old.cells)))

  pub turned_view : (new : StridedView) → IsSameArray old new → axes_in new ≡ reverse (axes_in old) → new.offset ≡ old.offset → view_cells new ≡ transposed (view_cells old)
  unfolding view_cells transposed
  turned_view new same axes offset =
      let other : List Axis = reverse (axes_in old) in
      same_view old new other same axes
      ∙ ap (λ o. record { shape = extents other; cells = spread (cell_at old.buffer) (pos o) other }) offset
      ∙ ap (λ s. record { shape = s; cells = spread (cell_at old.buffer) (pos old.offset) other })
      (map-reverse (λ a. a.extent) (axes_in old))
      ∙ ap (λ cs. record { shape = reverse (extents (axes_in old)); cells = cs })
      (sym (turned_spread (cell_at old.buffer) (pos old.offset) (axes_in old)))

-- ---- a slice and its step
pub slice_faults : (view : ViewCells) (n : ℕ) (from to step : Option ℤ) → unwrap_or step (pos 1) ≡ pos 0 → slice_of view n from to step ≡ Err (step_fault n)
unfolding slice_of
slice_faults view n from to step e =
    ap (λ k. if unsigned_abs k == 0 then Err (step_fault n) else Ok (sliced n (slice_indices (slice_index view.shape n) from to k) view)) e

-- a step that isn't 0
goes : (k : ℤ) → k ≢ pos 0 → (unsigned_abs k == 0) ≡ false
goes (pos zero) h = absurd (h refl)
goes (pos (suc m)) h = grind (arith, nat_tests)
goes (negsuc m) h = grind (arith, nat_tests)

pub slice_goes : (view : ViewCells) (n : ℕ) (from to step : Option ℤ) (k : ℤ) → unwrap_or step (pos 1) ≡ k → k ≢ pos 0
    → slice_of view n from to step ≡ Ok (sliced n (slice_indices (slice_index view.shape n) from to k) view)
unfolding slice_of
slice_goes view n from to step k e h =
    ap (λ k. if unsigned_abs k == 0 then Err (step_fault n) else Ok (sliced n (slice_indices (slice_index view.shape n) from to k) view)) e
    ∙ ap (λ b. if b then Err (step_fault n) else Ok (sliced n (slice_indices (slice_index view.shape n) from to k) view)) (goes k h)

pub slice_picks : (v : StridedView) (n : ℕ) (from to step : Option ℤ) (k : ℤ) → n < v.rank → unwrap_or step (pos 1) ≡ k → k ≢ pos 0
    → slice_of (view_cells v) n from to step ≡ Ok (sliced n (slice_indices (axis_at (axes_in v) n).extent from to k) (view_cells v))
slice_picks v n from to step k there e h =
    slice_goes (view_cells v) n from to step k e h
    ∙ ap (λ m. Ok (sliced n (slice_indices m from to k) (view_cells v))) (extent_of v n there)

-- ---- what is said of the axes, filled up to three
module _ (v : StridedView) where
  short : length (axes_in v) ≤ 3
  short = omega (arith, rank_length v, v.few_axes)

  abbrev f : ℤ → Cell
  f = cell_at v.buffer

  module _ (ts : List Axis) (e : ts ≡ triple (axes_in v)) where
    pub filled_is : spread (cell_at v.buffer) (pos v.offset) ts ≡ (view_cells v).cells
    unfolding view_cells
    filled_is = ap (spread f (pos v.offset)) e ∙ filled_spread f (pos v.offset) (axes_in v) short

    filled : AreCells v.size (places_of (pos v.offset) ts)
    filled = subst (λ axes. AreCells v.size (places_of (pos v.offset) axes)) (sym e) (filled_cells v.size (pos v.offset) (axes_in v) short v.cells)

    pub no_cells : cell_count (extents ts) ≡ 0 → (view_cells v).cells ≡ []
    no_cells none = sym filled_is ∙ empty_spread f (pos v.offset) ts none

    pub compact_view : IsCompact ts ↔ AreConsecutive v.offset (view_cells v).cells
    compact_view = subst (λ cs. IsCompact ts ↔ AreConsecutive v.offset cs) filled_is (compact_is v.size f (λ z. refl) v.offset ts filled)

    pub step_view : (g : ℕ) → IsGreatestDivisor (step_sizes ts) g → IsGreatestDivisor (step_sizes (axes_in v)) g
    step_view g h = subst (λ ns. IsGreatestDivisor ns g) (ap step_sizes e ∙ filled_sizes (axes_in v) short) h

  module _ (x y z : Axis) (e : x ∷ y ∷ z ∷ [] ≡ triple (axes_in v)) (some : 0 < cell_count (extents (x ∷ y ∷ z ∷ []))) (a b c l m n : ℕ)
      (ea : (p : ℕ) → p < 2 ^ 64 → pos v.offset +ℤ pos (low_index x) *ℤ x.stride ≡ pos p → a ≡ p)
      (eb : (p : ℕ) → p < 2 ^ 64 → pos a +ℤ pos (low_index y) *ℤ y.stride ≡ pos p → b ≡ p)
      (ec : (p : ℕ) → p < 2 ^ 64 → pos b +ℤ pos (low_index z) *ℤ z.stride ≡ pos p → c ≡ p)
      (el : (p : ℕ) → p < 2 ^ 64 → pos v.offset +ℤ pos (high_index x) *ℤ x.stride ≡ pos p → l ≡ p)
      (em : (p : ℕ) → p < 2 ^ 64 → pos l +ℤ pos (high_index y) *ℤ y.stride ≡ pos p → m ≡ p)
      (en : (p : ℕ) → p < 2 ^ 64 → pos m +ℤ pos (high_index z) *ℤ z.stride ≡ pos p → n ≡ p) where
    abbrev ts : List Axis
    ts = x ∷ y ∷ z ∷ []

    pub extent_view : IsExtent (view_cells v).cells (Some (c, n))
    extent_view =
        subst (λ cs. IsExtent cs (Some (c, n))) (filled_is ts e)
        (extent_is v.size v.offset v.limit x y z (filled ts e) some f (λ q. refl) c n
        (lows_found v.size v.offset v.limit x y z (filled ts e) some a b c ea eb ec)
        (highs_found v.size v.offset v.limit x y z (filled ts e) some l m n el em en))
