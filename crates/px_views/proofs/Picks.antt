-- Picks from a view whose offset and strides are kept in words.
use Rattle.std.proofs.Common.{◌≡◌, ◌≢◌, ℕ, ℤ, pos, negsuc, zero, suc, ◌*◌, ◌^◌, ◌<◌, ◌≤◌, List, [], ◌∷◌, length, get_or, map, refl, sym, ◌∙◌, ap, subst, arith, zero-mul, mul-zero, ◌⊎◌, inl, inr}
use Rattle.std.specs.Prelude.{◌+ℤ◌, ◌-ℤ◌, ◌*ℤ◌, ◌≤ℤ◌, ◌<ℤ◌, remove, slice_set, unsigned_abs}
use Rattle.std.proofs.lemmas.Int.{ints}
use Rattle.std.proofs.lemmas.List.{nil_from_length}
use Rattle.px_model.specs.Views.{cell_count, along, nth_row, rows_at}
use Rattle.px_views.specs.declared.axes.Axis.{Axis}
use Rattle.px_views.specs.Strides.{AreCells, axis_at, extents, spread, places_of}
use Rattle.std.proofs.Math.Nat.{mul_left_comm}
use Rattle.px_views.proofs.Numbers.{apart, near, stepped_place}
use Rattle.px_views.proofs.Spreads.{length_spread, indexed_spread, sliced_spread}
use Rattle.px_views.proofs.Indices.{IsIndex, place_at, position_below, Reaches, reached, cells_reached}
use Rattle.px_views.proofs.Carried.{picked_reaches, cut_reaches}

-- ---- views without cells
pub empty_reaches : (size : ℕ) (o : ℤ) (axes : List Axis) → cell_count (extents axes) ≡ 0 → Reaches size o axes
empty_reaches size o axes none = record {
  inside = λ us h. absurd (omega (arith, position_below axes us h, none));
  distinct = λ us vs h k e. absurd (omega (arith, position_below axes us h, none));
}

pub empty_spread : {X : Type 0} (f : ℤ → X) (o : ℤ) (axes : List Axis) → cell_count (extents axes) ≡ 0 → spread f o axes ≡ []
empty_spread f o axes none = nil_from_length (spread f o axes) (length_spread f o axes ∙ none)

-- ---- the first cell
unfoldable pub zeros : List Axis → List ℕ
zeros axes = map (λ axis. 0) axes

pub both_some : (a w : ℕ) → 0 < a * w → (0 < a) × (0 < w)
both_some zero w h = absurd (omega (arith, zero-mul w))
both_some (suc a) zero h = absurd (omega (arith, mul-zero (suc a)))
both_some (suc a) (suc w) h = (omega arith, omega arith)

pub zeros_index : (axes : List Axis) → 0 < cell_count (extents axes) → IsIndex axes (zeros axes)
unfolding zeros
zeros_index [] h = tt
zeros_index (a ∷ axes) h = let some = both_some a.extent (cell_count (extents axes)) h in (some.0, zeros_index axes some.1)

pub zeros_place : (o : ℤ) (axes : List Axis) → place_at o axes (zeros axes) ≡ o
unfolding zeros
zeros_place o [] = refl
zeros_place o (a ∷ axes) = zeros_place (o +ℤ pos 0 *ℤ a.stride) axes ∙ omega (arith, ints)

pub as_place : (size : ℕ) (z : ℤ) → pos 0 ≤ℤ z → z <ℤ pos size → (m : ℕ) × (z ≡ pos m) × (m < size)
as_place size (pos m) low high = (m, refl, omega (arith, ints))
as_place size (negsuc m) low high = absurd (omega (arith, ints))

pub first_cell : (size : ℕ) (o : ℤ) (axes : List Axis) → 0 < cell_count (extents axes) → Reaches size o axes → (m : ℕ) × (o ≡ pos m) × (m < size)
first_cell size o axes some reaches =
    let within = reaches.inside (zeros axes) (zeros_index axes some) in
    as_place size o (rw (zeros_place o axes) at within.0) (rw (zeros_place o axes) at within.1)

-- ---- an offset that is found modulo 2^64 is exact where there is a cell
module _ (size : ℕ) (limit : size ≤ 67108864) (z : ℤ) (axes : List Axis) (p : ℕ) (exact : (m : ℕ) → m < 2 ^ 64 → z ≡ pos m → p ≡ m) (reaches : Reaches size z axes) where
  settled : (n : ℕ) → cell_count (extents axes) ≡ n → (cell_count (extents axes) ≡ 0) ⊎ (pos p ≡ z)
  settled zero e = inl e
  settled (suc n) e =
      let first = first_cell size z axes (omega arith) reaches in
      inr (ap pos (exact first.0 (omega (arith, first.2)) first.1) ∙ sym first.1)

  pub settled_reaches : Reaches size (pos p) axes
  settled_reaches = elim (settled (cell_count (extents axes)) refl) [
    | inl none ↦ empty_reaches size (pos p) axes none
    | inr same ↦ subst (λ o. Reaches size o axes) (sym same) reaches
  ]

  pub settled_spread : {X : Type 0} (f : ℤ → X) → spread f (pos p) axes ≡ spread f z axes
  settled_spread f = elim (settled (cell_count (extents axes)) refl) [
    | inl none ↦ empty_spread f (pos p) axes none ∙ sym (empty_spread f z axes none)
    | inr same ↦ ap (λ o. spread f o axes) same
  ]

-- ---- an index
module _ (size o : ℕ) (axes : List Axis) (limit : size ≤ 67108864) (n i p : ℕ) (there : n < length axes) (within : i < (axis_at axes n).extent)
    (exact : (m : ℕ) → m < 2 ^ 64 → pos o +ℤ pos i *ℤ (axis_at axes n).stride ≡ pos m → p ≡ m) (cells : AreCells size (places_of (pos o) axes)) where
  pub picked_cells : AreCells size (places_of (pos p) (remove axes n))
  picked_cells =
      cells_reached size (pos p) (remove axes n)
      (settled_reaches size limit _ (remove axes n) p exact (picked_reaches size (pos o) axes n i there within (reached size (pos o) axes cells)))

  pub picked_spread : {X : Type 0} (f : ℤ → X) → along (nth_row i) n (extents axes) (spread f (pos o) axes) ≡ spread f (pos p) (remove axes n)
  picked_spread f =
      indexed_spread f (pos o) axes n i there within
      ∙ sym (settled_spread size limit _ (remove axes n) p exact (picked_reaches size (pos o) axes n i there within (reached size (pos o) axes cells)) f)

-- ---- a slice
count_cut : (axes : List Axis) (n c : ℕ) (t : ℤ) → n < length axes → cell_count (extents (slice_set axes n (record { extent = c; stride = t }))) ≡ c * cell_count (extents (remove axes n))
count_cut [] n c t h = absurd (omega arith)
count_cut (a ∷ axes) zero c t h = refl
count_cut (a ∷ axes) (suc n) c t h =
    ap (λ m. a.extent * m) (count_cut axes n c t (omega arith)) ∙ mul_left_comm a.extent c (cell_count (extents (remove axes n)))

module _ (size o : ℕ) (axes : List Axis) (limit : size ≤ 67108864) (n c f p : ℕ) (t k : ℤ) (indices : List ℕ) (nonzero : k ≢ pos 0)
    (there : n < length axes) (count : length indices ≡ c) (within : (m : ℕ) → m < c → get_or indices m 0 < (axis_at axes n).extent)
    (items : (m : ℕ) → m < c → pos (get_or indices m 0) ≡ pos f +ℤ pos m *ℤ k)
    (exact : (m : ℕ) → m < 2 ^ 64 → pos o +ℤ pos f *ℤ (axis_at axes n).stride ≡ pos m → p ≡ m)
    (scaled : unsigned_abs ((axis_at axes n).stride *ℤ k) < 2 ^ 63 → t ≡ (axis_at axes n).stride *ℤ k)
    (cells : AreCells size (places_of (pos o) axes)) where
  abbrev s : ℤ
  s = (axis_at axes n).stride

  abbrev new : List Axis
  new = slice_set axes n (record { extent = c; stride = t })

  -- the slice's cells by the exact offset and stride
  item_place : (m : ℕ) → m < c → (pos o +ℤ pos f *ℤ s) +ℤ pos m *ℤ (s *ℤ k) ≡ pos o +ℤ pos (get_or indices m 0) *ℤ s
  item_place m less = omega (arith, ints, stepped_place (get_or indices m 0) (pos f) m k s (items m less))

  item_inside : 0 < cell_count (extents (remove axes n)) → (m : ℕ) → m < c → (q : ℕ) × ((pos o +ℤ pos f *ℤ s) +ℤ pos m *ℤ (s *ℤ k) ≡ pos q) × (q < size)
  item_inside some m less =
      let found = first_cell size _ (remove axes n) some (picked_reaches size (pos o) axes n (get_or indices m 0) there (within m less) (reached size (pos o) axes cells)) in
      (found.0, item_place m less ∙ found.1, found.2)

  first_exact : 0 < cell_count (extents (remove axes n)) → 0 < c → pos p ≡ pos o +ℤ pos f *ℤ s
  first_exact some many =
      let found = item_inside some 0 many in
      let here : pos o +ℤ pos f *ℤ s ≡ pos found.0 = omega (arith, ints, found.1) in
      ap pos (exact found.0 (omega (arith, found.2)) here) ∙ sym here

  stride_exact : 0 < cell_count (extents (remove axes n)) → 1 < c → t ≡ s *ℤ k
  stride_exact some many =
      let one = item_inside some 0 (omega arith) in
      let two = item_inside some 1 many in
      let gap : s *ℤ k ≡ pos two.0 -ℤ pos one.0 = omega (arith, ints, one.1, two.1) in
      scaled (rw gap (near two.0 one.0 (omega (arith, two.2)) (omega (arith, one.2))))

  reach : 0 < cell_count (extents (remove axes n)) → (m : ℕ) → m < c → pos p +ℤ pos m *ℤ t ≡ pos o +ℤ pos (get_or indices m 0) *ℤ s
  reach some zero less =
      omega (arith, ints, first_exact some less, item_place 0 less)
  reach some (suc m) less =
      ap (λ z. z +ℤ pos (suc m) *ℤ t) (first_exact some (omega arith))
      ∙ ap (λ z. (pos o +ℤ pos f *ℤ s) +ℤ pos (suc m) *ℤ z) (stride_exact some (omega arith))
      ∙ item_place (suc m) less

  items_apart : (m j : ℕ) → m < c → j < c → get_or indices m 0 ≡ get_or indices j 0 → m ≡ j
  items_apart m j mless jless e = apart m j f k nonzero (sym (items m mless) ∙ ap pos e ∙ items j jless)

  has_cells : (w : ℕ) → cell_count (extents (remove axes n)) ≡ w → (cell_count (extents new) ≡ 0) ⊎ (0 < cell_count (extents (remove axes n)))
  has_cells zero e = inl (count_cut axes n c t there ∙ ap (λ w. c * w) e ∙ mul-zero c)
  has_cells (suc w) e = inr (omega arith)

  pub cut_cells : AreCells size (places_of (pos p) (slice_set axes n (record { extent = c; stride = t })))
  cut_cells = cells_reached size (pos p) new (elim (has_cells (cell_count (extents (remove axes n))) refl) [
    | inl none ↦ empty_reaches size (pos p) new none
    | inr some ↦ cut_reaches c t (λ m. get_or indices m 0) size (pos o) (pos p) axes n there within items_apart (reach some) (reached size (pos o) axes cells)
  ])

  pub cut_spread : {X : Type 0} (g : ℤ → X) → along (rows_at indices) n (extents axes) (spread g (pos o) axes) ≡ spread g (pos p) (slice_set axes n (record { extent = c; stride = t }))
  cut_spread g = elim (has_cells (cell_count (extents (remove axes n))) refl) [
    | inl none ↦
        sliced_spread g c (s *ℤ k) indices count (pos o) (pos o +ℤ pos f *ℤ s) axes n there within item_place
        ∙ empty_spread g (pos o +ℤ pos f *ℤ s) (slice_set axes n (record { extent = c; stride = s *ℤ k })) (count_cut axes n c (s *ℤ k) there ∙ sym (count_cut axes n c t there) ∙ none)
        ∙ sym (empty_spread g (pos p) new none)
    | inr some ↦ sliced_spread g c t indices count (pos o) (pos p) axes n there within (reach some)
  ]
