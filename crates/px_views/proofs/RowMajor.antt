-- Axes that reach places one behind another, in row-major order.
use Rattle.std.proofs.Common.{◌≡◌, ℕ, ℤ, pos, negsuc, zero, suc, ◌+◌, ◌*◌, ◌<◌, ◌≤◌, List, [], ◌∷◌, length, get_or, take, map, refl, sym, ◌∙◌, ap, subst, arith, zero-mul}
use Rattle.std.specs.Prelude.{◌+ℤ◌, ◌*ℤ◌, ◌≤ℤ◌, unsigned_abs, ◌↔◌}
use Rattle.std.specs.List.{flat_map, range_with_len}
use Rattle.std.proofs.Common.{inl, inr}
use Rattle.std.proofs.lemmas.Int.{ints}
use Rattle.std.proofs.lemmas.List.{take_at}
use Rattle.std.proofs.lemmas.List.FromFn.{length-range_with_len, get_or-range_with_len, get_or-map-range_with_len, length-map-range_with_len}
use Rattle.std.proofs.Math.Nat.{suc-mul, mul-one}
use Rattle.std.proofs.Math.IntN.{suc_ℤ-*ℤ}
use Rattle.px_model.specs.declared.cells.Cell.{Cell}
use Rattle.px_model.specs.Views.{AreConsecutive, cell_count}
use Rattle.px_views.specs.declared.axes.Axis.{Axis}
use Rattle.px_views.specs.declared.triples.Triple.{Triple}
use Rattle.px_views.specs.Strides.{AreCells, extents, spread, places_of}
use Rattle.px_views.specs.Triples.{IsCompact, IsRowMajor, listed}
use Rattle.px_views.proofs.Lists.{flat_map_same, map-flat_map, map-map, map_same, range_more, ranges_flat}
use Rattle.px_views.proofs.Spreads.{length_spread, spread_map}
use Rattle.px_views.proofs.Indices.{IsIndex, place_at, position, position_below, get_spread, Reaches, reached}
use Rattle.px_views.proofs.Carried.{picked_reaches}
use Rattle.px_views.proofs.Picks.{both_some, empty_spread, zeros, zeros_index, zeros_place}

-- ---- whole arrays
unfoldable pub c_axes : List ℕ → List Axis
c_axes [] = []
c_axes (n ∷ shape) = record { extent = n; stride = pos (cell_count shape) } ∷ c_axes shape

pub extents-c_axes : (shape : List ℕ) → extents (c_axes shape) ≡ shape
unfolding c_axes
extents-c_axes [] = refl
extents-c_axes (n ∷ shape) = ap (λ ns. n ∷ ns) (extents-c_axes shape)

pub spread-c_axes : {X : Type 0} (f : ℤ → X) (o : ℕ) (shape : List ℕ) → spread f (pos o) (c_axes shape) ≡ map (λ k. f (pos k)) (range_with_len o (cell_count shape))
unfolding c_axes
spread-c_axes f o [] = refl
spread-c_axes f o (n ∷ shape) =
    let w : ℕ = cell_count shape in
    flat_map_same (λ i. spread f (pos (o + i * w)) (c_axes shape)) (λ i. map (λ k. f (pos k)) (range_with_len (o + i * w) w)) 0 n
    (λ i low high. spread-c_axes f (o + i * w) shape)
    ∙ sym (map-flat_map (λ k. f (pos k)) (λ i. range_with_len (o + i * w) w) (range_with_len 0 n))
    ∙ ap (map (λ k. f (pos k))) (ranges_flat o w 0 n ∙ ap (λ a. range_with_len a (n * w)) (omega (arith, zero-mul w)))

-- the places of a whole array are all there are, once each
pub whole_cells : (size : ℕ) → AreCells size (map (λ k. pos k) (range_with_len 0 size))
whole_cells size = record {
  inside = λ k less.
      let short : k < size = omega (arith, length-map-range_with_len (λ k. pos k) 0 size) in
      rw (get_or-map-range_with_len (λ k. pos k) 0 size k k (pos 0) short (omega arith)) (omega (arith, ints), omega (arith, ints));
  distinct = λ j k jless kless e.
      let jshort : j < size = omega (arith, length-map-range_with_len (λ k. pos k) 0 size) in
      let kshort : k < size = omega (arith, length-map-range_with_len (λ k. pos k) 0 size) in
      let same : pos j ≡ pos k =
      sym (get_or-map-range_with_len (λ k. pos k) 0 size j j (pos 0) jshort (omega arith)) ∙ e
      ∙ get_or-map-range_with_len (λ k. pos k) 0 size k k (pos 0) kshort (omega arith) in
      omega (arith, ints, same);
}

same_axis : (x : Axis) (n : ℕ) (t : ℤ) → x.extent ≡ n → x.stride ≡ t → x ≡ record { extent = n; stride = t }
same_axis x n t e h = ap (λ m. record { extent = m; stride = x.stride }) e ∙ ap (λ u. record { extent = n; stride = u }) h

-- the axes of the program are those of the shape
module _ (T : Triple) where
  pub rows_taken : (shape : List ℕ) → 1 ≤ length shape → length shape ≤ 3
      → T.first.extent ≡ get_or shape 0 1 → T.second.extent ≡ get_or shape 1 1 → T.third.extent ≡ get_or shape 2 1
      → T.first.stride ≡ pos (get_or shape 1 1 * get_or shape 2 1) → T.second.stride ≡ pos (get_or shape 2 1) → T.third.stride ≡ pos 1
      → take (length shape) (listed T) ≡ c_axes shape
  unfolding c_axes
  rows_taken [] h k a b c x y z = absurd (omega arith)
  rows_taken (l ∷ []) h k a b c x y z = ap (λ u. u ∷ []) (same_axis T.first l (pos 1) a x)
  rows_taken (l ∷ m ∷ []) h k a b c x y z =
      ap (λ u. u ∷ T.second ∷ []) (same_axis T.first l (pos (m * 1)) a x)
      ∙ ap (λ u. record { extent = l; stride = pos (m * 1) } ∷ u ∷ []) (same_axis T.second m (pos 1) b y)
  rows_taken (l ∷ m ∷ n ∷ []) h k a b c x y z =
      ap (λ u. u ∷ T.second ∷ T.third ∷ []) (same_axis T.first l (pos (m * (n * 1))) a (x ∙ ap (λ j. pos (m * j)) (sym (mul-one n))))
      ∙ ap (λ u. record { extent = l; stride = pos (m * (n * 1)) } ∷ u ∷ T.third ∷ [])
      (same_axis T.second m (pos (n * 1)) b (y ∙ ap (λ j. pos j) (sym (mul-one n))))
      ∙ ap (λ u. record { extent = l; stride = pos (m * (n * 1)) } ∷ record { extent = m; stride = pos (n * 1) } ∷ u ∷ []) (same_axis T.third n (pos 1) c z)
  rows_taken (l ∷ m ∷ n ∷ j ∷ shape) h k a b c x y z = absurd (omega arith)

  pub extents_taken : (shape : List ℕ) → 1 ≤ length shape → length shape ≤ 3
      → T.first.extent ≡ get_or shape 0 1 → T.second.extent ≡ get_or shape 1 1 → T.third.extent ≡ get_or shape 2 1
      → extents (take (length shape) (listed T)) ≡ shape
  extents_taken [] h k a b c = absurd (omega arith)
  extents_taken (l ∷ []) h k a b c = cc
  extents_taken (l ∷ m ∷ []) h k a b c = cc
  extents_taken (l ∷ m ∷ n ∷ []) h k a b c = cc
  extents_taken (l ∷ m ∷ n ∷ j ∷ shape) h k a b c = absurd (omega arith)

-- ---- views that are compact
module _ (f : ℤ → Cell) (abs : (z : ℤ) → (f z).place ≡ unsigned_abs z) where
  pub placed_spread : (o : ℤ) (axes : List Axis) → map (λ c. c.place) (spread f o axes) ≡ spread (λ z. unsigned_abs z) o axes
  placed_spread o axes =
      ap (map (λ c. c.place)) (spread_map f o axes)
      ∙ map-map (λ c. c.place) f (spread (λ p. p) o axes)
      ∙ map_same (λ z. (f z).place) (λ z. unsigned_abs z) (spread (λ p. p) o axes) abs
      ∙ sym (spread_map (λ z. unsigned_abs z) o axes)

-- where a row begins
row_start : (o w i : ℕ) (a : Axis) → i < a.extent → (1 < a.extent → a.stride ≡ pos w) → pos o +ℤ pos i *ℤ a.stride ≡ pos (o + i * w)
row_start o w zero a h apart = omega (arith, ints, zero-mul w)
row_start o w (suc i) a h apart = ap (λ s. pos o +ℤ pos (suc i) *ℤ s) (apart (omega arith))

-- the places of row-major axes
rows_placed : (o : ℕ) (axes : List Axis) → IsRowMajor axes → spread (λ z. unsigned_abs z) (pos o) axes ≡ range_with_len o (cell_count (extents axes))
rows_placed o [] h = refl
rows_placed o (a ∷ axes) h =
    let w : ℕ = cell_count (extents axes) in
    flat_map_same (λ i. spread (λ z. unsigned_abs z) (pos o +ℤ pos i *ℤ a.stride) axes) (λ i. range_with_len (o + i * w) w) 0 a.extent
    (λ i low high. ap (λ z. spread (λ z. unsigned_abs z) z axes) (row_start o w i a (omega arith) h.0) ∙ rows_placed (o + i * w) axes h.1)
    ∙ ranges_flat o w 0 a.extent ∙ ap (λ b. range_with_len b (a.extent * w)) (omega (arith, zero-mul w))

-- the first row of places that stand one behind another
range_front : (o w m : ℕ) → take w (range_with_len o (w + m)) ≡ range_with_len o w
range_front o w m =
    ap (take w) (range_more o w m) ∙ take_at (range_with_len o w) (range_with_len (o + w) m) w (length-range_with_len o w)

front_row : (o : ℕ) (s : ℤ) (axes : List Axis) (n : ℕ) → 0 < n
    → flat_map (λ i. spread (λ z. unsigned_abs z) (pos o +ℤ pos i *ℤ s) axes) (range_with_len 0 n) ≡ range_with_len o (n * cell_count (extents axes))
    → spread (λ z. unsigned_abs z) (pos o +ℤ pos 0 *ℤ s) axes ≡ range_with_len o (cell_count (extents axes))
front_row o s axes zero h e = absurd (omega arith)
front_row o s axes (suc n) h e =
    let w : ℕ = cell_count (extents axes) in
    let row : ℕ → List ℕ = λ i. spread (λ z. unsigned_abs z) (pos o +ℤ pos i *ℤ s) axes in
    let longer : suc n * w ≡ w + n * w = omega (arith, suc-mul n w) in
    sym (take_at (row 0) (flat_map row (range_with_len (0 + 1) n)) w (length_spread (λ z. unsigned_abs z) (pos o +ℤ pos 0 *ℤ s) axes))
    ∙ ap (take w) (e ∙ ap (range_with_len o) longer)
    ∙ range_front o w (n * w)

zero_position : (axes : List Axis) → position axes (zeros axes) ≡ 0
unfolding zeros
zero_position [] = refl
zero_position (a ∷ axes) = omega (arith, zero-mul (cell_count (extents axes)), zero_position axes)

one_times : (s : ℤ) → pos 1 *ℤ s ≡ s
one_times s = suc_ℤ-*ℤ (pos 0) s ∙ omega (arith, ints)

pub pos_of : (z : ℤ) → pos 0 ≤ℤ z → pos (unsigned_abs z) ≡ z
pos_of (pos n) h = refl
pos_of (negsuc n) h = absurd (omega (arith, ints))

-- what is placed so is row-major
module _ (size : ℕ) where
  second_row : (o : ℕ) (a : Axis) (axes : List Axis) → Reaches size (pos o) (a ∷ axes) → 0 < cell_count (extents axes)
      → spread (λ z. unsigned_abs z) (pos o) (a ∷ axes) ≡ range_with_len o (a.extent * cell_count (extents axes))
      → 1 < a.extent → a.stride ≡ pos (cell_count (extents axes))
  second_row o a axes reaches some e many =
      let w : ℕ = cell_count (extents axes) in
      let us : List ℕ = 1 ∷ zeros axes in
      let h : IsIndex (a ∷ axes) us = (many, zeros_index axes some) in
      let k : ℕ = position (a ∷ axes) us in
      let here : k ≡ w = omega (arith, zero_position axes) in
      let below : k < a.extent * w = position_below (a ∷ axes) us h in
      let place : place_at (pos o) (a ∷ axes) us ≡ pos o +ℤ a.stride =
      zeros_place (pos o +ℤ pos 1 *ℤ a.stride) axes ∙ ap (λ s. pos o +ℤ s) (one_times a.stride) in
      let low : pos 0 ≤ℤ (pos o +ℤ a.stride) = rw place at (reaches.inside us h).0 in
      let is : unsigned_abs (pos o +ℤ a.stride) ≡ o + k =
      ap (λ z. unsigned_abs z) (sym place) ∙ sym (get_spread (λ z. unsigned_abs z) 0 (pos o) (a ∷ axes) us h)
      ∙ ap (λ xs. get_or xs k 0) e ∙ get_or-range_with_len o (a.extent * w) k 0 below in
      let exact : pos o +ℤ a.stride ≡ pos (o + k) = sym (pos_of (pos o +ℤ a.stride) low) ∙ ap (λ n. pos n) is in
      omega (arith, ints, exact, here)

  row_major_of : (o : ℕ) (axes : List Axis) → Reaches size (pos o) axes → 0 < cell_count (extents axes)
      → spread (λ z. unsigned_abs z) (pos o) axes ≡ range_with_len o (cell_count (extents axes)) → IsRowMajor axes
  row_major_of o [] reaches some e = tt
  row_major_of o (a ∷ axes) reaches some e =
      let both = both_some a.extent (cell_count (extents axes)) some in
      let start : pos o +ℤ pos 0 *ℤ a.stride ≡ pos o = omega (arith, ints) in
      let rest : Reaches size (pos o) axes =
      subst (λ z. Reaches size z axes) start (picked_reaches size (pos o) (a ∷ axes) 0 0 (omega arith) both.0 reaches) in
      let first : spread (λ z. unsigned_abs z) (pos o) axes ≡ range_with_len o (cell_count (extents axes)) =
      ap (λ z. spread (λ z. unsigned_abs z) z axes) (sym start) ∙ front_row o a.stride axes a.extent both.0 e in
      (second_row o a axes reaches both.1 e, row_major_of o axes rest both.1 first)

  module _ (f : ℤ → Cell) (abs : (z : ℤ) → (f z).place ≡ unsigned_abs z) (o : ℕ) (axes : List Axis) (cells : AreCells size (places_of (pos o) axes)) where
    forward : (n : ℕ) → cell_count (extents axes) ≡ n → AreConsecutive o (spread f (pos o) axes) → IsCompact axes
    forward zero e h = inl e
    forward (suc n) e h =
        inr (row_major_of o axes (reached size (pos o) axes cells) (omega arith)
        (sym (placed_spread f abs (pos o) axes) ∙ h ∙ ap (range_with_len o) (length_spread f (pos o) axes)))

    backward : IsCompact axes → AreConsecutive o (spread f (pos o) axes)
    backward (inl none) = subst (λ cs. AreConsecutive o cs) (sym (empty_spread f (pos o) axes none)) refl
    backward (inr rows) =
        placed_spread f abs (pos o) axes ∙ rows_placed o axes rows ∙ ap (range_with_len o) (sym (length_spread f (pos o) axes))

    pub compact_is : IsCompact axes ↔ AreConsecutive o (spread f (pos o) axes)
    compact_is = (backward, forward (cell_count (extents axes)) refl)
