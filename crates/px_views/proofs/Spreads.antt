-- What subscripts pick from the items that axes reach.
use Rattle.std.proofs.Common.{◌≡◌, ℕ, ℤ, pos, zero, suc, ◌*◌, ◌<◌, ◌≤◌, List, [], ◌∷◌, ◌++◌, length, get_or, map, refl, sym, ◌∙◌, ap, arith, append-nil}
use Rattle.std.specs.Prelude.{◌+ℤ◌, ◌*ℤ◌, reverse, insert, remove, slice_set}
use Rattle.std.specs.List.{flat_map, range_with_len}
use Rattle.std.proofs.lemmas.Int.{ints}
use Rattle.std.proofs.lemmas.List.Concat.{flat_map_single}
use Rattle.std.proofs.lemmas.List.Folds.{flat_map-map}
use Rattle.std.proofs.lemmas.List.FromFn.{get_or-map-range_with_len, fill_by_all}
use Rattle.std.proofs.lemmas.Grind.{reverse_onto}
use Rattle.std.proofs.Math.Nat.{mul_assoc, mul_comm}
use Rattle.px_model.specs.Views.{cell_count, rows, joined, along, nth_row, rows_at, columns, turned}
use Rattle.px_views.specs.declared.axes.Axis.{Axis}
use Rattle.px_views.specs.Strides.{axis_at, extents, spread}
use Rattle.px_views.proofs.Lists.{flat_map_same, length_flat, rows_flat, columns_of, map-flat_map, flat_map-flat_map, map_same, map-map}

-- ---- whole numbers
pub moved_apart : (o a b : ℤ) → (o +ℤ a) +ℤ b ≡ (o +ℤ b) +ℤ a
moved_apart o a b = omega (arith, ints)

module _ {X : Type 0} (f : ℤ → X) where
  pub length_spread : (o : ℤ) (axes : List Axis) → length (spread f o axes) ≡ cell_count (extents axes)
  length_spread o [] = refl
  length_spread o (a ∷ axes) =
      length_flat (λ i. spread f (o +ℤ pos i *ℤ a.stride) axes) (cell_count (extents axes)) 0 a.extent (λ i. length_spread (o +ℤ pos i *ℤ a.stride) axes)

  -- the rows of the first axis
  pub spread_rows : (o : ℤ) (a : Axis) (axes : List Axis)
      → rows a.extent (cell_count (extents axes)) (spread f o (a ∷ axes)) ≡ map (λ i. spread f (o +ℤ pos i *ℤ a.stride) axes) (range_with_len 0 a.extent)
  spread_rows o a axes =
      rows_flat (λ i. spread f (o +ℤ pos i *ℤ a.stride) axes) (cell_count (extents axes)) 0 a.extent (λ i. length_spread (o +ℤ pos i *ℤ a.stride) axes)

  row_is : (o : ℤ) (a : Axis) (axes : List Axis) (i : ℕ) → i < a.extent
      → get_or (map (λ i. spread f (o +ℤ pos i *ℤ a.stride) axes) (range_with_len 0 a.extent)) i [] ≡ spread f (o +ℤ pos i *ℤ a.stride) axes
  row_is o a axes i h = get_or-map-range_with_len (λ i. spread f (o +ℤ pos i *ℤ a.stride) axes) 0 a.extent i i [] h (omega arith)

  -- an index
  pub indexed_spread : (o : ℤ) (axes : List Axis) (n i : ℕ) → n < length axes → i < (axis_at axes n).extent
      → along (nth_row i) n (extents axes) (spread f o axes) ≡ spread f (o +ℤ pos i *ℤ (axis_at axes n).stride) (remove axes n)
  indexed_spread o [] n i h k = absurd (omega arith)
  indexed_spread o (a ∷ axes) zero i h k =
      ap (λ rs. joined (nth_row i rs)) (spread_rows o a axes)
      ∙ ap (λ r. r ++ []) (row_is o a axes i k)
      ∙ append-nil (spread f (o +ℤ pos i *ℤ a.stride) axes)
  indexed_spread o (a ∷ axes) (suc n) i h k =
      let t : ℤ = (axis_at axes n).stride in
      ap (flat_map (along (nth_row i) n (extents axes))) (spread_rows o a axes)
      ∙ flat_map-map (along (nth_row i) n (extents axes)) (λ j. spread f (o +ℤ pos j *ℤ a.stride) axes) (range_with_len 0 a.extent)
      ∙ flat_map_same _ (λ j. spread f ((o +ℤ pos i *ℤ t) +ℤ pos j *ℤ a.stride) (remove axes n)) 0 a.extent
      (λ j low high. indexed_spread (o +ℤ pos j *ℤ a.stride) axes n i (omega arith) k
      ∙ ap (λ p. spread f p (remove axes n)) (moved_apart o (pos j *ℤ a.stride) (pos i *ℤ t)))

  -- a slice, whose items a new offset and a new stride reach
  module _ (c : ℕ) (t : ℤ) (indices : List ℕ) (count : length indices ≡ c) where
    pub sliced_spread : (o p : ℤ) (axes : List Axis) (n : ℕ) → n < length axes
        → ((m : ℕ) → m < c → get_or indices m 0 < (axis_at axes n).extent)
        → ((m : ℕ) → m < c → p +ℤ pos m *ℤ t ≡ o +ℤ pos (get_or indices m 0) *ℤ (axis_at axes n).stride)
        → along (rows_at indices) n (extents axes) (spread f o axes) ≡ spread f p (slice_set axes n (record { extent = c; stride = t }))
    sliced_spread o p [] n h within reach = absurd (omega arith)
    sliced_spread o p (a ∷ axes) zero h within reach =
        let rs : List (List X) = map (λ i. spread f (o +ℤ pos i *ℤ a.stride) axes) (range_with_len 0 a.extent) in
        ap (λ rs. joined (rows_at indices rs)) (spread_rows o a axes)
        ∙ flat_map-map (λ r. r) (λ i. get_or rs i []) indices
        ∙ ap (flat_map (λ i. get_or rs i [])) (fill_by_all (λ m. get_or indices m 0) indices c 0 count (λ m less. refl))
        ∙ flat_map-map (λ i. get_or rs i []) (λ m. get_or indices m 0) (range_with_len 0 c)
        ∙ flat_map_same (λ m. get_or rs (get_or indices m 0) []) (λ m. spread f (p +ℤ pos m *ℤ t) axes) 0 c
        (λ m low high. let less : m < c = omega arith in
        row_is o a axes (get_or indices m 0) (within m less) ∙ ap (λ q. spread f q axes) (sym (reach m less)))
    sliced_spread o p (a ∷ axes) (suc n) h within reach =
        ap (flat_map (along (rows_at indices) n (extents axes))) (spread_rows o a axes)
        ∙ flat_map-map (along (rows_at indices) n (extents axes)) (λ j. spread f (o +ℤ pos j *ℤ a.stride) axes) (range_with_len 0 a.extent)
        ∙ flat_map_same _ (λ j. spread f (p +ℤ pos j *ℤ a.stride) (slice_set axes n (record { extent = c; stride = t }))) 0 a.extent
        (λ j low high. sliced_spread (o +ℤ pos j *ℤ a.stride) (p +ℤ pos j *ℤ a.stride) axes n (omega arith) within
        (λ m less. moved_apart p (pos j *ℤ a.stride) (pos m *ℤ t) ∙ ap (λ q. q +ℤ pos j *ℤ a.stride) (reach m less)
        ∙ moved_apart o (pos (get_or indices m 0) *ℤ (axis_at axes n).stride) (pos j *ℤ a.stride)))

  -- an axis of one item
  pub widened_spread : (o : ℤ) (axes : List Axis) (n : ℕ) (t : ℤ) → n ≤ length axes → spread f o (insert axes n (record { extent = 1; stride = t })) ≡ spread f o axes
  widened_spread o axes zero t h = append-nil (spread f (o +ℤ pos 0 *ℤ t) axes) ∙ ap (λ p. spread f p axes) (omega (arith, ints))
  widened_spread o [] (suc n) t h = absurd (omega arith)
  widened_spread o (a ∷ axes) (suc n) t h =
      flat_map_same (λ i. spread f (o +ℤ pos i *ℤ a.stride) (insert axes n (record { extent = 1; stride = t }))) (λ i. spread f (o +ℤ pos i *ℤ a.stride) axes)
      0 a.extent (λ i low high. widened_spread (o +ℤ pos i *ℤ a.stride) axes n t (omega arith))

-- ---- the axes in the other order
pub spread_map : {X : Type 0} (f : ℤ → X) (o : ℤ) (axes : List Axis) → spread f o axes ≡ map f (spread (λ p. p) o axes)
spread_map f o [] = refl
spread_map f o (a ∷ axes) =
    flat_map_same (λ i. spread f (o +ℤ pos i *ℤ a.stride) axes) (λ i. map f (spread (λ p. p) (o +ℤ pos i *ℤ a.stride) axes)) 0 a.extent
    (λ i low high. spread_map f (o +ℤ pos i *ℤ a.stride) axes)
    ∙ sym (map-flat_map f (λ i. spread (λ p. p) (o +ℤ pos i *ℤ a.stride) axes) (range_with_len 0 a.extent))

-- to begin further on is to move each place so far
pub spread_moved : {X : Type 0} (f : ℤ → X) (o d : ℤ) (axes : List Axis) → spread f (o +ℤ d) axes ≡ spread (λ p. f (p +ℤ d)) o axes
spread_moved f o d [] = refl
spread_moved f o d (a ∷ axes) =
    flat_map_same (λ i. spread f ((o +ℤ d) +ℤ pos i *ℤ a.stride) axes) (λ i. spread (λ p. f (p +ℤ d)) (o +ℤ pos i *ℤ a.stride) axes) 0 a.extent
    (λ i low high. ap (λ p. spread f p axes) (moved_apart o d (pos i *ℤ a.stride)) ∙ spread_moved f (o +ℤ pos i *ℤ a.stride) d axes)

-- an axis at the end, which changes first
pub spread_last : {X : Type 0} (f : ℤ → X) (o : ℤ) (axes : List Axis) (a : Axis)
    → spread f o (axes ++ a ∷ []) ≡ flat_map (λ p. map (λ i. f (p +ℤ pos i *ℤ a.stride)) (range_with_len 0 a.extent)) (spread (λ p. p) o axes)
spread_last f o [] a = flat_map_single (λ i. f (o +ℤ pos i *ℤ a.stride)) (range_with_len 0 a.extent) ∙ sym (append-nil _)
spread_last f o (b ∷ axes) a =
    flat_map_same (λ i. spread f (o +ℤ pos i *ℤ b.stride) (axes ++ a ∷ []))
    (λ i. flat_map (λ p. map (λ j. f (p +ℤ pos j *ℤ a.stride)) (range_with_len 0 a.extent)) (spread (λ p. p) (o +ℤ pos i *ℤ b.stride) axes)) 0 b.extent
    (λ i low high. spread_last f (o +ℤ pos i *ℤ b.stride) axes a)
    ∙ sym (flat_map-flat_map (λ p. map (λ j. f (p +ℤ pos j *ℤ a.stride)) (range_with_len 0 a.extent)) (λ i. spread (λ p. p) (o +ℤ pos i *ℤ b.stride) axes) (range_with_len 0 b.extent))

count_last : (axes : List Axis) (a : Axis) → cell_count (extents (axes ++ a ∷ [])) ≡ cell_count (extents axes) * a.extent
count_last [] a = omega arith
count_last (b ∷ axes) a = ap (λ m. b.extent * m) (count_last axes a) ∙ sym (mul_assoc b.extent (cell_count (extents axes)) a.extent)

pub reverse_first : (axes : List Axis) (a : Axis) → reverse (a ∷ axes) ≡ reverse axes ++ a ∷ []
reverse_first axes a = reverse_onto axes a []

pub count_reverse : (axes : List Axis) → cell_count (extents (reverse axes)) ≡ cell_count (extents axes)
count_reverse [] = refl
count_reverse (a ∷ axes) =
    ap (λ xs. cell_count (extents xs)) (reverse_first axes a) ∙ count_last (reverse axes) a
    ∙ ap (λ m. m * a.extent) (count_reverse axes) ∙ mul_comm (cell_count (extents axes)) a.extent

pub turned_spread : {X : Type 0} (f : ℤ → X) (o : ℤ) (axes : List Axis) → turned (extents axes) (spread f o axes) ≡ spread f o (reverse axes)
turned_spread f o [] = refl
turned_spread {X} f o (a ∷ axes) =
    let R : List ℕ = range_with_len 0 a.extent in
    let P : List ℤ = spread (λ p. p) o (reverse axes) in
    let w : ℕ = cell_count (extents axes) in
    let width : w ≡ length P = sym (length_spread (λ p. p) o (reverse axes) ∙ count_reverse axes) in
    let row : ℕ → List X = λ i. spread f (o +ℤ pos i *ℤ a.stride) axes in
    ap (λ rs. joined (columns w (map (turned (extents axes)) rs))) (spread_rows f o a axes)
    ∙ ap (λ rs. joined (columns w rs)) (map-map (turned (extents axes)) row R)
    ∙ ap (λ rs. joined (columns w rs)) (map_same (λ i. turned (extents axes) (row i)) (λ i. map (λ p. f (p +ℤ pos i *ℤ a.stride)) P) R
    (λ i. turned_spread f (o +ℤ pos i *ℤ a.stride) axes ∙ spread_moved f o (pos i *ℤ a.stride) (reverse axes) ∙ spread_map (λ p. f (p +ℤ pos i *ℤ a.stride)) o (reverse axes)))
    ∙ ap (λ m. joined (columns m (map (λ i. map (λ p. f (p +ℤ pos i *ℤ a.stride)) P) R))) width
    ∙ ap joined (columns_of (λ i p. f (p +ℤ pos i *ℤ a.stride)) R P)
    ∙ flat_map-map (λ r. r) (λ p. map (λ i. f (p +ℤ pos i *ℤ a.stride)) R) P
    ∙ sym (spread_last f o (reverse axes) a)
    ∙ ap (spread f o) (sym (reverse_first axes a))
