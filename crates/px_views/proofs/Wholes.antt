-- Views of whole arrays.
use Rattle.std.proofs.Common.{◌≡◌, ℕ, ℤ, pos, zero, suc, ◌*◌, ◌^◌, ◌<◌, ◌≤◌, List, [], ◌∷◌, length, get_or, take, map, refl, sym, ◌∙◌, ap, subst, arith, zero-mul, mul-one, inl, inr}
use Rattle.std.specs.Prelude.{reverse, ◌⊎◌}
use Rattle.std.specs.List.{range_with_len}
use Rattle.std.proofs.Math.Nat.{mul-le-mul_right}
use Rattle.px_model.specs.Views.{buffer_cells, cell_count}
use Rattle.px_views.specs.declared.axes.Axis.{Axis}
use Rattle.px_views.specs.declared.strided.StridedView.{StridedView}
use Rattle.px_views.specs.declared.triples.Triple.{Triple}
use Rattle.px_views.specs.Cells.{axes_in, cell_at, view_cells}
use Rattle.px_views.specs.Strides.{AreCells, extents, places_of, spread}
use Rattle.px_views.specs.Triples.{listed}
use Rattle.px_views.proofs.Lists.{map-reverse}
use Rattle.px_views.proofs.Methods.{view_is}
use Rattle.px_views.proofs.Picks.{both_some, empty_spread}
use Rattle.px_views.proofs.RowMajor.{c_axes, extents-c_axes, extents_taken, rows_taken, spread-c_axes, whole_cells}
use Rattle.px_views.proofs.Spreads.{count_reverse}

-- as many cells one way round as the other
pub count_reversed : (s : List ℕ) → cell_count (reverse s) ≡ cell_count s
count_reversed s =
    ap (λ t. cell_count (reverse t)) (sym (extents-c_axes s))
    ∙ ap cell_count (sym (map-reverse (λ a. a.extent) (c_axes s)))
    ∙ count_reverse (c_axes s)
    ∙ ap cell_count (extents-c_axes s)

pub count_is : (s : List ℕ) → 1 ≤ length s → length s ≤ 3 → cell_count s ≡ get_or s 0 1 * (get_or s 1 1 * get_or s 2 1)
count_is [] h k = absurd (omega arith)
count_is (l ∷ []) h k = refl
count_is (l ∷ m ∷ []) h k = refl
count_is (l ∷ m ∷ n ∷ []) h k = ap (λ j. l * (m * j)) (mul-one n)
count_is (l ∷ m ∷ n ∷ j ∷ s) h k = absurd (omega arith)

-- a product that is found in words
pub product_is : (l n p size : ℕ) → l * n ≤ 67108864 → (n < 2 ^ 64 → p ≡ n) → (l * p < 2 ^ 64 → size ≡ l * p) → size ≡ l * n
product_is zero n p size h k e = e (omega (arith, zero-mul p)) ∙ zero-mul p ∙ sym (zero-mul n)
product_is (suc l) n p size h k e =
    let more : 1 * n ≤ suc l * n = mul-le-mul_right n (omega arith) in
    let same : p ≡ n = k (omega arith) in
    let both : suc l * p ≡ suc l * n = ap (λ m. suc l * m) same in
    e (omega (arith, both)) ∙ both

-- an array without cells has no strides to speak of
module _ (T : Triple) (s : List ℕ) (some : 1 ≤ length s) (few : length s ≤ 3) (limit : cell_count s ≤ 67108864)
    (first : T.first.extent ≡ get_or s 0 1) (second : T.second.extent ≡ get_or s 1 1) (third : T.third.extent ≡ get_or s 2 1)
    (planes : get_or s 1 1 * get_or s 2 1 < 2 ^ 63 → T.first.stride ≡ pos (get_or s 1 1 * get_or s 2 1))
    (rows : get_or s 2 1 < 2 ^ 63 → T.second.stride ≡ pos (get_or s 2 1)) (items : T.third.stride ≡ pos 1) where
  abbrev axes : List Axis
  axes = take (length s) (listed T)

  by_count : (n : ℕ) → cell_count s ≡ n → (axes ≡ c_axes s) ⊎ (cell_count s ≡ 0)
  by_count zero e = inr e
  by_count (suc n) e =
      let l : ℕ = get_or s 0 1 in
      let m : ℕ = get_or s 1 1 in
      let k : ℕ = get_or s 2 1 in
      let count : cell_count s ≡ l * (m * k) = count_is s some few in
      let outer = both_some l (m * k) (omega arith) in
      let inner = both_some m k outer.1 in
      let plane : 1 * (m * k) ≤ l * (m * k) = mul-le-mul_right (m * k) outer.0 in
      let row : 1 * k ≤ m * k = mul-le-mul_right k inner.0 in
      inl (rows_taken T s some few first second third (planes (omega arith)) (rows (omega arith)) items)

  shape_is : extents axes ≡ s
  shape_is = extents_taken T s some few first second third

  pub whole_spread : {X : Type 0} (f : ℤ → X) → spread f (pos 0) axes ≡ map (λ k. f (pos k)) (range_with_len 0 (cell_count s))
  whole_spread f = elim (by_count (cell_count s) refl) [
    | inl same ↦ ap (spread f (pos 0)) same ∙ spread-c_axes f 0 s
    | inr none ↦ empty_spread f (pos 0) axes (ap cell_count shape_is ∙ none) ∙ ap (λ n. map (λ k. f (pos k)) (range_with_len 0 n)) (sym none)
  ]

  pub whole_need : (size : ℕ) → size ≡ cell_count s → AreCells size (places_of (pos 0) (take (length s) (listed T)))
  unfolding places_of
  whole_need size e = rw e (subst (AreCells (cell_count s)) (sym (whole_spread (λ p. p))) (whole_cells (cell_count s)))

  pub whole_view : (v : StridedView) (buffer : ℕ) → axes_in v ≡ take (length s) (listed T) → v.offset ≡ 0 → v.buffer ≡ buffer
      → view_cells v ≡ record { shape = s; cells = buffer_cells buffer (cell_count s) }
  whole_view v buffer is offset same =
      view_is v axes is
      ∙ ap (λ o. record { shape = extents axes; cells = spread (cell_at v.buffer) (pos o) axes }) offset
      ∙ ap (λ b. record { shape = extents axes; cells = spread (cell_at b) (pos 0) axes }) same
      ∙ ap (λ t. record { shape = t; cells = spread (cell_at buffer) (pos 0) axes }) shape_is
      ∙ ap (λ cs. record { shape = s; cells = cs }) (whole_spread (cell_at buffer))
