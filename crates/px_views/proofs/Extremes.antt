-- The least and the greatest place that axes reach.
use Rattle.std.proofs.Common.{◌≡◌, ℕ, ℤ, pos, negsuc, zero, suc, ◌-◌, ◌*◌, ◌^◌, ◌<◌, ◌≤◌, List, [], ◌∷◌, length, get_or, map, refl, sym, ◌∙◌, ap, subst, arith, inl, inr, Bool, true, false, Some}
use Rattle.std.specs.Prelude.{◌+ℤ◌, ◌*ℤ◌, ◌≤ℤ◌, ◌<ℤ◌, ◌⊎◌, int_lt, if◌then◌else◌, unsigned_abs}
use Rattle.std.proofs.lemmas.Int.{ints}
use Rattle.std.proofs.Math.Nat.{mul-le-mul_right}
use Rattle.px_model.specs.declared.cells.Cell.{Cell}
use Rattle.px_model.specs.Views.{cell_count}
use Rattle.px_views.specs.declared.axes.Axis.{Axis}
use Rattle.px_views.specs.Answers.{IsExtent}
use Rattle.px_views.specs.Strides.{AreCells, extents, high_index, low_index, places_of, spread}
use Rattle.px_views.proofs.Spreads.{length_spread}
use Rattle.px_views.proofs.Indices.{IsIndex, place_at, position, position_below, get_spread, index_of, Reaches, reached}
use Rattle.px_views.proofs.Carried.{picked_reaches}
use Rattle.px_views.proofs.Picks.{both_some, first_cell}
use Rattle.px_views.proofs.RowMajor.{placed_spread, pos_of}

-- ---- the ends of an axis
low_by : (b : Bool) (n : ℕ) (s : ℤ) → int_lt s (pos 0) ≡ b
    → ((s <ℤ pos 0) × ((if b then n - 1 else 0) ≡ n - 1)) ⊎ ((pos 0 ≤ℤ s) × ((if b then n - 1 else 0) ≡ 0))
low_by true n s e = inl (grind (arith, ints), refl)
low_by false n s e = inr (grind (arith, ints), refl)

high_by : (b : Bool) (n : ℕ) (s : ℤ) → int_lt (pos 0) s ≡ b
    → ((pos 0 <ℤ s) × ((if b then n - 1 else 0) ≡ n - 1)) ⊎ ((s ≤ℤ pos 0) × ((if b then n - 1 else 0) ≡ 0))
high_by true n s e = inl (grind (arith, ints), refl)
high_by false n s e = inr (grind (arith, ints), refl)

-- more steps of a stride below 0 are lower, and of one above 0 higher
falling : (i j : ℕ) (s : ℤ) → i ≤ j → s ≤ℤ pos 0 → (pos j *ℤ s) ≤ℤ (pos i *ℤ s)
falling i j (pos zero) h k = omega (arith, ints)
falling i j (pos (suc n)) h k = absurd (omega (arith, ints))
falling i j (negsuc n) h k = let more : i * suc n ≤ j * suc n = mul-le-mul_right (suc n) h in omega (arith, ints)

rising : (i j : ℕ) (s : ℤ) → i ≤ j → pos 0 ≤ℤ s → (pos i *ℤ s) ≤ℤ (pos j *ℤ s)
rising i j (pos n) h k = let more : i * n ≤ j * n = mul-le-mul_right n h in omega (arith, ints)
rising i j (negsuc n) h k = absurd (omega (arith, ints))

pub low_there : (a : Axis) → 0 < a.extent → low_index a < a.extent
low_there a h = elim (low_by (int_lt a.stride (pos 0)) a.extent a.stride refl) [ inl c ↦ omega (arith, c.1) | inr c ↦ omega (arith, c.1) ]

pub high_there : (a : Axis) → 0 < a.extent → high_index a < a.extent
high_there a h = elim (high_by (int_lt (pos 0) a.stride) a.extent a.stride refl) [ inl c ↦ omega (arith, c.1) | inr c ↦ omega (arith, c.1) ]

low_below : (a : Axis) (i : ℕ) → i < a.extent → (pos (low_index a) *ℤ a.stride) ≤ℤ (pos i *ℤ a.stride)
low_below a i h = elim (low_by (int_lt a.stride (pos 0)) a.extent a.stride refl) [
  | inl c ↦ rw c.1 (falling i (a.extent - 1) a.stride (omega arith) (omega (arith, ints, c.0)))
  | inr c ↦ rw c.1 (rising 0 i a.stride (omega arith) c.0)
]

high_above : (a : Axis) (i : ℕ) → i < a.extent → (pos i *ℤ a.stride) ≤ℤ (pos (high_index a) *ℤ a.stride)
high_above a i h = elim (high_by (int_lt (pos 0) a.stride) a.extent a.stride refl) [
  | inl c ↦ rw c.1 (rising i (a.extent - 1) a.stride (omega arith) (omega (arith, ints, c.0)))
  | inr c ↦ rw c.1 (falling 0 i a.stride (omega arith) c.0)
]

-- ---- the ends of all axes
pub lows : List Axis → List ℕ
lows axes = map low_index axes

pub highs : List Axis → List ℕ
highs axes = map high_index axes

lows_index : (axes : List Axis) → 0 < cell_count (extents axes) → IsIndex axes (lows axes)
unfolding lows
lows_index [] h = tt
lows_index (a ∷ axes) h = let some = both_some a.extent (cell_count (extents axes)) h in (low_there a some.0, lows_index axes some.1)

highs_index : (axes : List Axis) → 0 < cell_count (extents axes) → IsIndex axes (highs axes)
unfolding highs
highs_index [] h = tt
highs_index (a ∷ axes) h = let some = both_some a.extent (cell_count (extents axes)) h in (high_there a some.0, highs_index axes some.1)

lows_least : (o p : ℤ) (axes : List Axis) (us : List ℕ) → o ≤ℤ p → IsIndex axes us → place_at o axes (lows axes) ≤ℤ place_at p axes us
unfolding lows
lows_least o p [] us h k = h
lows_least o p (a ∷ axes) [] h k = absurd k
lows_least o p (a ∷ axes) (u ∷ us) h k =
    lows_least (o +ℤ pos (low_index a) *ℤ a.stride) (p +ℤ pos u *ℤ a.stride) axes us (omega (arith, ints, h, low_below a u k.0)) k.1

highs_greatest : (o p : ℤ) (axes : List Axis) (us : List ℕ) → p ≤ℤ o → IsIndex axes us → place_at p axes us ≤ℤ place_at o axes (highs axes)
unfolding highs
highs_greatest o p [] us h k = h
highs_greatest o p (a ∷ axes) [] h k = absurd k
highs_greatest o p (a ∷ axes) (u ∷ us) h k =
    highs_greatest (o +ℤ pos (high_index a) *ℤ a.stride) (p +ℤ pos u *ℤ a.stride) axes us (omega (arith, ints, h, high_above a u k.0)) k.1

-- ---- places that are found an axis after another
one_end : (size o i r : ℕ) (a : Axis) (axes : List Axis) → size ≤ 67108864 → 0 < cell_count (extents (a ∷ axes)) → i < a.extent
    → ((m : ℕ) → m < 2 ^ 64 → pos o +ℤ pos i *ℤ a.stride ≡ pos m → r ≡ m)
    → Reaches size (pos o) (a ∷ axes) → (pos o +ℤ pos i *ℤ a.stride ≡ pos r) × Reaches size (pos r) axes
one_end size o i r a axes limit some there exact reaches =
    let rest = picked_reaches size (pos o) (a ∷ axes) 0 i (omega arith) there reaches in
    let found = first_cell size (pos o +ℤ pos i *ℤ a.stride) axes (both_some a.extent (cell_count (extents axes)) some).1 rest in
    let is : pos o +ℤ pos i *ℤ a.stride ≡ pos r = found.1 ∙ ap (λ m. pos m) (sym (exact found.0 (omega (arith, found.2)) found.1)) in
    (is, subst (λ z. Reaches size z axes) is rest)

module _ (size o : ℕ) (limit : size ≤ 67108864) (x y z : Axis) (cells : AreCells size (places_of (pos o) (x ∷ y ∷ z ∷ [])))
    (some : 0 < cell_count (extents (x ∷ y ∷ z ∷ []))) where
  three_ends : (i j k a b c : ℕ) → i < x.extent → j < y.extent → k < z.extent
      → ((m : ℕ) → m < 2 ^ 64 → pos o +ℤ pos i *ℤ x.stride ≡ pos m → a ≡ m)
      → ((m : ℕ) → m < 2 ^ 64 → pos a +ℤ pos j *ℤ y.stride ≡ pos m → b ≡ m)
      → ((m : ℕ) → m < 2 ^ 64 → pos b +ℤ pos k *ℤ z.stride ≡ pos m → c ≡ m)
      → place_at (pos o) (x ∷ y ∷ z ∷ []) (i ∷ j ∷ k ∷ []) ≡ pos c
  three_ends i j k a b c hi hj hk ea eb ec =
      let others = both_some x.extent (cell_count (extents (y ∷ z ∷ []))) some in
      let last = both_some y.extent (cell_count (extents (z ∷ []))) others.1 in
      let one = one_end size o i a x (y ∷ z ∷ []) limit some hi ea (reached size (pos o) (x ∷ y ∷ z ∷ []) cells) in
      let two = one_end size a j b y (z ∷ []) limit others.1 hj eb one.1 in
      let three = one_end size b k c z [] limit last.1 hk ec two.1 in
      ap (λ p. (p +ℤ pos j *ℤ y.stride) +ℤ pos k *ℤ z.stride) one.0 ∙ ap (λ p. p +ℤ pos k *ℤ z.stride) two.0 ∙ three.0

  ends_there : (0 < x.extent) × (0 < y.extent) × (0 < z.extent)
  ends_there =
      let others = both_some x.extent (cell_count (extents (y ∷ z ∷ []))) some in
      let last = both_some y.extent (cell_count (extents (z ∷ []))) others.1 in
      (others.0, last.0, (both_some z.extent 1 last.1).0)

  module _ (f : ℤ → Cell) (abs : (z : ℤ) → (f z).place ≡ unsigned_abs z) (low high : ℕ)
      (low_is : place_at (pos o) (x ∷ y ∷ z ∷ []) (lows (x ∷ y ∷ z ∷ [])) ≡ pos low)
      (high_is : place_at (pos o) (x ∷ y ∷ z ∷ []) (highs (x ∷ y ∷ z ∷ [])) ≡ pos high) where
    abbrev axes : List Axis
    axes = x ∷ y ∷ z ∷ []

    abbrev found : List ℕ
    found = spread (λ z. unsigned_abs z) (pos o) axes

    place_found : (us : List ℕ) (d : ℕ) → IsIndex axes us → get_or found (position axes us) d ≡ unsigned_abs (place_at (pos o) axes us)
    place_found us d h = get_spread (λ z. unsigned_abs z) d (pos o) axes us h

    found_length : length found ≡ cell_count (extents axes)
    found_length = length_spread (λ z. unsigned_abs z) (pos o) axes

    in_found : (us : List ℕ) (p : ℕ) → IsIndex axes us → place_at (pos o) axes us ≡ pos p → (k : ℕ) × (k < length found) × (get_or found k p ≡ p)
    in_found us p h e =
        (position axes us, omega (arith, found_length, position_below axes us h), place_found us p h ∙ ap (λ z. unsigned_abs z) e)

    between : (k d : ℕ) → k < length found → (low ≤ get_or found k d) × (get_or found k d ≤ high)
    between k d less =
        let at = index_of axes k (omega (arith, found_length)) in
        let is : get_or found k d ≡ unsigned_abs (place_at (pos o) axes at.0) =
        ap (λ m. get_or found m d) (sym at.2) ∙ place_found at.0 d at.1 in
        let inside = (reached size (pos o) axes cells).inside at.0 at.1 in
        let placed : pos (unsigned_abs (place_at (pos o) axes at.0)) ≡ place_at (pos o) axes at.0 = pos_of (place_at (pos o) axes at.0) inside.0 in
        let below = lows_least (pos o) (pos o) axes at.0 (omega (arith, ints)) at.1 in
        let above = highs_greatest (pos o) (pos o) axes at.0 (omega (arith, ints)) at.1 in
        (omega (arith, ints, is, placed, below, low_is), omega (arith, ints, is, placed, above, high_is))

    pub extent_is : IsExtent (spread f (pos o) (x ∷ y ∷ z ∷ [])) (Some (low, high))
    extent_is =
        rw (placed_spread f abs (pos o) axes)
        (in_found (lows axes) low (lows_index axes some) low_is, (λ k d less. (between k d less).0), in_found (highs axes) high (highs_index axes some) high_is, (λ k d less. (between k d less).1))

  pub lows_found : (a b c : ℕ)
      → ((m : ℕ) → m < 2 ^ 64 → pos o +ℤ pos (low_index x) *ℤ x.stride ≡ pos m → a ≡ m)
      → ((m : ℕ) → m < 2 ^ 64 → pos a +ℤ pos (low_index y) *ℤ y.stride ≡ pos m → b ≡ m)
      → ((m : ℕ) → m < 2 ^ 64 → pos b +ℤ pos (low_index z) *ℤ z.stride ≡ pos m → c ≡ m)
      → place_at (pos o) (x ∷ y ∷ z ∷ []) (lows (x ∷ y ∷ z ∷ [])) ≡ pos c
  unfolding lows
  lows_found a b c ea eb ec =
      three_ends (low_index x) (low_index y) (low_index z) a b c (low_there x ends_there.0) (low_there y ends_there.1) (low_there z ends_there.2) ea eb ec

  pub highs_found : (a b c : ℕ)
      → ((m : ℕ) → m < 2 ^ 64 → pos o +ℤ pos (high_index x) *ℤ x.stride ≡ pos m → a ≡ m)
      → ((m : ℕ) → m < 2 ^ 64 → pos a +ℤ pos (high_index y) *ℤ y.stride ≡ pos m → b ≡ m)
      → ((m : ℕ) → m < 2 ^ 64 → pos b +ℤ pos (high_index z) *ℤ z.stride ≡ pos m → c ≡ m)
      → place_at (pos o) (x ∷ y ∷ z ∷ []) (highs (x ∷ y ∷ z ∷ [])) ≡ pos c
  unfolding highs
  highs_found a b c ea eb ec =
      three_ends (high_index x) (high_index y) (high_index z) a b c (high_there x ends_there.0) (high_there y ends_there.1) (high_there z ends_there.2) ea eb ec
