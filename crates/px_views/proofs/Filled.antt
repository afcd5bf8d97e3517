-- Axes that are filled up to three by axes of one item.
use Rattle.std.proofs.Common.{◌≡◌, ℕ, ℤ, pos, zero, suc, ◌+◌, ◌-◌, ◌<◌, ◌≤◌, List, [], ◌∷◌, ◌++◌, length, take, replicate, refl, sym, ◌∙◌, ap, subst, arith}
use Rattle.std.specs.Prelude.{◌+ℤ◌, ◌*ℤ◌, insert, remove, slice_set}
use Rattle.px_views.specs.declared.axes.Axis.{Axis}
use Rattle.px_views.specs.Strides.{AreCells, axes_of, no_axis, places_of, spread, step_sizes}
use Rattle.px_views.specs.Triples.{triple}
use Rattle.px_views.proofs.Lists.{flat_map_same}
use Rattle.px_views.proofs.Spreads.{widened_spread}

pub pads : {X : Type 0} (f : ℤ → X) (o : ℤ) (axes : List Axis) (n : ℕ) → spread f o (axes ++ replicate n no_axis) ≡ spread f o axes
pads f o [] zero = refl
pads f o [] (suc n) = widened_spread f o (replicate n no_axis) 0 (pos 0) (omega arith) ∙ pads f o [] n
pads f o (a ∷ axes) n =
    flat_map_same (λ i. spread f (o +ℤ pos i *ℤ a.stride) (axes ++ replicate n no_axis)) (λ i. spread f (o +ℤ pos i *ℤ a.stride) axes) 0 a.extent
    (λ i low high. pads f (o +ℤ pos i *ℤ a.stride) axes n)

triple_is : (axes : List Axis) → length axes ≤ 3 → triple axes ≡ axes ++ replicate (3 - length axes) no_axis
triple_is [] h = refl
triple_is (x ∷ []) h = refl
triple_is (x ∷ y ∷ []) h = refl
triple_is (x ∷ y ∷ z ∷ []) h = refl
triple_is (x ∷ y ∷ z ∷ a ∷ axes) h = absurd (omega arith)

pub filled_spread : {X : Type 0} (f : ℤ → X) (o : ℤ) (axes : List Axis) → length axes ≤ 3 → spread f o (triple axes) ≡ spread f o axes
filled_spread f o axes h = ap (spread f o) (triple_is axes h) ∙ pads f o axes (3 - length axes)

pub filled_cells : (size : ℕ) (o : ℤ) (axes : List Axis) → length axes ≤ 3 → AreCells size (places_of o axes) → AreCells size (places_of o (triple axes))
unfolding places_of
filled_cells size o axes h cells = subst (AreCells size) (sym (filled_spread (λ p. p) o axes h)) cells

pub filled_sizes : (axes : List Axis) → length axes ≤ 3 → step_sizes (triple axes) ≡ step_sizes axes
filled_sizes [] h = refl
filled_sizes (x ∷ []) h = refl
filled_sizes (x ∷ y ∷ []) h = refl
filled_sizes (x ∷ y ∷ z ∷ []) h = refl
filled_sizes (x ∷ y ∷ z ∷ a ∷ axes) h = absurd (omega arith)

-- ---- the first axes of three
pub taken : (axes : List Axis) → length axes ≤ 3 → take (length axes) (triple axes) ≡ axes
taken [] h = refl
taken (x ∷ []) h = refl
taken (x ∷ y ∷ []) h = refl
taken (x ∷ y ∷ z ∷ []) h = refl
taken (x ∷ y ∷ z ∷ a ∷ axes) h = absurd (omega arith)

pub without_taken : (axes : List Axis) (n : ℕ) → length axes ≤ 3 → n < length axes
    → take (length axes - 1) (remove (triple axes) n ++ no_axis ∷ []) ≡ remove axes n
without_taken [] n h k = absurd (omega arith)
without_taken (x ∷ []) zero h k = refl
without_taken (x ∷ []) (suc n) h k = absurd (omega arith)
without_taken (x ∷ y ∷ []) zero h k = refl
without_taken (x ∷ y ∷ []) (suc zero) h k = refl
without_taken (x ∷ y ∷ []) (suc (suc n)) h k = absurd (omega arith)
without_taken (x ∷ y ∷ z ∷ []) zero h k = refl
without_taken (x ∷ y ∷ z ∷ []) (suc zero) h k = refl
without_taken (x ∷ y ∷ z ∷ []) (suc (suc zero)) h k = refl
without_taken (x ∷ y ∷ z ∷ []) (suc (suc (suc n))) h k = absurd (omega arith)
without_taken (x ∷ y ∷ z ∷ a ∷ axes) n h k = absurd (omega arith)

pub with_taken : (axes : List Axis) (n : ℕ) → length axes < 3 → n ≤ length axes
    → take (length axes + 1) (take 3 (insert (triple axes) n no_axis)) ≡ insert axes n no_axis
with_taken [] zero h k = refl
with_taken [] (suc n) h k = absurd (omega arith)
with_taken (x ∷ []) zero h k = refl
with_taken (x ∷ []) (suc zero) h k = refl
with_taken (x ∷ []) (suc (suc n)) h k = absurd (omega arith)
with_taken (x ∷ y ∷ []) zero h k = refl
with_taken (x ∷ y ∷ []) (suc zero) h k = refl
with_taken (x ∷ y ∷ []) (suc (suc zero)) h k = refl
with_taken (x ∷ y ∷ []) (suc (suc (suc n))) h k = absurd (omega arith)
with_taken (x ∷ y ∷ z ∷ axes) n h k = absurd (omega arith)

pub replaced_taken : (axes : List Axis) (n : ℕ) (b : Axis) → length axes ≤ 3 → n < length axes
    → take (length axes) (slice_set (triple axes) n b) ≡ slice_set axes n b
replaced_taken [] n b h k = absurd (omega arith)
replaced_taken (x ∷ []) zero b h k = refl
replaced_taken (x ∷ []) (suc n) b h k = absurd (omega arith)
replaced_taken (x ∷ y ∷ []) zero b h k = refl
replaced_taken (x ∷ y ∷ []) (suc zero) b h k = refl
replaced_taken (x ∷ y ∷ []) (suc (suc n)) b h k = absurd (omega arith)
replaced_taken (x ∷ y ∷ z ∷ []) zero b h k = refl
replaced_taken (x ∷ y ∷ z ∷ []) (suc zero) b h k = refl
replaced_taken (x ∷ y ∷ z ∷ []) (suc (suc zero)) b h k = refl
replaced_taken (x ∷ y ∷ z ∷ []) (suc (suc (suc n))) b h k = absurd (omega arith)
replaced_taken (x ∷ y ∷ z ∷ a ∷ axes) n b h k = absurd (omega arith)

-- the axes that are kept as extents and strides
assembled : (rank : ℕ) (x y z : Axis) → rank ≤ 3
    → axes_of rank (x.extent ∷ y.extent ∷ z.extent ∷ []) (x.stride ∷ y.stride ∷ z.stride ∷ []) ≡ take rank (x ∷ y ∷ z ∷ [])
assembled zero x y z h = refl
assembled (suc zero) x y z h = refl
assembled (suc (suc zero)) x y z h = refl
assembled (suc (suc (suc zero))) x y z h = refl
assembled (suc (suc (suc (suc n)))) x y z h = absurd (omega arith)

pub kept : (rank : ℕ) (x y z : Axis) (a b c : ℤ) → rank ≤ 3 → a ≡ x.stride → b ≡ y.stride → c ≡ z.stride
    → axes_of rank (x.extent ∷ y.extent ∷ z.extent ∷ []) (a ∷ b ∷ c ∷ []) ≡ take rank (x ∷ y ∷ z ∷ [])
kept rank x y z a b c h ea eb ec =
    ap (λ s. axes_of rank (x.extent ∷ y.extent ∷ z.extent ∷ []) (s ∷ b ∷ c ∷ [])) ea
    ∙ ap (λ s. axes_of rank (x.extent ∷ y.extent ∷ z.extent ∷ []) (x.stride ∷ s ∷ c ∷ [])) eb
    ∙ ap (λ s. axes_of rank (x.extent ∷ y.extent ∷ z.extent ∷ []) (x.stride ∷ y.stride ∷ s ∷ [])) ec
    ∙ assembled rank x y z h
