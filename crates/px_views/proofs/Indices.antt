-- The places that axes reach, by an index on each of them.
use Rattle.std.proofs.Common.{◌≡◌, ℕ, ℤ, pos, zero, suc, ◌+◌, ◌*◌, ◌/◌, ◌%◌, ◌<◌, List, [], ◌∷◌, length, get_or, refl, sym, ◌∙◌, ap, subst, arith, mul-zero}
use Rattle.std.specs.Prelude.{◌+ℤ◌, ◌*ℤ◌, ◌≤ℤ◌, ◌<ℤ◌}
use Rattle.std.proofs.lemmas.Nat.{mul-add-lt, same_from_place, div-add-mod', mod_below, div_below}
use Rattle.std.proofs.Math.Nat.{mul_comm}
use Rattle.px_model.specs.Views.{cell_count}
use Rattle.px_views.specs.declared.axes.Axis.{Axis}
use Rattle.px_views.specs.Strides.{AreCells, extents, spread, places_of}
use Rattle.px_views.proofs.Lists.{get_flat}
use Rattle.px_views.proofs.Spreads.{length_spread}

-- an index for each axis, each in range
abbrev pub IsIndex : List Axis → List ℕ → Type 0
IsIndex [] [] = Unit {0}
IsIndex [] (i ∷ is) = ⊥
IsIndex (a ∷ axes) [] = ⊥
IsIndex (a ∷ axes) (i ∷ is) = (i < a.extent) × IsIndex axes is

-- the place that it names
abbrev pub place_at : ℤ → List Axis → List ℕ → ℤ
place_at o [] is = o
place_at o (a ∷ axes) [] = o
place_at o (a ∷ axes) (i ∷ is) = place_at (o +ℤ pos i *ℤ a.stride) axes is

-- its number in row-major order
abbrev pub position : List Axis → List ℕ → ℕ
position [] is = 0
position (a ∷ axes) [] = 0
position (a ∷ axes) (i ∷ is) = i * cell_count (extents axes) + position axes is

pub position_below : (axes : List Axis) (is : List ℕ) → IsIndex axes is → position axes is < cell_count (extents axes)
position_below [] [] h = omega arith
position_below [] (i ∷ is) h = absurd h
position_below (a ∷ axes) [] h = absurd h
position_below (a ∷ axes) (i ∷ is) h =
    let below : position axes is < cell_count (extents axes) = position_below axes is h.1 in
    omega (arith, mul-add-lt i (cell_count (extents axes)) (position axes is) a.extent h.0 below, mul_comm a.extent (cell_count (extents axes)))

pub get_spread : {X : Type 0} (f : ℤ → X) (d : X) (o : ℤ) (axes : List Axis) (is : List ℕ) → IsIndex axes is
    → get_or (spread f o axes) (position axes is) d ≡ f (place_at o axes is)
get_spread f d o [] [] h = refl
get_spread f d o [] (i ∷ is) h = absurd h
get_spread f d o (a ∷ axes) [] h = absurd h
get_spread f d o (a ∷ axes) (i ∷ is) h =
    get_flat (λ i. spread f (o +ℤ pos i *ℤ a.stride) axes) (cell_count (extents axes)) 0 a.extent i (position axes is) d
    (λ i. length_spread f (o +ℤ pos i *ℤ a.stride) axes) h.0 (position_below axes is h.1)
    ∙ ap (λ m. get_or (spread f (o +ℤ pos m *ℤ a.stride) axes) (position axes is) d) (omega arith)
    ∙ get_spread f d (o +ℤ pos i *ℤ a.stride) axes is h.1

pub position_injective : (axes : List Axis) (is js : List ℕ) → IsIndex axes is → IsIndex axes js → position axes is ≡ position axes js → is ≡ js
position_injective [] [] [] h k e = refl
position_injective [] [] (j ∷ js) h k e = absurd k
position_injective [] (i ∷ is) js h k e = absurd h
position_injective (a ∷ axes) [] js h k e = absurd h
position_injective (a ∷ axes) (i ∷ is) [] h k e = absurd k
position_injective (a ∷ axes) (i ∷ is) (j ∷ js) h k e =
    let same = same_from_place i (position axes is) j (position axes js) (cell_count (extents axes)) (position_below axes is h.1) (position_below axes js k.1) e in
    let rest = position_injective axes is js h.1 k.1 same.1 in
    ap (λ m. m ∷ is) same.0 ∙ ap (λ ms. j ∷ ms) rest

some_row : (n w k : ℕ) → k < n * w → 0 < w
some_row n zero k h = absurd (omega (arith, mul-zero n))
some_row n (suc w) k h = omega arith

-- the index of each number
pub index_of : (axes : List Axis) (k : ℕ) → k < cell_count (extents axes) → (is : List ℕ) × IsIndex axes is × (position axes is ≡ k)
index_of [] k h = ([], tt, omega arith)
index_of (a ∷ axes) k h =
    let w : ℕ = cell_count (extents axes) in
    let some : 0 < w = some_row a.extent w k h in
    let first : k / w < a.extent = div_below k w a.extent some h in
    let rest = index_of axes (k % w) (mod_below k w some) in
    ((k / w) ∷ rest.0, (first, rest.1), ap (λ m. k / w * w + m) rest.2 ∙ div-add-mod' k w)

-- what the axes reach from a place, by indices
pub record Reaches (size : ℕ) (o : ℤ) (axes : List Axis) : Type 0 where
  pub inside : (is : List ℕ) → IsIndex axes is → (pos 0 ≤ℤ place_at o axes is) × (place_at o axes is <ℤ pos size)
  pub distinct : (is js : List ℕ) → IsIndex axes is → IsIndex axes js → place_at o axes is ≡ place_at o axes js → is ≡ js

module _ (size : ℕ) (o : ℤ) (axes : List Axis) where
  length_places : length (places_of o axes) ≡ cell_count (extents axes)
  unfolding places_of
  length_places = length_spread (λ p. p) o axes

  get_places : (is : List ℕ) → IsIndex axes is → get_or (places_of o axes) (position axes is) (pos 0) ≡ place_at o axes is
  unfolding places_of
  get_places is h = get_spread (λ p. p) (pos 0) o axes is h

  pub reached : AreCells size (places_of o axes) → Reaches size o axes
  reached cells = record {
    inside = λ is h. rw (get_places is h) at (cells.inside (position axes is) (omega (arith, length_places, position_below axes is h)));
    distinct = λ is js h k e.
        position_injective axes is js h k
        (cells.distinct (position axes is) (position axes js) (omega (arith, length_places, position_below axes is h)) (omega (arith, length_places, position_below axes js k))
        (get_places is h ∙ e ∙ sym (get_places js k)));
  }

  pub cells_reached : Reaches size o axes → AreCells size (places_of o axes)
  cells_reached reaches = record {
    inside = λ k less.
        let found = index_of axes k (omega (arith, length_places)) in
        let P : ℕ → Type 0 = λ m. (pos 0 ≤ℤ get_or (places_of o axes) m (pos 0)) × (get_or (places_of o axes) m (pos 0) <ℤ pos size) in
        subst P found.2 (rw (get_places found.0 found.1) (reaches.inside found.0 found.1));
    distinct = λ j k jless kless e.
        let fj = index_of axes j (omega (arith, length_places)) in
        let fk = index_of axes k (omega (arith, length_places)) in
        let same : place_at o axes fj.0 ≡ place_at o axes fk.0 =
        sym (get_places fj.0 fj.1) ∙ ap (λ m. get_or (places_of o axes) m (pos 0)) fj.2 ∙ e
        ∙ ap (λ m. get_or (places_of o axes) m (pos 0)) (sym fk.2) ∙ get_places fk.0 fk.1 in
        sym fj.2 ∙ ap (position axes) (reaches.distinct fj.0 fk.0 fj.1 fk.1 same) ∙ fk.2;
  }
