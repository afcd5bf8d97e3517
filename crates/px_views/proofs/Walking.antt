-- A place that is found an axis after another is the cell that the indices pick.
use Rattle.std.proofs.Common.{◌≡◌, ℕ, ℤ, pos, ◌+◌, ◌-◌, ◌<◌, ◌≤◌, List, [], ◌∷◌, length, refl, sym, ◌∙◌, ap, arith, Bool, true, false, Result, Option, Some, None}
use Rattle.std.specs.Prelude.{negsuc, ◌+ℤ◌, ◌*ℤ◌, nat_lt, ◌&&◌, if◌then◌else◌, unsigned_abs}
use Rattle.std.specs.Result.{result_map_both}
use Rattle.std.proofs.lemmas.Bool.{ltb-true}
use Rattle.px_base.specs.declared.faults.Fault.{Fault}
use Rattle.px_model.specs.declared.cells.Cell.{Cell}
use Rattle.px_model.specs.Sequences.{item_index}
use Rattle.px_model.specs.Views.{along, at_index, indexed, items_picked, nth_row}
use Rattle.px_views.specs.declared.axes.Axis.{Axis}
use Rattle.px_views.specs.Strides.{extents, spread, wrapped_place}
use Rattle.px_views.specs.Walks.{walk}
use Rattle.px_views.proofs.Numbers.{exact}
use Rattle.px_views.proofs.Spreads.{indexed_spread}
use Rattle.px_views.proofs.Indices.{Reaches}
use Rattle.px_views.proofs.Carried.{picked_reaches}
use Rattle.px_views.proofs.Picks.{settled_reaches, settled_spread}

-- the cell of a buffer
abbrev pub cell_of : ℕ → ℤ → Cell
cell_of buffer place = record { buffer = buffer; place = unsigned_abs place }

-- an index that names an item is in range
if_some : (b : Bool) (v i : ℕ) → (if b then Some v else None) ≡ Some i → (b ≡ true) × (v ≡ i)
if_some true v i e = (refl, cc)
if_some false v i e = cc

both_true : (a b : Bool) → (a && b) ≡ true → b ≡ true
both_true true b e = e
both_true false b e = cc

pub item_below : (n : ℕ) (w : Bool) (at : ℤ) (i : ℕ) → item_index n w at ≡ Some i → i < n
item_below n w (pos k) i e =
    let found = if_some (nat_lt k n) k i e in
    omega (arith, found.1, ltb-true k n found.0)
item_below n w (negsuc k) i e =
    let found = if_some (w && nat_lt k n) (n - (k + 1)) i e in
    omega (arith, found.1, ltb-true k n (both_true w (nat_lt k n) found.0))

abbrev given : ℕ → Result ℕ Fault → Result (List Cell) Fault
given buffer r = result_map_both (λ place. record { buffer = buffer; place = place } ∷ []) (λ fault. fault) r

pub first_indexed : (f : ℤ → Cell) (i : ℕ) (o : ℤ) (a : Axis) (axes : List Axis)
    → indexed 0 i (record { shape = extents (a ∷ axes); cells = spread f o (a ∷ axes) })
    ≡ record { shape = extents axes; cells = along (nth_row i) 0 (extents (a ∷ axes)) (spread f o (a ∷ axes)) }
unfolding indexed
first_indexed f i o a axes = refl

module _ (size buffer : ℕ) (limit : size ≤ 67108864) (w : Bool) where
  -- a step along the first axis, where `go` is the way along the others
  walk_step : (number : ℕ) (a : Axis) (axes : List Axis) (at : ℤ) (ats : List ℤ) (o : ℕ) → Reaches size (pos o) (a ∷ axes)
      → ((p : ℕ) → Reaches size (pos p) axes
      → given buffer (walk (number + 1) w axes ats p)
      ≡ items_picked (number + 1) w ats (record { shape = extents axes; cells = spread (cell_of buffer) (pos p) axes }))
      → (found : Option ℕ) → item_index a.extent w at ≡ found
      → given buffer (at_index number found (λ i. walk (number + 1) w axes ats (wrapped_place o i a.stride)))
      ≡ at_index number found (λ i. items_picked (number + 1) w ats (indexed 0 i (record { shape = extents (a ∷ axes); cells = spread (cell_of buffer) (pos o) (a ∷ axes) })))
  walk_step number a axes at ats o reaches go None e = refl
  walk_step number a axes at ats o reaches go (Some i) e =
      let below : i < a.extent = item_below a.extent w at i e in
      let p : ℕ = wrapped_place o i a.stride in
      let z : ℤ = pos o +ℤ pos i *ℤ a.stride in
      let next : Reaches size z axes = picked_reaches size (pos o) (a ∷ axes) 0 i (omega arith) below reaches in
      go p (settled_reaches size limit z axes p (λ m. exact o i m a.stride) next)
      ∙ ap (λ cells. items_picked (number + 1) w ats (record { shape = extents axes; cells = cells }))
      (settled_spread size limit z axes p (λ m. exact o i m a.stride) next (cell_of buffer)
      ∙ sym (indexed_spread (cell_of buffer) (pos o) (a ∷ axes) 0 i (omega arith) below))
      ∙ ap (items_picked (number + 1) w ats) (sym (first_indexed (cell_of buffer) i (pos o) a axes))

  pub walk_is : (number : ℕ) (axes : List Axis) (ats : List ℤ) (o : ℕ) → length ats ≡ length axes → Reaches size (pos o) axes
      → given buffer (walk number w axes ats o)
      ≡ items_picked number w ats (record { shape = extents axes; cells = spread (cell_of buffer) (pos o) axes })
  walk_is number [] [] o same reaches = refl
  walk_is number [] (at ∷ ats) o same reaches = absurd (omega (arith, same))
  walk_is number (a ∷ axes) [] o same reaches = absurd (omega (arith, same))
  walk_is number (a ∷ axes) (at ∷ ats) o same reaches =
      walk_step number a axes at ats o reaches (λ p next. walk_is (number + 1) axes ats p (omega (arith, same)) next)
      (item_index a.extent w at) refl
