-- The axes of a view, and the way along them.
use Rattle.std.proofs.Common.{◌≡◌, ℕ, ℤ, pos, suc, ◌+◌, ◌<◌, ◌≤◌, List, ◌∷◌, length, get_or, take, drop, sym, ◌∙◌, ap, arith, Bool, Ok, Option, Some, drop-cons}
use Rattle.std.proofs.lemmas.List.{drop_all, get_or-map, get_or-take, get_or_past, length-take-le}
use Rattle.std.proofs.lemmas.List.FromFn.{get_or-map-range_with_len, length-map-range_with_len}
use Rattle.px_model.specs.Sequences.{item_index}
use Rattle.px_model.specs.Views.{at_index, element_of, indexed, pick_of}
use Rattle.px_views.specs.declared.axes.Axis.{Axis}
use Rattle.px_views.specs.declared.strided.StridedView.{StridedView}
use Rattle.px_views.specs.Cells.{axes_in, cell_given, view_cells}
use Rattle.px_views.specs.Strides.{axis_at, no_axis, wrapped_place}
use Rattle.px_views.specs.Walks.{walk}
use Rattle.px_views.proofs.Indices.{reached}
use Rattle.px_views.proofs.Walking.{walk_is}

module _ (v : StridedView) where
  pub rank_length : length (axes_in v) ≡ v.rank
  rank_length = length-map-range_with_len _ 0 v.rank

  pub axis_there : (n : ℕ) → n < v.rank → axis_at (axes_in v) n ≡ record { extent = get_or v.shape n 0; stride = get_or v.strides n (pos 0) }
  axis_there n h = get_or-map-range_with_len (λ a. record { extent = get_or v.shape a 0; stride = get_or v.strides a (pos 0) }) 0 v.rank n n no_axis h (omega arith)

  pub axis_beyond : (n : ℕ) → v.rank ≤ n → axis_at (axes_in v) n ≡ no_axis
  axis_beyond n h = get_or_past (axes_in v) n no_axis (omega (arith, rank_length))

  pub extent_of : (n : ℕ) → n < v.rank → get_or (view_cells v).shape n 0 ≡ (axis_at (axes_in v) n).extent
  unfolding view_cells
  extent_of n h = get_or-map (λ a. a.extent) (axes_in v) n no_axis 0 (omega (arith, rank_length))

  -- an index on one axis
  pub picks : (n : ℕ) (at : ℤ) (w : Bool) (found : Option ℕ) → n < v.rank → item_index (axis_at (axes_in v) n).extent w at ≡ found
      → pick_of (view_cells v) n at w ≡ at_index n found (λ i. Ok (indexed n i (view_cells v)))
  unfolding pick_of
  picks n at w found h e =
      ap (λ m. at_index n (item_index m w at) (λ i. Ok (indexed n i (view_cells v)))) (extent_of n h)
      ∙ ap (λ f. at_index n f (λ i. Ok (indexed n i (view_cells v)))) e

  -- behind the last axis the place is found
  pub walk_end : (w : Bool) (n p : ℕ) (is : List ℤ) → v.rank ≤ n → walk n w (drop n (axes_in v)) is p ≡ Ok p
  walk_end w n p is h = ap (λ axes. walk n w axes is p) (drop_all n (axes_in v) (omega (arith, rank_length)))

  -- an index on each axis
  module _ (w : Bool) (ats : List ℤ) (enough : v.rank ≤ length ats) where
    pub walk_some : (n i p from : ℕ) → n < v.rank → item_index (get_or v.shape n 0) w (get_or ats n (pos 0)) ≡ Some i
        → p ≡ wrapped_place from i (get_or v.strides n (pos 0))
        → walk (n + 1) w (drop (suc n) (axes_in v)) (drop (suc n) (take v.rank ats)) p ≡ walk n w (drop n (axes_in v)) (drop n (take v.rank ats)) from
    walk_some n i p from h e q =
        let axis : Axis = record { extent = get_or v.shape n 0; stride = get_or v.strides n (pos 0) } in
        let axes : drop n (axes_in v) ≡ axis ∷ drop (suc n) (axes_in v) =
        drop-cons (axes_in v) n no_axis (omega (arith, rank_length)) ∙ ap (λ a. a ∷ drop (suc n) (axes_in v)) (axis_there n h) in
        let items : drop n (take v.rank ats) ≡ get_or ats n (pos 0) ∷ drop (suc n) (take v.rank ats) =
        drop-cons (take v.rank ats) n (pos 0) (omega (arith, length-take-le v.rank ats enough))
        ∙ ap (λ a. a ∷ drop (suc n) (take v.rank ats)) (get_or-take v.rank ats n (pos 0) h) in
        ap (walk (n + 1) w (drop (suc n) (axes_in v)) (drop (suc n) (take v.rank ats))) q
        ∙ ap (λ f. at_index n f (λ i. walk (n + 1) w (drop (suc n) (axes_in v)) (drop (suc n) (take v.rank ats)) (wrapped_place from i axis.stride))) (sym e)
        ∙ ap (λ xs. walk n w (axis ∷ drop (suc n) (axes_in v)) xs from) (sym items)
        ∙ ap (λ xs. walk n w xs (drop n (take v.rank ats)) from) (sym axes)

    pub walked : cell_given v.buffer (walk 0 w (axes_in v) (take v.rank ats) v.offset) ≡ element_of (view_cells v) (take v.rank ats) w
    unfolding element_of view_cells
    walked =
        walk_is v.size v.buffer v.limit w 0 (axes_in v) (take v.rank ats) v.offset
        (omega (arith, rank_length, length-take-le v.rank ats enough)) (reached v.size (pos v.offset) (axes_in v) v.cells)
