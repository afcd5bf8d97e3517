-- What stands at the places that strides reach from an offset.
use Rattle.std.specs.Prelude.{◌≡◌, ◌<◌, ℕ, ◌-◌, ◌^◌, ℤ, pos, ◌+ℤ◌, ◌*ℤ◌, ◌≤ℤ◌, ◌<ℤ◌, nat_lt, int_lt, if◌then◌else◌, unsigned_abs, List, [], ◌∷◌, length, map, filter, slice_index, slice_index_or}
use Rattle.std.specs.Int.{int_rem_euclid}
use Rattle.std.specs.List.{flat_map, range_with_len}
use Rattle.px_views.specs.declared.axes.Axis.{Axis}

-- the axes of a view: the first ones of its extents and strides
abbrev pub axes_of : ℕ → List ℕ → List ℤ → List Axis
axes_of rank shape strides =
    map (λ a. record { extent = slice_index shape a; stride = slice_index_or strides a (pos 0) }) (range_with_len 0 rank)

-- an axis that isn't there has one item
abbrev pub no_axis : Axis
no_axis = record { extent = 1; stride = pos 0 }

-- the axis of a number
abbrev pub axis_at : List Axis → ℕ → Axis
axis_at axes a = slice_index_or axes a no_axis

-- the shape that axes have
abbrev pub extents : List Axis → List ℕ
extents axes = map (λ axis. axis.extent) axes

-- the items at the places that axes reach from a place, in row-major order: an index moves on by so many strides
abbrev pub spread : {X : Type 0} → (ℤ → X) → ℤ → List Axis → List X
spread item from [] = item from ∷ []
spread item from (axis ∷ axes) =
    flat_map (λ i. spread item (from +ℤ pos i *ℤ axis.stride) axes) (range_with_len 0 axis.extent)

-- those places
unfoldable pub places_of : ℤ → List Axis → List ℤ
places_of from axes = spread (λ place. place) from axes

-- all places stand in a buffer of this size, and they are all distinct
pub record AreCells (size : ℕ) (places : List ℤ) : Type 0 where
  pub inside : (k : ℕ) → k < length places → (pos 0 ≤ℤ slice_index_or places k (pos 0)) × (slice_index_or places k (pos 0) <ℤ pos size)
  pub distinct : (j k : ℕ) → j < length places → k < length places → slice_index_or places j (pos 0) ≡ slice_index_or places k (pos 0) → j ≡ k

-- the strides, without sign, of the axes on which there are several items
abbrev pub step_sizes : List Axis → List ℕ
step_sizes axes = map (λ axis. unsigned_abs axis.stride) (filter (λ axis. nat_lt 1 axis.extent) axes)

-- the index of the item of the least place along an axis, and of the greatest place
abbrev pub low_index : Axis → ℕ
low_index axis = if int_lt axis.stride (pos 0) then axis.extent - 1 else 0

abbrev pub high_index : Axis → ℕ
high_index axis = if int_lt (pos 0) axis.stride then axis.extent - 1 else 0

-- the place that is so many strides further, modulo 2^64
unfoldable pub wrapped_place : ℕ → ℕ → ℤ → ℕ
wrapped_place from steps stride = unsigned_abs (int_rem_euclid (pos from +ℤ pos steps *ℤ stride) (pos (2 ^ 64)))
