-- Which items of a sequence of some length an index and a slice pick (Python Language Reference, 3.3.7 Emulating container types
-- and `slice.indices`; Python Library Reference, Common Sequence Operations, notes 3 to 5).
use Rattle.std.specs.Prelude.{ℕ, ◌+◌, ◌-◌, ℤ, pos, negsuc, ◌+ℤ◌, ◌-ℤ◌, ◌*ℤ◌, int_lt, unsigned_abs, Bool, nat_lt, ◌&&◌, if◌then◌else◌, Option, Some, None, List, map}
use Rattle.std.specs.Int.{div_ceil, int_max, int_min}
use Rattle.std.specs.List.{range_with_len}

-- The item that an index names. An index below 0 counts from the end where `wraparound` is on (Cython user guide, Compiler
-- directives), and is out of range where it is off.
abbrev pub item_index : ℕ → Bool → ℤ → Option ℕ
item_index length wraparound (pos i) = if nat_lt i length then Some i else None
item_index length wraparound (negsuc i) = if wraparound && nat_lt i length then Some (length - (i + 1)) else None

-- the number, or 0 where it is below 0
abbrev pub above_zero : ℤ → ℕ
above_zero (pos n) = n
above_zero (negsuc n) = 0

-- whether a slice with this step goes up
abbrev pub goes_up : ℤ → Bool
goes_up step = int_lt (pos 0) step

-- a bound below 0 is relative to the end
abbrev pub from_end : ℕ → ℤ → ℤ
from_end length (pos bound) = pos bound
from_end length (negsuc bound) = pos length +ℤ negsuc bound

-- The ends to which a bound is reduced: 0 and the length of a slice that goes up. One that goes down begins at the last item
-- at most, and ends past the first.
abbrev pub lowest : Bool → ℤ
lowest up = if up then pos 0 else negsuc 0

abbrev pub highest : ℕ → Bool → ℤ
highest length up = if up then pos length else pos length -ℤ pos 1

abbrev pub clipped : ℕ → Bool → ℤ → ℤ
clipped length up bound = int_max (lowest up) (int_min (highest length up) (from_end length bound))

-- where a slice begins, and where it stops, which is past its last item; a bound that is left out is the end on its side
abbrev pub slice_start : ℕ → Bool → Option ℤ → ℤ
slice_start length up (Some bound) = clipped length up bound
slice_start length up None = if up then lowest up else highest length up

abbrev pub slice_stop : ℕ → Bool → Option ℤ → ℤ
slice_stop length up (Some bound) = clipped length up bound
slice_stop length up None = if up then highest length up else lowest up

-- how far it goes, in the direction of its step
abbrev pub slice_distance : Bool → ℤ → ℤ → ℕ
slice_distance up start stop = above_zero (if up then stop -ℤ start else start -ℤ stop)

-- the items start, start + step, start + 2 * step and so on that it comes to before `stop`
abbrev pub stepped : ℤ → ℤ → ℤ → List ℕ
stepped start stop step =
    map (λ m. unsigned_abs (start +ℤ pos m *ℤ step)) (range_with_len 0 (div_ceil (slice_distance (goes_up step) start stop) (unsigned_abs step)))

-- the items of a sequence that a slice picks, in its order; its step isn't 0
unfoldable pub slice_indices : ℕ → Option ℤ → Option ℤ → ℤ → List ℕ
slice_indices length from to step = stepped (slice_start length (goes_up step) from) (slice_stop length (goes_up step) to) step
