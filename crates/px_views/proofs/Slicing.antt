-- Where a slice begins and stops, and which items it picks.
use Rattle.std.proofs.Common.{◌≡◌, ◌≢◌, ℕ, ℤ, pos, negsuc, zero, suc, ◌+◌, ◌*◌, ◌<◌, ◌≤◌, length, get_or, refl, ◌∙◌, ap, arith, Bool, true, false, Option, Some, None}
use Rattle.std.specs.Prelude.{◌+ℤ◌, ◌-ℤ◌, ◌*ℤ◌, ◌≤ℤ◌, ◌<ℤ◌, unsigned_abs}
use Rattle.std.specs.Int.{div_ceil}
use Rattle.std.proofs.lemmas.Int.{ints, clamps}
use Rattle.std.proofs.lemmas.Bool.{lt-ltb}
use Rattle.std.proofs.lemmas.Grind.{div_ceil_times}
use Rattle.std.proofs.lemmas.List.FromFn.{length-map-range_with_len, get_or-map-range_with_len}
use Rattle.std.proofs.Math.Nat.{mul-le-mul_right, mul_comm, suc-mul}
use Rattle.px_model.specs.Sequences.{above_zero, clipped, goes_up, highest, lowest, slice_distance, slice_indices, slice_start, slice_stop}

pub clipped_within : (n : ℕ) (up : Bool) (b : ℤ) → (lowest up ≤ℤ clipped n up b) × (clipped n up b ≤ℤ highest n up)
clipped_within n true b = (omega (arith, ints, clamps), omega (arith, ints, clamps))
clipped_within n false b = (omega (arith, ints, clamps), omega (arith, ints, clamps))

pub start_within : (n : ℕ) (up : Bool) (from : Option ℤ) → (lowest up ≤ℤ slice_start n up from) × (slice_start n up from ≤ℤ highest n up)
start_within n up (Some b) = clipped_within n up b
start_within n true None = (omega (arith, ints), omega (arith, ints))
start_within n false None = (omega (arith, ints), omega (arith, ints))

pub stop_within : (n : ℕ) (up : Bool) (to : Option ℤ) → (lowest up ≤ℤ slice_stop n up to) × (slice_stop n up to ≤ℤ highest n up)
stop_within n up (Some b) = clipped_within n up b
stop_within n true None = (omega (arith, ints), omega (arith, ints))
stop_within n false None = (omega (arith, ints), omega (arith, ints))

-- a quotient that is rounded up is no larger than what is divided
pub div_ceil_small : (a b : ℕ) → 0 < b → div_ceil a b ≤ a
div_ceil_small a b some = rounded (div_ceil a b) a b some (div_ceil_times a b some).1 where
  rounded : (q a b : ℕ) → 0 < b → q * b < a + b → q ≤ a
  rounded zero a b some h = omega arith
  rounded (suc q) a b some h =
      let more : 1 * q ≤ b * q = mul-le-mul_right q some in
      omega (arith, suc-mul q b, mul_comm q b)

-- the steps of a slice don't pass its distance
pub steps_below : (d k m : ℕ) → 0 < k → m < div_ceil d k → m * k < d
steps_below d k m some h =
    let up : suc m * k ≤ div_ceil d k * k = mul-le-mul_right k (omega arith) in
    omega (arith, suc-mul m k, (div_ceil_times d k some).1)

above_is : (k : ℕ) (z : ℤ) → k < above_zero z → pos k <ℤ z
above_is k (pos n) h = omega (arith, ints)
above_is k (negsuc n) h = absurd (omega arith)

-- an item of a slice is one of the sequence
item_within : (n : ℕ) (start stop step : ℤ) (up : Bool) → goes_up step ≡ up → step ≢ pos 0
    → lowest up ≤ℤ start → start ≤ℤ highest n up → lowest up ≤ℤ stop → stop ≤ℤ highest n up
    → (m : ℕ) → m < div_ceil (slice_distance up start stop) (unsigned_abs step)
    → (pos 0 ≤ℤ (start +ℤ pos m *ℤ step)) × ((start +ℤ pos m *ℤ step) <ℤ pos n)
item_within n start stop (pos zero) up is nonzero a b c d m h = absurd (nonzero refl)
item_within n start stop (pos (suc k)) false is nonzero a b c d m h = absurd (cc (lt-ltb 0 (suc k) (omega arith)))
item_within n start stop (pos (suc k)) true is nonzero a b c d m h =
    let far : m * suc k < above_zero (stop -ℤ start) = steps_below (above_zero (stop -ℤ start)) (suc k) m (omega arith) h in
    let gap : pos (m * suc k) <ℤ (stop -ℤ start) = above_is (m * suc k) (stop -ℤ start) far in
    (omega (arith, ints), omega (arith, ints))
item_within n start stop (negsuc k) true is nonzero a b c d m h = cc
item_within n start stop (negsuc k) false is nonzero a b c d m h =
    let far : m * suc k < above_zero (start -ℤ stop) = steps_below (above_zero (start -ℤ stop)) (suc k) m (omega arith) h in
    let gap : pos (m * suc k) <ℤ (start -ℤ stop) = above_is (m * suc k) (start -ℤ stop) far in
    (omega (arith, ints), omega (arith, ints))

pos_abs : (z : ℤ) → pos 0 ≤ℤ z → pos (unsigned_abs z) ≡ z
pos_abs (pos n) h = refl
pos_abs (negsuc n) h = absurd (omega (arith, ints))

module _ (n : ℕ) (from to : Option ℤ) (step : ℤ) where
  pub picked_number : length (slice_indices n from to step)
      ≡ div_ceil (slice_distance (goes_up step) (slice_start n (goes_up step) from) (slice_stop n (goes_up step) to)) (unsigned_abs step)
  unfolding slice_indices
  picked_number = length-map-range_with_len _ 0 _

  module _ (nonzero : step ≢ pos 0) (m : ℕ) (h : m < length (slice_indices n from to step)) where
    within : (pos 0 ≤ℤ (slice_start n (goes_up step) from +ℤ pos m *ℤ step)) × ((slice_start n (goes_up step) from +ℤ pos m *ℤ step) <ℤ pos n)
    within =
        let s = start_within n (goes_up step) from in
        let t = stop_within n (goes_up step) to in
        item_within n (slice_start n (goes_up step) from) (slice_stop n (goes_up step) to) step (goes_up step) refl nonzero s.0 s.1 t.0 t.1 m (omega (arith, picked_number))

    pub picked_is : pos (get_or (slice_indices n from to step) m 0) ≡ slice_start n (goes_up step) from +ℤ pos m *ℤ step
    unfolding slice_indices
    picked_is =
        ap pos (get_or-map-range_with_len (λ m. unsigned_abs (slice_start n (goes_up step) from +ℤ pos m *ℤ step)) 0 _ m m 0 (omega (arith, picked_number)) (omega arith))
        ∙ pos_abs (slice_start n (goes_up step) from +ℤ pos m *ℤ step) within.0

    pub picked_below : get_or (slice_indices n from to step) m 0 < n
    picked_below = omega (arith, ints, picked_is, within.1)

-- a slice that picks an item begins at one
pub some_start : (n : ℕ) (from to : Option ℤ) (step : ℤ) → step ≢ pos 0 → (m : ℕ) → m < length (slice_indices n from to step)
    → pos 0 ≤ℤ slice_start n (goes_up step) from
some_start n from to step nonzero m h = omega (arith, ints, (within n from to step nonzero 0 (omega arith)).0)
