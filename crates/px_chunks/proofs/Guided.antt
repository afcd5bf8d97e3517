-- The chunks of a guided schedule, and the first places of chunks.
use Rattle.std.proofs.Common.{◌≡◌, ℕ, zero, suc, ◌+◌, ◌-◌, ◌*◌, ◌%◌, ◌<◌, ◌≤◌, min, max, List, [], ◌∷◌, length, get_or, take, refl, sym, ◌∙◌, ap, ◌⊎◌, inl, inr, arith, add-zero}
use Rattle.std.specs.Prelude.{sum}
use Rattle.std.specs.Int.{div_ceil}
use Rattle.std.proofs.lemmas.List.Sums.{sum_by-cons}
use Rattle.std.proofs.lemmas.Grind.{div_ceil_times}
use Rattle.std.proofs.lemmas.Bool.{cases_lt}
use Rattle.std.proofs.Math.Nat.{sub-zero, lt_of_mul-lt-mul_right, suc-mul, zero-div, zero-mod}
use Rattle.px_model.specs.Chunks.{guided_block, guided_blocks}
use Rattle.px_chunks.specs.Starts.{starts_from}

-- ---- first places
pub starts_length : (at : ℕ) (table : List ℕ) → length (starts_from at table) ≡ length table
starts_length at [] = refl
starts_length at (x ∷ xs) = ap suc (starts_length (at + x) xs)

pub starts_at : (at : ℕ) (table : List ℕ) (k : ℕ) → k < length table → get_or (starts_from at table) k 0 ≡ at + sum (take k table)
starts_at at [] k h = absurd (omega arith)
starts_at at (x ∷ xs) zero h = sym (add-zero at)
starts_at at (x ∷ xs) (suc k) h =
    starts_at (at + x) xs k (omega arith) ∙ omega (arith, sum_by-cons (λ y. y) x (take k xs))

-- a share doesn't grow where less is left
ceil_below : (a b m : ℕ) → 0 < m → a ≤ b → div_ceil a m ≤ div_ceil b m
ceil_below a b m some h =
    let low = (div_ceil_times a m some).1 in
    let high = (div_ceil_times b m some).0 in
    let step : div_ceil a m * m < suc (div_ceil b m) * m = omega (arith, suc-mul (div_ceil b m) m) in
    let below : div_ceil a m < suc (div_ceil b m) = lt_of_mul-lt-mul_right m step in
    omega arith

all_or_least : (members least rest : ℕ) → (rest - guided_block members least rest ≡ 0) ⊎ (rest - guided_block members least rest + least ≤ rest)
all_or_least members least rest = elim (cases_lt (max least (div_ceil rest members)) rest) [
  | inl less ↦ inr (omega arith)
  | inr more ↦ inl (omega arith)
]

-- one block more, which takes all that is left or the size at least
one_more : (m left rest : ℕ) → 0 < m → (left ≡ 0) ⊎ (left + m ≤ rest) → 0 < rest → suc (div_ceil left m) ≤ div_ceil rest m
one_more m left rest some h k = elim h [
  | inl none ↦
      let D : ℕ = div_ceil rest m in
      let high : rest ≤ D * m = (div_ceil_times rest m some).0 in
      let nothing : div_ceil left m ≡ 0 = rw none (ap (λ q. q + min 1 (0 % m)) (zero-div m) ∙ ap (λ r. 0 + min 1 r) (zero-mod m)) in
      let step : 0 * m < D * m = omega arith in
      let below : 0 < D = lt_of_mul-lt-mul_right m step in
      omega arith
  | inr more ↦
      let low = (div_ceil_times left m some).1 in
      let high = (div_ceil_times rest m some).0 in
      let step : div_ceil left m * m < div_ceil rest m * m = omega arith in
      lt_of_mul-lt-mul_right m step
]

-- ---- guided blocks, of a size of `least` at least
module _ (members least : ℕ) (some : 0 < least) where
  -- a block holds a place, and no more than are left
  pub block_some : (rest : ℕ) → 0 < rest → (0 < guided_block members least rest) × (guided_block members least rest ≤ rest)
  block_some rest h = (omega arith, omega arith)

  -- how many turns are allowed doesn't matter where they are enough
  pub same_blocks : (most more rest : ℕ) → rest ≤ most → rest ≤ more → guided_blocks members least most rest ≡ guided_blocks members least more rest
  unfolding guided_blocks
  same_blocks zero zero rest h k = refl
  same_blocks zero (suc more) zero h k = refl
  same_blocks zero (suc more) (suc rest) h k = absurd (omega arith)
  same_blocks (suc most) zero zero h k = refl
  same_blocks (suc most) zero (suc rest) h k = absurd (omega arith)
  same_blocks (suc most) (suc more) zero h k = refl
  same_blocks (suc most) (suc more) (suc rest) h k =
      let b = block_some (suc rest) (omega arith) in
      let some_held : 0 < guided_block members least (suc rest) = b.0 in
      ap (λ xs. guided_block members least (suc rest) ∷ xs)
      (same_blocks most more (suc rest - guided_block members least (suc rest)) (omega arith) (omega arith))

  -- the next block, and those for what it leaves
  pub next_blocks : (rest : ℕ) → 0 < rest
      → guided_blocks members least rest rest
      ≡ guided_block members least rest
      ∷ guided_blocks members least (rest - guided_block members least rest) (rest - guided_block members least rest)
  unfolding guided_blocks
  next_blocks zero h = absurd (omega arith)
  next_blocks (suc rest) h =
      let some_held : 0 < guided_block members least (suc rest) = (block_some (suc rest) (omega arith)).0 in
      ap (λ xs. guided_block members least (suc rest) ∷ xs)
      (same_blocks rest (suc rest - guided_block members least (suc rest)) (suc rest - guided_block members least (suc rest)) (omega arith) (omega arith))

  pub guided_sum : (most rest : ℕ) → rest ≤ most → sum (guided_blocks members least most rest) ≡ rest
  unfolding guided_blocks
  guided_sum zero rest h = omega arith
  guided_sum (suc most) zero h = refl
  guided_sum (suc most) (suc rest) h =
      let b = block_some (suc rest) (omega arith) in
      let some_held : 0 < guided_block members least (suc rest) = b.0 in
      let within : guided_block members least (suc rest) ≤ suc rest = b.1 in
      let left : ℕ = suc rest - guided_block members least (suc rest) in
      omega (arith, sum_by-cons (λ y. y) (guided_block members least (suc rest)) (guided_blocks members least most left), guided_sum most left (omega arith))

  -- each block is the one for what those before it leave
  pub guided_at : (most rest k : ℕ) → rest ≤ most → k < length (guided_blocks members least most rest)
      → get_or (guided_blocks members least most rest) k 0 ≡ guided_block members least (rest - sum (take k (guided_blocks members least most rest)))
  unfolding guided_blocks
  guided_at zero rest k h within = absurd (omega arith)
  guided_at (suc most) zero k h within = absurd (omega arith)
  guided_at (suc most) (suc rest) zero h within = ap (guided_block members least) (sym (sub-zero (suc rest)))
  guided_at (suc most) (suc rest) (suc k) h within =
      let some_held : 0 < guided_block members least (suc rest) = (block_some (suc rest) (omega arith)).0 in
      let left : ℕ = suc rest - guided_block members least (suc rest) in
      guided_at most left k (omega arith) (omega arith)
      ∙ ap (λ m. guided_block members least m)
      (omega (arith, sum_by-cons (λ y. y) (guided_block members least (suc rest)) (take k (guided_blocks members least most left))))

  -- what the blocks before one leave is more than nothing
  pub guided_left : (most rest k : ℕ) → rest ≤ most → k < length (guided_blocks members least most rest)
      → sum (take k (guided_blocks members least most rest)) < rest
  unfolding guided_blocks
  guided_left zero rest k h within = absurd (omega arith)
  guided_left (suc most) zero k h within = absurd (omega arith)
  guided_left (suc most) (suc rest) zero h within = omega arith
  guided_left (suc most) (suc rest) (suc k) h within =
      let b = block_some (suc rest) (omega arith) in
      let some_held : 0 < guided_block members least (suc rest) = b.0 in
      let held : guided_block members least (suc rest) ≤ suc rest = b.1 in
      let left : ℕ = suc rest - guided_block members least (suc rest) in
      omega (arith, guided_left most left k (omega arith) (omega arith), sum_by-cons (λ y. y) (guided_block members least (suc rest)) (take k (guided_blocks members least most left)))

  -- no more blocks than there are of the size
  pub guided_number : (most rest : ℕ) → rest ≤ most → length (guided_blocks members least most rest) ≤ div_ceil rest least
  unfolding guided_blocks
  guided_number zero rest h = omega arith
  guided_number (suc most) zero h = omega arith
  guided_number (suc most) (suc rest) h =
      let some_held : 0 < guided_block members least (suc rest) = (block_some (suc rest) (omega arith)).0 in
      let left : ℕ = suc rest - guided_block members least (suc rest) in
      let fewer : length (guided_blocks members least most left) ≤ div_ceil left least = guided_number most left (omega arith) in
      let taken : (left ≡ 0) ⊎ (left + least ≤ suc rest) = all_or_least members least (suc rest) in
      let more : suc (div_ceil left least) ≤ div_ceil (suc rest) least = one_more least left (suc rest) some taken (omega arith) in
      omega arith

-- nor does a block
pub block_below : (members least a b : ℕ) → 0 < members → a ≤ b → guided_block members least a ≤ guided_block members least b
block_below members least a b some h = omega (arith, ceil_below a b members some h)
