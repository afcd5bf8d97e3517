-- Places modulo 2^64, and products of whole numbers.
use Rattle.std.proofs.Common.{◌≡◌, ◌≢◌, ℕ, ℤ, pos, negsuc, zero, suc, ◌+◌, ◌-◌, ◌*◌, ◌/◌, ◌%◌, ◌^◌, ◌<◌, ◌≤◌, refl, sym, ◌∙◌, ap, arith, lit<}
use Rattle.std.specs.Prelude.{◌+ℤ◌, ◌-ℤ◌, ◌*ℤ◌, ◌<ℤ◌, FitsSigned, unsigned_abs, neg_ℤ}
use Rattle.std.specs.Int.{w64, cast_unsigned, int_rem_euclid}
use Rattle.px_views.specs.Strides.{wrapped_place}
use lib.IntN.{*ℤ_comm, zero-*ℤ}
use borrow.Author.Differences.{up, down, sum_is_lem, product_is}
use Rattle.std.proofs.lemmas.Int.{ints, int_rem_euclid_is, unsigned_abs-mul}
use Rattle.std.proofs.Math.Nat.{add-mul-mod_self_right, mod-eq_of_lt, eq_of_mul-eq-mul_right, mul-sub, mul-le-mul_left, mul-le-mul_right}
use Rattle.std.proofs.lemmas.Nat.{div-add-mod'}

-- a remainder may be taken on the way
pub mod-add-mod : (a b m : ℕ) → (a + b % m) % m ≡ (a + b) % m
mod-add-mod a b m = sym (ap (λ n. n % m) (omega (arith, div-add-mod' b m)) ∙ add-mul-mod_self_right (a + b % m) (b / m) m)

-- a place that is found in words is the one modulo 2^64
pub wrapped : (from steps : ℕ) (s : ℤ) → FitsSigned w64 s → (from + (steps * cast_unsigned w64 s) % 2 ^ 64) % 2 ^ 64 ≡ wrapped_place from steps s
unfolding wrapped_place
wrapped from steps (pos k) fits = mod-add-mod from (steps * k) (2 ^ 64)
wrapped from steps (negsuc k) fits =
    let few : suc k ≤ 2 ^ 64 = omega (arith, fits.sfits) in
    let left : steps * (2 ^ 64 - suc k) + steps * suc k ≡ steps * 2 ^ 64 =
    omega (arith, mul-sub steps (2 ^ 64) (suc k), mul-le-mul_left steps few) in
    let shifted : (pos from +ℤ pos steps *ℤ negsuc k) +ℤ pos (steps * 2 ^ 64) ≡ pos (from + steps * (2 ^ 64 - suc k)) = omega (arith, ints, left) in
    mod-add-mod from (steps * (2 ^ 64 - suc k)) (2 ^ 64)
    ∙ ap (λ z. unsigned_abs z)
    (sym (int_rem_euclid_is (pos from +ℤ pos steps *ℤ negsuc k) (pos (2 ^ 64)) (2 ^ 64) steps (from + steps * (2 ^ 64 - suc k)) (lit< tt) refl shifted))

-- and it is exact where there is such a place
pub exact : (from steps place : ℕ) (s : ℤ) → place < 2 ^ 64 → pos from +ℤ pos steps *ℤ s ≡ pos place → wrapped_place from steps s ≡ place
unfolding wrapped_place
exact from steps place s small e = ap (λ z. unsigned_abs (int_rem_euclid z (pos (2 ^ 64)))) e ∙ mod-eq_of_lt small

-- ---- products of whole numbers
pub *ℤ-distrib : (a b c : ℤ) → (a +ℤ b) *ℤ c ≡ (a *ℤ c) +ℤ (b *ℤ c)
*ℤ-distrib a b c =
    let above = ap (λ x. x * up c) (sum_is_lem a b) in
    let below = ap (λ x. x * down c) (sum_is_lem a b) in
    omega (arith, ints, above, below)

*ℤ-swap : (a b c : ℤ) → (a *ℤ b) *ℤ c ≡ (a *ℤ c) *ℤ b
*ℤ-swap a b c =
    let p = product_is a b in
    let q = product_is a c in
    omega (
      arith,
      ints,
      ap (λ x. x * up c) p.0,
      ap (λ x. x * down c) p.0,
      ap (λ x. x * up c) p.1,
      ap (λ x. x * down c) p.1,
      ap (λ x. x * up b) q.0,
      ap (λ x. x * down b) q.0,
      ap (λ x. x * up b) q.1,
      ap (λ x. x * down b) q.1,
    )

*ℤ-assoc : (a b c : ℤ) → (a *ℤ b) *ℤ c ≡ a *ℤ (b *ℤ c)
*ℤ-assoc a b c = ap (λ x. x *ℤ c) (*ℤ_comm a b) ∙ *ℤ-swap b a c ∙ *ℤ_comm (b *ℤ c) a

-- the place of an item that is so many steps behind another one
pub stepped_place : (i : ℕ) (f : ℤ) (m : ℕ) (k s : ℤ) → pos i ≡ f +ℤ pos m *ℤ k → pos i *ℤ s ≡ (f *ℤ s) +ℤ (pos m *ℤ (s *ℤ k))
stepped_place i f m k s e =
    ap (λ z. z *ℤ s) e
    ∙ *ℤ-distrib f (pos m *ℤ k) s
    ∙ ap (λ z. (f *ℤ s) +ℤ z) (*ℤ-assoc (pos m) k s ∙ ap (λ z. pos m *ℤ z) (*ℤ_comm k s))

-- items that are a step apart are different
pub apart : (m n f : ℕ) (k : ℤ) → k ≢ pos 0 → pos f +ℤ pos m *ℤ k ≡ pos f +ℤ pos n *ℤ k → m ≡ n
apart m n f (pos zero) h e = absurd (h refl)
apart m n f (pos (suc k)) h e = eq_of_mul-eq-mul_right (suc k) (omega arith) m n (omega (arith, ints, e))
apart m n f (negsuc k) h e = eq_of_mul-eq-mul_right (suc k) (omega arith) m n (omega (arith, ints, e))

grown : (a b m : ℕ) → 1 ≤ a → m ≤ b → a * b < m → ⊥
grown a b m h k l = let more : 1 * b ≤ a * b = mul-le-mul_right b h in omega arith

-- a stride that a step takes out of the words is that of no place, but 0 is
pub large_step : (s k : ℤ) → 2 ^ 63 ≤ unsigned_abs k → unsigned_abs (s *ℤ k) < 2 ^ 63 → pos 0 ≡ s *ℤ k
large_step (pos zero) k far small = sym (zero-*ℤ k)
large_step (pos (suc n)) k far small = absurd (grown (suc n) (unsigned_abs k) (2 ^ 63) (omega arith) far (rw unsigned_abs-mul at small))
large_step (negsuc n) k far small = absurd (grown (suc n) (unsigned_abs k) (2 ^ 63) (omega arith) far (rw unsigned_abs-mul at small))

-- two places are near to one another
abs_below : (z : ℤ) (b : ℕ) → z <ℤ pos b → neg_ℤ (pos b) <ℤ z → unsigned_abs z < b
abs_below (pos n) b h k = omega (arith, ints)
abs_below (negsuc n) b h k = omega (arith, ints)

pub near : (a b : ℕ) → a < 67108864 → b < 67108864 → unsigned_abs (pos a -ℤ pos b) < 2 ^ 63
near a b h k = abs_below (pos a -ℤ pos b) (2 ^ 63) (omega (arith, ints)) (omega (arith, ints))
