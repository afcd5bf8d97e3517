-- Laws of quotients and remainders.
use Rattle.std.proofs.Common.{◌≡◌, ◌≢◌, ℕ, zero, suc, ◌<◌, ◌+◌, ◌*◌, ◌%◌, ℤ, pos, negsuc, neg_ℤ, ◌+ℤ◌, ◌-ℤ◌, ◌*ℤ◌, ◌≤ℤ◌, ◌<ℤ◌, refl, sym, ◌∙◌, ap, arith, ⊎_elim, false, int_lt, int_rem, unsigned_abs}
use Rattle.std.proofs.lemmas.Int.{ints, quot-rem, rem_below}
use Rattle.std.proofs.Math.Nat.{mul-le-mul_right}
use Rattle.std.proofs.lemmas.Bool.{cases_order}
use lib.IntN.{*ℤ-negsuc}
use borrow.Author.Differences.{up, down}
use Rattle.std.proofs.lemmas.Nat.{div-add-mod'}
use Rattle.px_ctypes.specs.Division.{floor_div, floor_mod, trunc_div, trunc_mod, signed_of, IsFloored, IsTruncated}
use Rattle.px_ctypes.proofs.Products.{neg-*ℤ}
use Rattle.px_ctypes.proofs.WrapLaws.{apart}

not_negative : (a : ℕ) → int_lt (pos a) (pos 0) ≡ false
not_negative a = grind (arith, ints)

rem_is_signed : (a b : ℤ) → int_rem a b ≡ signed_of (unsigned_abs a % unsigned_abs b) (int_lt a (pos 0))
rem_is_signed (pos a) b = ap (signed_of (a % unsigned_abs b)) (sym (not_negative a))
rem_is_signed (negsuc a) b = refl

-- the remainder of a truncated quotient is that of the magnitudes, with the dividend's sign
pub trunc_mod_is : (a b : ℤ) → trunc_mod a b ≡ signed_of (unsigned_abs a % unsigned_abs b) (int_lt a (pos 0))
trunc_mod_is a b = omega (arith, ints, quot-rem a b) ∙ rem_is_signed a b

-- ---- the quotient rounded down

floored_above : (a b : ℕ) → (pos 0 ≤ℤ floor_mod (pos a) (pos (suc b))) × (floor_mod (pos a) (pos (suc b)) <ℤ pos (suc b))
floored_above a b = (omega (arith, ints, div-add-mod' a (suc b)), omega (arith, ints, div-add-mod' a (suc b)))

floored_above_below : (a b : ℕ) → (pos 0 ≤ℤ floor_mod (negsuc a) (pos (suc b))) × (floor_mod (negsuc a) (pos (suc b)) <ℤ pos (suc b))
floored_above_below a b = (omega (arith, ints, div-add-mod' a (suc b)), omega (arith, ints, div-add-mod' a (suc b)))

pub floored : (a b : ℤ) → b ≢ pos 0 → IsFloored a b (floor_div a b) (floor_mod a b)
floored a (pos zero) h = absurd (h refl)
floored (pos a) (pos (suc b)) h = record { sum = omega (arith, ints); above = λ p. floored_above a b; below = λ p. absurd (omega (arith, ints)) }
floored (negsuc a) (pos (suc b)) h = record { sum = omega (arith, ints); above = λ p. floored_above_below a b; below = λ p. absurd (omega (arith, ints)) }
floored (pos zero) (negsuc b) h = record { sum = omega (arith, ints); above = λ p. absurd (omega (arith, ints)); below = λ p. (omega (arith, ints), omega (arith, ints)) }
floored (pos (suc a)) (negsuc b) h = record { sum = omega (arith, ints); above = λ p. absurd (omega (arith, ints)); below = λ p. (omega (arith, ints, div-add-mod' a (suc b)), omega (arith, ints, div-add-mod' a (suc b))) }
floored (negsuc a) (negsuc b) h = record { sum = omega (arith, ints); above = λ p. absurd (omega (arith, ints)); below = λ p. (omega (arith, ints, div-add-mod' (suc a) (suc b)), omega (arith, ints, div-add-mod' (suc a) (suc b))) }

-- ---- exactly one quotient and remainder

cancel : (q p : ℤ) (m : ℕ) → 0 < m → q *ℤ pos m ≡ p *ℤ pos m → q ≡ p
cancel q p m h e =
    let over = up q + down p in
    let under = up p + down q in
    let same : over * m ≡ under * m = omega (arith, ints) in
    ⊎_elim
    (λ (k : over ≡ under). omega (arith, ints))
    (λ t. ⊎_elim
    (λ (k : over < under). absurd (omega (arith, same, mul-le-mul_right m k)))
    (λ (k : under < over). absurd (omega (arith, same, mul-le-mul_right m k)))
    t)
    (cases_order over under)

-- two divisions by b whose remainders lie in one window of its magnitude are one
once : (b low q r p s : ℤ) → b ≢ pos 0 → low ≤ℤ r → r <ℤ (low +ℤ pos (unsigned_abs b)) → low ≤ℤ s → s <ℤ (low +ℤ pos (unsigned_abs b)) → (q *ℤ b) +ℤ r ≡ (p *ℤ b) +ℤ s → (q ≡ p) × (r ≡ s)
once (pos zero) low q r p s h i j k l e = absurd (h refl)
once (pos (suc m)) low q r p s h i j k l e =
    let rest : r ≡ s = apart (suc m) low r s q p i j k l (omega (arith, ints)) in
    (cancel q p (suc m) (omega arith) (omega (arith, ints, rest)), rest)
once (negsuc m) low q r p s h i j k l e =
    let left = neg-*ℤ q (pos (suc m)) in
    let right = neg-*ℤ p (pos (suc m)) in
    let first = *ℤ-negsuc q m in
    let second = *ℤ-negsuc p m in
    let rest : r ≡ s = apart (suc m) low r s (neg_ℤ q) (neg_ℤ p) i j k l (omega (arith, ints, left, right, first, second)) in
    (cancel q p (suc m) (omega arith) (omega (arith, ints, rest, first, second)), rest)

pub floored_once : (a b q r : ℤ) → b ≢ pos 0 → IsFloored a b q r → (q ≡ floor_div a b) × (r ≡ floor_mod a b)
floored_once a (pos zero) q r h w = absurd (h refl)
floored_once a (pos (suc m)) q r h w =
    let f = floored a (pos (suc m)) h in
    let some : pos 0 <ℤ pos (suc m) = omega (arith, ints) in
    let mine = w.above some in
    let own = f.above some in
    once (pos (suc m)) (pos 0) q r (floor_div a (pos (suc m))) (floor_mod a (pos (suc m))) h mine.0 (omega (arith, ints, mine.1)) own.0 (omega (arith, ints, own.1)) (sym w.sum ∙ f.sum)
floored_once a (negsuc m) q r h w =
    let f = floored a (negsuc m) h in
    let some : negsuc m <ℤ pos 0 = omega (arith, ints) in
    let mine = w.below some in
    let own = f.below some in
    once (negsuc m) (negsuc m +ℤ pos 1) q r (floor_div a (negsuc m)) (floor_mod a (negsuc m)) h (omega (arith, ints, mine.0)) (omega (arith, ints, mine.1)) (omega (arith, ints, own.0)) (omega (arith, ints, own.1)) (sym w.sum ∙ f.sum)

pub trunc_mod-rem : (a b : ℤ) → trunc_mod a b ≡ int_rem a b
trunc_mod-rem a b = omega (arith, ints, quot-rem a b)

rem_above : (a : ℕ) (b : ℤ) → pos 0 ≤ℤ int_rem (pos a) b
rem_above a b = omega (arith, ints)

rem_below_zero : (a : ℕ) (b : ℤ) → int_rem (negsuc a) b ≤ℤ pos 0
rem_below_zero a b = omega (arith, ints)

magnitude_of : (b : ℤ) → b ≢ pos 0 → 0 < unsigned_abs b
magnitude_of (pos zero) h = absurd (h refl)
magnitude_of (pos (suc m)) h = omega arith
magnitude_of (negsuc m) h = omega arith

pub truncated : (a b : ℤ) → b ≢ pos 0 → IsTruncated a b (trunc_div a b) (trunc_mod a b)
truncated (pos a) b h = record {
  sum = omega (arith, ints);
  smaller = rw (trunc_mod-rem (pos a) b) (rem_below (pos a) b (magnitude_of b h));
  above = λ p. rw (trunc_mod-rem (pos a) b) (rem_above a b);
  below = λ p. absurd (omega (arith, ints));
}
truncated (negsuc a) b h = record {
  sum = omega (arith, ints);
  smaller = rw (trunc_mod-rem (negsuc a) b) (rem_below (negsuc a) b (magnitude_of b h));
  above = λ p. absurd (omega (arith, ints));
  below = λ p. rw (trunc_mod-rem (negsuc a) b) (rem_below_zero a b);
}

pub truncated_once : (a b q r : ℤ) → b ≢ pos 0 → IsTruncated a b q r → (q ≡ trunc_div a b) × (r ≡ trunc_mod a b)
truncated_once (pos a) b q r h w =
    let t = truncated (pos a) b h in
    let some : pos 0 ≤ℤ pos a = omega (arith, ints) in
    let mine = w.above some in
    let own = t.above some in
    once b (pos 0) q r (trunc_div (pos a) b) (trunc_mod (pos a) b) h mine (omega (arith, ints, w.smaller)) own (omega (arith, ints, t.smaller)) (sym w.sum ∙ t.sum)
truncated_once (negsuc a) b q r h w =
    let t = truncated (negsuc a) b h in
    let some : negsuc a <ℤ pos 0 = omega (arith, ints) in
    let mine = w.below some in
    let own = t.below some in
    once b (pos 1 -ℤ pos (unsigned_abs b)) q r (trunc_div (negsuc a) b) (trunc_mod (negsuc a) b) h
    (omega (arith, ints, w.smaller)) (omega (arith, ints)) (omega (arith, ints, t.smaller)) (omega (arith, ints)) (sym w.sum ∙ t.sum)
