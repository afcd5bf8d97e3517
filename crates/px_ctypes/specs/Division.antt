-- Quotients and remainders of whole numbers. Each remainder is what its quotient leaves: a ≡ q * b + r
-- (Python Language Reference 6.7; ISO C11 6.5.5).
use Rattle.std.specs.Prelude.{◌≡◌, ◌<◌, ◌<ℤ◌, ◌≤ℤ◌, ◌+ℤ◌, unsigned_abs, ℕ, zero, suc, ℤ, pos, negsuc, neg_ℤ, ◌-ℤ◌, ◌*ℤ◌, ◌/◌, int_div, Bool, if◌then◌else◌}

-- rounded down
abbrev pub floor_div : ℤ → ℤ → ℤ
floor_div (pos a) (pos b) = pos (a / b)
floor_div (negsuc a) (pos b) = negsuc (a / b)
floor_div (pos zero) (negsuc b) = pos 0
floor_div (pos (suc a)) (negsuc b) = negsuc (a / suc b)
floor_div (negsuc a) (negsuc b) = pos (suc a / suc b)

abbrev pub floor_mod : ℤ → ℤ → ℤ
floor_mod a b = a -ℤ (floor_div a b *ℤ b)

-- rounded toward 0
abbrev pub trunc_div : ℤ → ℤ → ℤ
trunc_div a b = int_div a b

abbrev pub trunc_mod : ℤ → ℤ → ℤ
trunc_mod a b = a -ℤ (trunc_div a b *ℤ b)

-- the number of a magnitude, below 0 where the flag is set
abbrev pub signed_of : ℕ → Bool → ℤ
signed_of magnitude negative = if negative then neg_ℤ (pos magnitude) else pos magnitude

-- a is divided by b into q and r, and r lies between 0 and b but isn't b
pub record IsFloored (a b q r : ℤ) : Type 0 where
  pub sum : a ≡ (q *ℤ b) +ℤ r
  pub above : pos 0 <ℤ b → (pos 0 ≤ℤ r) × (r <ℤ b)
  pub below : b <ℤ pos 0 → (b <ℤ r) × (r ≤ℤ pos 0)

-- a is divided by b into q and r, and r is smaller than b and has no other sign than a
pub record IsTruncated (a b q r : ℤ) : Type 0 where
  pub sum : a ≡ (q *ℤ b) +ℤ r
  pub smaller : unsigned_abs r < unsigned_abs b
  pub above : pos 0 ≤ℤ a → pos 0 ≤ℤ r
  pub below : a <ℤ pos 0 → r ≤ℤ pos 0
