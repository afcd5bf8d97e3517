-- The conversion of a whole number to a C integer type (ISO C11 6.3.1.3; for a signed type as gcc defines it).
use Rattle.std.specs.Prelude.{◌≡◌, ℕ, ◌^◌, ℤ, pos, ◌+ℤ◌, ◌-ℤ◌, ◌*ℤ◌}
use Rattle.std.specs.Int.{int_rem_euclid}
use Rattle.px_base.specs.declared.c_types.CType.{CType}
use Rattle.px_ctypes.specs.Types.{bits, least, IsInRange}

-- a and b differ by a multiple of m
abbrev pub IsCongruent : ℕ → ℤ → ℤ → Type 0
IsCongruent m a b = (k : ℤ) × (a ≡ b +ℤ (k *ℤ pos m))

-- the number of the type's range that is congruent to n modulo 2 ^ width
pub record IsWrapped (t : CType) (n wrapped : ℤ) : Type 0 where
  pub in_range : IsInRange t wrapped
  pub same : IsCongruent (2 ^ bits t) n wrapped

-- that number: it lies as far above the least value as the remainder says
unfoldable pub wrap : CType → ℤ → ℤ
wrap t n = least t +ℤ int_rem_euclid (n -ℤ least t) (pos (2 ^ bits t))
