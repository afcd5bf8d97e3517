-- The integer types of C (ISO C11 6.2.5 and 6.2.6.2) with the widths of LP64, and Cython's bint.
use Rattle.std.specs.Prelude.{ℕ, ◌-◌, ◌^◌, ℤ, pos, neg_ℤ, ◌≤ℤ◌, Bool, true, false, ◌&&◌, int_le, if◌then◌else◌}
use Rattle.px_base.specs.declared.c_types.CType.{CType}
use Rattle.px_base.specs.declared.c_types.CType.TheVariants.{SChar, UChar, Char, Short, UShort, Int, UInt, Long, ULong, LongLong, ULongLong, SsizeT, SizeT, Bint}

-- the width: the value bits, and of a signed type the sign bit
abbrev pub bits : CType → ℕ
bits SChar = 8
bits UChar = 8
bits Char = 8
bits Short = 16
bits UShort = 16
bits Int = 32
bits UInt = 32
bits Long = 64
bits ULong = 64
bits LongLong = 64
bits ULongLong = 64
bits SsizeT = 64
bits SizeT = 64
bits Bint = 32

abbrev pub is_signed : CType → Bool
is_signed SChar = true
is_signed UChar = false
is_signed Char = true
is_signed Short = true
is_signed UShort = false
is_signed Int = true
is_signed UInt = false
is_signed Long = true
is_signed ULong = false
is_signed LongLong = true
is_signed ULongLong = false
is_signed SsizeT = true
is_signed SizeT = false
is_signed Bint = true

-- the conversion rank (ISO C11 6.3.1.1); Py_ssize_t and size_t have that of long
abbrev pub rank : CType → ℕ
rank SChar = 1
rank UChar = 1
rank Char = 1
rank Short = 2
rank UShort = 2
rank Int = 3
rank UInt = 3
rank Long = 4
rank ULong = 4
rank LongLong = 5
rank ULongLong = 5
rank SsizeT = 4
rank SizeT = 4
rank Bint = 0

-- The range, in two's complement. That of bint is the range of the int that it is kept in.

abbrev pub least : CType → ℤ
least t = if is_signed t then neg_ℤ (pos (2 ^ (bits t - 1))) else pos 0

abbrev pub greatest : CType → ℤ
greatest t = if is_signed t then pos (2 ^ (bits t - 1) - 1) else pos (2 ^ bits t - 1)

abbrev pub IsInRange : CType → ℤ → Type 0
IsInRange t n = (least t ≤ℤ n) × (n ≤ℤ greatest t)

abbrev pub is_in_range : CType → ℤ → Bool
is_in_range t n = int_le (least t) n && int_le n (greatest t)

-- the values that a variable of the type holds: those of its range, of bint 0 and 1
abbrev pub IsValueOf : CType → ℤ → Type 0
IsValueOf Bint n = (pos 0 ≤ℤ n) × (n ≤ℤ pos 1)
IsValueOf t n = IsInRange t n
