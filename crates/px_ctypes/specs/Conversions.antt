-- Conversions between the types (ISO C11 6.3.1).
use Rattle.std.specs.Prelude.{ℤ, pos, nat_lt, nat_le, int_le, if◌then◌else◌, Result, Ok, Err}
use Rattle.px_base.specs.declared.c_types.CType.{CType}
use Rattle.px_base.specs.declared.c_types.CType.TheVariants.{Int, UInt, Long, ULong, LongLong, ULongLong, SsizeT, SizeT, Bint}
use Rattle.px_base.specs.declared.faults.Fault.{Fault}
use Rattle.px_base.specs.declared.faults.Kind.TheVariants.{OverflowError}
use Rattle.px_ctypes.specs.Types.{rank, is_signed, greatest, is_in_range}
use Rattle.px_ctypes.specs.Wrapping.{wrap}
use Rattle.px_ctypes.specs.Operators.{fault_of, is_zero}

-- ---- types (6.3.1.1 and 6.3.1.8)

-- the integer promotions: a type of a rank below that of int becomes int, which holds all its values
abbrev pub promoted : CType → CType
promoted SsizeT = Long
promoted SizeT = ULong
promoted t = if nat_lt (rank t) (rank Int) then Int else t

-- the unsigned type of a signed type's rank, of the types that promotion gives
abbrev pub unsigned_of : CType → CType
unsigned_of Int = UInt
unsigned_of Long = ULong
unsigned_of LongLong = ULongLong
unsigned_of t = t

-- of two types with one sign the one of higher rank
abbrev pub higher : CType → CType → CType
higher a b = if nat_lt (rank a) (rank b) then b else a

-- of an unsigned and a signed type: the unsigned one where its rank is not lower, else the signed one where it holds all
-- values of the unsigned one, else the unsigned type of the signed one's rank
abbrev pub mixed : CType → CType → CType
mixed unsigned signed =
    if nat_le (rank signed) (rank unsigned) then unsigned
    else if int_le (greatest unsigned) (greatest signed) then signed
    else unsigned_of signed

-- the common type of two promoted types
abbrev pub balanced : CType → CType → CType
balanced a b =
    if is_signed a then (if is_signed b then higher a b else mixed b a)
    else (if is_signed b then mixed a b else higher a b)

-- the usual arithmetic conversions
abbrev pub common : CType → CType → CType
common a b = balanced (promoted a) (promoted b)

-- ---- values (6.3.1.2 and 6.3.1.3)

abbrev pub converted : CType → ℤ → ℤ
converted Bint n = if is_zero n then pos 0 else pos 1
converted t n = wrap t n

-- an int of an object has to be in the range
abbrev pub object_value : CType → ℤ → Result ℤ Fault
object_value t n = if is_in_range t n then Ok n else Err (fault_of OverflowError 2)
