-- The operators on values of one C integer type (ISO C11 6.5.3.3 and 6.5.5 to 6.5.12). Each result is that of whole numbers,
-- wrapped, or a fault.
use Rattle.std.specs.Prelude.{◌≡◌, ◌≢◌, ℕ, ◌-◌, ◌^◌, ℤ, pos, neg_ℤ, ◌+ℤ◌, ◌-ℤ◌, ◌*ℤ◌, ◌<ℤ◌, ◌≤ℤ◌, Bool, true, false, IsFalse, not, ◌&&◌, ◌==◌, if◌then◌else◌, int_lt, int_le, unsigned_abs, bit_and, bit_or, bit_xor, Result, Ok, Err}
use Rattle.std.specs.Int.{int_rem_euclid}
use Rattle.px_base.specs.declared.c_types.CType.{CType}
use Rattle.px_base.specs.declared.c_types.BinOp.{BinOp}
use Rattle.px_base.specs.declared.c_types.BinOp.TheVariants.{Add, Sub, Mul, FloorDiv, Mod, Shl, Shr, BitAnd, BitOr, BitXor}
use Rattle.px_base.specs.declared.c_types.UnOp.{UnOp}
use Rattle.px_base.specs.declared.c_types.UnOp.TheVariants.{Plus, Minus, Invert}
use Rattle.px_base.specs.declared.c_types.CmpOp.{CmpOp}
use Rattle.px_base.specs.declared.c_types.CmpOp.TheVariants.{Lt, Gt, Le, Ge, Eq, Ne}
use Rattle.px_base.specs.declared.faults.Fault.{Fault}
use Rattle.px_base.specs.declared.faults.Kind.{Kind}
use Rattle.px_base.specs.declared.faults.Kind.TheVariants.{ZeroDivisionError, OverflowError, ValueError}
use Rattle.px_base.specs.declared.faults.Said.TheVariants.{Row}
use Rattle.px_ctypes.specs.Types.{bits, greatest, IsInRange}
use Rattle.px_ctypes.specs.Wrapping.{wrap}
use Rattle.px_ctypes.specs.Division.{floor_div, floor_mod, trunc_div, trunc_mod}

-- the fault with the text of this row
abbrev pub fault_of : Kind → ℕ → Fault
fault_of kind row = record { kind = kind; said = Row row }

abbrev pub is_zero : ℤ → Bool
is_zero n = unsigned_abs n == 0

-- `//`: a quotient that is rounded down has to fit the type, and one that is rounded toward 0 wraps
abbrev pub quotient_value : CType → ℤ → ℤ → Bool → Result ℤ Fault
quotient_value t a b cdivision =
    if is_zero b then Err (fault_of ZeroDivisionError 1)
    else if cdivision then Ok (wrap t (trunc_div a b))
    else if int_lt (greatest t) (floor_div a b) then Err (fault_of OverflowError 3)
    else Ok (floor_div a b)

-- `%`
abbrev pub remainder_value : CType → ℤ → ℤ → Bool → Result ℤ Fault
remainder_value t a b cdivision =
    if is_zero b then Err (fault_of ZeroDivisionError 1)
    else if cdivision then Ok (trunc_mod a b)
    else Ok (floor_mod a b)

-- a count of a shift is at least 0 and below the width
abbrev pub is_count : CType → ℤ → Bool
is_count t count = int_le (pos 0) count && int_lt count (pos (bits t))

-- a shift by a count, where `shifted` tells what it gives
abbrev pub shift_value : CType → ℤ → (ℕ → ℤ) → Result ℤ Fault
shift_value t count shifted = if is_count t count then Ok (shifted (unsigned_abs count)) else Err (fault_of ValueError 5)

-- the word of bits that represents a number in two's complement, at the type's width (ISO C11 6.2.6.2)
abbrev pub word_of : CType → ℤ → ℕ
word_of t n = unsigned_abs (int_rem_euclid n (pos (2 ^ bits t)))

-- the number that the word which `combined` makes of two words represents
abbrev pub bitwise_value : CType → (ℕ → ℕ → ℕ) → ℤ → ℤ → ℤ
bitwise_value t combined a b = wrap t (pos (combined (word_of t a) (word_of t b)))

abbrev pub is_shift : BinOp → Bool
is_shift Add = false
is_shift Sub = false
is_shift Mul = false
is_shift FloorDiv = false
is_shift Mod = false
is_shift Shl = true
is_shift Shr = true
is_shift BitAnd = false
is_shift BitOr = false
is_shift BitXor = false

-- what may stand on the right of an operator: a value of the type, and any number as the count of a shift
abbrev pub IsOperand : BinOp → CType → ℤ → Type 0
IsOperand op t b = IsFalse (is_shift op) → IsInRange t b

-- the result of an operator on values of the type, or its fault
abbrev pub binary_value : BinOp → CType → ℤ → ℤ → Bool → Result ℤ Fault
binary_value Add t a b cdivision = Ok (wrap t (a +ℤ b))
binary_value Sub t a b cdivision = Ok (wrap t (a -ℤ b))
binary_value Mul t a b cdivision = Ok (wrap t (a *ℤ b))
binary_value FloorDiv t a b cdivision = quotient_value t a b cdivision
binary_value Mod t a b cdivision = remainder_value t a b cdivision
binary_value Shl t a b cdivision = shift_value t b (λ count. wrap t (a *ℤ pos (2 ^ count)))
binary_value Shr t a b cdivision = shift_value t b (λ count. floor_div a (pos (2 ^ count)))
binary_value BitAnd t a b cdivision = Ok (bitwise_value t bit_and a b)
binary_value BitOr t a b cdivision = Ok (bitwise_value t bit_or a b)
binary_value BitXor t a b cdivision = Ok (bitwise_value t bit_xor a b)

abbrev pub unary_value : UnOp → CType → ℤ → ℤ
unary_value Plus t a = wrap t a
unary_value Minus t a = wrap t (neg_ℤ a)
-- each bit of the word is turned
unary_value Invert t a = wrap t (pos (2 ^ bits t - 1 - word_of t a))

abbrev pub compare_value : CmpOp → ℤ → ℤ → Bool
compare_value Lt a b = int_lt a b
compare_value Gt a b = int_lt b a
compare_value Le a b = int_le a b
compare_value Ge a b = int_le b a
compare_value Eq a b = int_le a b && int_le b a
compare_value Ne a b = not (int_le a b && int_le b a)

-- what a comparison says
abbrev pub Compares : CmpOp → ℤ → ℤ → Type 0
Compares Lt a b = a <ℤ b
Compares Gt a b = b <ℤ a
Compares Le a b = a ≤ℤ b
Compares Ge a b = b ≤ℤ a
Compares Eq a b = a ≡ b
Compares Ne a b = a ≢ b
