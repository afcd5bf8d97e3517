-- Numbers of C types, and registers that hold them.
use Rattle.std.proofs.Common.{◌≡◌, ◌≢◌, zero, suc, ◌/◌, Bool, true, false, refl, subst, arith}
use Rattle.std.specs.Prelude.{ℤ, pos, negsuc, IsFalse}
use Rattle.std.proofs.lemmas.Int.{ints}
use Rattle.px_base.specs.declared.c_types.CType.{CType}
use Rattle.px_base.specs.declared.c_types.CType.TheVariants.{SChar, UChar, Char, Short, UShort, Int, UInt, Long, ULong, LongLong, ULongLong, SsizeT, SizeT, Bint}
use Rattle.px_base.specs.declared.c_types.BinOp.{BinOp}
use Rattle.px_ctypes.specs.Types.{bits, IsInRange, IsValueOf}
use Rattle.px_ctypes.specs.Conversions.{converted}
use Rattle.px_ctypes.specs.Operators.{is_shift, IsOperand}
use Rattle.px_ctypes.proofs.WrapLaws.{wrap_of_in_range}
use Rattle.px_meaning.specs.Expressions.{of_truth}
use Rattle.px_machine.specs.Machine.{right_operand}

truth_same : (n : ℤ) → IsValueOf Bint n → converted Bint n ≡ n
truth_same (pos zero) v = refl
truth_same (pos (suc zero)) v = refl
truth_same (pos (suc (suc k))) v = absurd (omega (arith, ints, v.1))
truth_same (negsuc k) v = absurd (omega (arith, ints, v.0))

pub converted_same : (t : CType) (n : ℤ) → IsValueOf t n → converted t n ≡ n
converted_same SChar n v = wrap_of_in_range SChar n v
converted_same UChar n v = wrap_of_in_range UChar n v
converted_same Char n v = wrap_of_in_range Char n v
converted_same Short n v = wrap_of_in_range Short n v
converted_same UShort n v = wrap_of_in_range UShort n v
converted_same Int n v = wrap_of_in_range Int n v
converted_same UInt n v = wrap_of_in_range UInt n v
converted_same Long n v = wrap_of_in_range Long n v
converted_same ULong n v = wrap_of_in_range ULong n v
converted_same LongLong n v = wrap_of_in_range LongLong n v
converted_same ULongLong n v = wrap_of_in_range ULongLong n v
converted_same SsizeT n v = wrap_of_in_range SsizeT n v
converted_same SizeT n v = wrap_of_in_range SizeT n v
converted_same Bint n v = truth_same n v

pub in_range : (t : CType) (n : ℤ) → t ≢ Bint → IsValueOf t n → IsInRange t n
in_range SChar n other v = v
in_range UChar n other v = v
in_range Char n other v = v
in_range Short n other v = v
in_range UShort n other v = v
in_range Int n other v = v
in_range UInt n other v = v
in_range Long n other v = v
in_range ULong n other v = v
in_range LongLong n other v = v
in_range ULongLong n other v = v
in_range SsizeT n other v = v
in_range SizeT n other v = v
in_range Bint n other v = absurd (other refl)

pub value_in_range : (t : CType) (n : ℤ) → t ≢ Bint → IsInRange t n → IsValueOf t n
value_in_range SChar n other v = v
value_in_range UChar n other v = v
value_in_range Char n other v = v
value_in_range Short n other v = v
value_in_range UShort n other v = v
value_in_range Int n other v = v
value_in_range UInt n other v = v
value_in_range Long n other v = v
value_in_range ULong n other v = v
value_in_range LongLong n other v = v
value_in_range ULongLong n other v = v
value_in_range SsizeT n other v = v
value_in_range SizeT n other v = v
value_in_range Bint n other v = absurd (other refl)

pub truth_value : (b : Bool) → IsValueOf Bint (of_truth b)
truth_value true = (omega (arith, ints), omega (arith, ints))
truth_value false = (omega (arith, ints), omega (arith, ints))

pub size_value : (t : CType) → IsValueOf SizeT (pos (bits t / 8))
size_value SChar = (omega (arith, ints), omega (arith, ints))
size_value UChar = (omega (arith, ints), omega (arith, ints))
size_value Char = (omega (arith, ints), omega (arith, ints))
size_value Short = (omega (arith, ints), omega (arith, ints))
size_value UShort = (omega (arith, ints), omega (arith, ints))
size_value Int = (omega (arith, ints), omega (arith, ints))
size_value UInt = (omega (arith, ints), omega (arith, ints))
size_value Long = (omega (arith, ints), omega (arith, ints))
size_value ULong = (omega (arith, ints), omega (arith, ints))
size_value LongLong = (omega (arith, ints), omega (arith, ints))
size_value ULongLong = (omega (arith, ints), omega (arith, ints))
size_value SsizeT = (omega (arith, ints), omega (arith, ints))
size_value SizeT = (omega (arith, ints), omega (arith, ints))
size_value Bint = (omega (arith, ints), omega (arith, ints))

-- the right operand of code is that of the source

right_by : (op : BinOp) (t given : CType) (b : ℤ) (shifts : Bool) → is_shift op ≡ shifts → (IsFalse (is_shift op) → given ≡ t) → IsValueOf given b
    → right_operand op t b ≡ b
right_by op t given b true is same v = rw is refl
right_by op t given b false is same v =
    let value : IsValueOf t b = subst (λ u. IsValueOf u b) (same is) v in
    rw is (converted_same t b value)

pub right_same : (op : BinOp) (t given : CType) (b : ℤ) → (IsFalse (is_shift op) → given ≡ t) → IsValueOf given b → right_operand op t b ≡ b
right_same op t given b same v = right_by op t given b (is_shift op) refl same v

pub operand_fits : (op : BinOp) (t given : CType) (b : ℤ) → t ≢ Bint → (IsFalse (is_shift op) → given ≡ t) → IsValueOf given b → IsOperand op t b
operand_fits op t given b other same v plain = in_range t b other (subst (λ u. IsValueOf u b) (same plain) v)
