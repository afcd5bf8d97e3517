-- The results of the operators: they are values of the type, and a division overflows at one pair alone.
use Rattle.std.proofs.Common.{◌≡◌, ◌≢◌, ℕ, zero, suc, ◌<◌, ◌^◌, ℤ, pos, negsuc, neg_ℤ, ◌&&◌, ◌-◌, ◌+ℤ◌, ◌-ℤ◌, ◌*ℤ◌, ◌≤ℤ◌, ◌<ℤ◌, refl, sym, ◌∙◌, ap, subst, arith, ◌⊎◌, inl, inr, ⊎_elim, Bool, true, false, ◌==◌, if◌then◌else◌, int_lt, int_le, unsigned_abs, bit_and, bit_or, bit_xor, IfOk, Ok, Err}
use Rattle.std.specs.Int.{w128, cast_unsigned}
use Rattle.std.proofs.lemmas.Bool.Decides.{nat_tests}
use Rattle.std.proofs.lemmas.Int.{ints}
use Rattle.std.proofs.lemmas.Nat.{div-add-mod', pow_pos, and_le_l, or_lt, xor_lt}
use Rattle.px_base.specs.declared.c_types.CType.{CType}
use Rattle.px_base.specs.declared.c_types.CType.TheVariants.{SChar, UChar, Char, Short, UShort, Int, UInt, Long, ULong, LongLong, ULongLong, SsizeT, SizeT, Bint}
use Rattle.px_base.specs.declared.c_types.BinOp.{BinOp}
use Rattle.px_base.specs.declared.c_types.BinOp.TheVariants.{Add, Sub, Mul, FloorDiv, Mod, Shl, Shr, BitAnd, BitOr, BitXor}
use Rattle.px_base.specs.declared.faults.Kind.TheVariants.{ZeroDivisionError, OverflowError, ValueError}
use Rattle.px_base.specs.declared.c_types.UnOp.{UnOp}
use Rattle.px_base.specs.declared.c_types.UnOp.TheVariants.{Plus, Minus, Invert}
use Rattle.px_ctypes.specs.Types.{bits, least, greatest, IsInRange, IsValueOf}
use Rattle.px_ctypes.specs.Division.{floor_div, floor_mod, trunc_div, trunc_mod}
use Rattle.px_ctypes.specs.Operators.{fault_of, is_zero, is_count, word_of, bitwise_value, IsOperand, binary_value, unary_value}
use Rattle.px_ctypes.specs.Conversions.{converted, object_value}
use Rattle.px_ctypes.specs.Wrapping.{wrap}
use Rattle.px_ctypes.proofs.TypeLaws.{on_all}
use Rattle.px_ctypes.proofs.DivisionLaws.{floored, truncated, trunc_mod-rem}
use Rattle.px_ctypes.proofs.WrapLaws.{wrap-in_range, wrap_of_in_range, wrap-mul_left, wrap-add_left, zero_in_range, word_below, word-wrap}

range_shape : (t : CType) → (least t ≡ pos 0) ⊎ (least t +ℤ greatest t ≡ negsuc 0)
range_shape = on_all (λ t. (least t ≡ pos 0) ⊎ (least t +ℤ greatest t ≡ negsuc 0))
    (inr refl) (inl refl) (inr refl) (inr refl) (inl refl) (inr refl) (inl refl) (inr refl) (inl refl) (inr refl) (inl refl) (inr refl) (inl refl) (inr refl)

-- ---- quotients by magnitudes

least_over_minus_one : (low top : ℤ) (a b : ℤ) → pos 0 ≤ℤ top → (low ≡ pos 0) ⊎ (low +ℤ top ≡ negsuc 0) → low ≤ℤ a → a ≤ℤ top → b ≢ pos 0 → top <ℤ floor_div a b → low ≤ℤ b → (a ≡ low) × (b ≡ negsuc 0)
least_over_minus_one low top a (pos zero) z s h k n o p = absurd (n refl)
least_over_minus_one low top (pos a) (pos (suc b)) z s h k n o p = absurd (omega (arith, ints, div-add-mod' a (suc b)))
least_over_minus_one low top (negsuc a) (pos (suc b)) z s h k n o p = absurd (omega (arith, ints))
least_over_minus_one low top (pos zero) (negsuc b) z s h k n o p = absurd (omega (arith, ints))
least_over_minus_one low top (pos (suc a)) (negsuc b) z s h k n o p = absurd (omega (arith, ints))
least_over_minus_one low top (negsuc a) (negsuc zero) z s h k n o p = ⊎_elim
    (λ (e : low ≡ pos 0). absurd (omega (arith, ints)))
    (λ (e : low +ℤ top ≡ negsuc 0). (omega (arith, ints, div-add-mod' (suc a) 1), refl)) s
least_over_minus_one low top (negsuc a) (negsuc (suc b)) z s h k n o p = ⊎_elim
    (λ (e : low ≡ pos 0). absurd (omega (arith, ints)))
    (λ (e : low +ℤ top ≡ negsuc 0). absurd (omega (arith, ints, div-add-mod' (suc a) (suc (suc b))))) s

over_minus_one : (low top : ℤ) (a : ℤ) → pos 0 ≤ℤ top → (low ≡ pos 0) ⊎ (low +ℤ top ≡ negsuc 0) → low ≤ℤ negsuc 0 → a ≡ low → top <ℤ floor_div a (negsuc 0)
over_minus_one low top (pos a) z s h e = ⊎_elim
    (λ (f : low ≡ pos 0). absurd (omega (arith, ints)))
    (λ (f : low +ℤ top ≡ negsuc 0). absurd (omega (arith, ints))) s
over_minus_one low top (negsuc a) z s h e = ⊎_elim
    (λ (f : low ≡ pos 0). absurd (omega (arith, ints)))
    (λ (f : low +ℤ top ≡ negsuc 0). omega (arith, ints, div-add-mod' (suc a) 1)) s

-- a quotient that is rounded down passes the greatest value at the least value over -1 alone
pub overflows : (t : CType) (a b : ℤ) → IsInRange t a → IsInRange t b → b ≢ pos 0 → greatest t <ℤ floor_div a b → (a ≡ least t) × (b ≡ negsuc 0)
overflows t a b h k n o = least_over_minus_one (least t) (greatest t) a b (zero_in_range t).1 (range_shape t) h.0 h.1 n o k.0

pub overflows_there : (t : CType) (a b : ℤ) → IsInRange t b → (a ≡ least t) × (b ≡ negsuc 0) → greatest t <ℤ floor_div a b
overflows_there t a b k e = subst (λ x. greatest t <ℤ floor_div a x) (sym e.1)
    (over_minus_one (least t) (greatest t) a (zero_in_range t).1 (range_shape t) (subst (λ x. least t ≤ℤ x) e.1 k.0) e.0)

-- ---- results are values

quotient_low : (low top a b : ℤ) → pos 0 ≤ℤ top → (low ≡ pos 0) ⊎ (low +ℤ top ≡ negsuc 0) → low ≤ℤ a → a ≤ℤ top → low ≤ℤ b → b ≢ pos 0 → low ≤ℤ floor_div a b
quotient_low low top a (pos zero) z s h k l n = absurd (n refl)
quotient_low low top (pos a) (pos (suc b)) z s h k l n = ⊎_elim (λ (e : low ≡ pos 0). omega (arith, ints)) (λ (e : low +ℤ top ≡ negsuc 0). omega (arith, ints)) s
quotient_low low top (negsuc a) (pos (suc b)) z s h k l n = omega (arith, ints, div-add-mod' a (suc b))
quotient_low low top (pos zero) (negsuc b) z s h k l n = omega (arith, ints)
quotient_low low top (pos (suc a)) (negsuc b) z s h k l n = ⊎_elim (λ (e : low ≡ pos 0). absurd (omega (arith, ints))) (λ (e : low +ℤ top ≡ negsuc 0). omega (arith, ints, div-add-mod' a (suc b))) s
quotient_low low top (negsuc a) (negsuc b) z s h k l n = omega (arith, ints)

pub floor_div-in_range : (t : CType) (a b : ℤ) → IsInRange t a → IsInRange t b → b ≢ pos 0 → floor_div a b ≤ℤ greatest t → IsInRange t (floor_div a b)
floor_div-in_range t a b h k n l = (quotient_low (least t) (greatest t) a b (zero_in_range t).1 (range_shape t) h.0 h.1 k.0 n, l)

pub floor_mod-in_range : (t : CType) (a b : ℤ) → IsInRange t b → b ≢ pos 0 → IsInRange t (floor_mod a b)
floor_mod-in_range t a (pos zero) k n = absurd (n refl)
floor_mod-in_range t a (pos (suc b)) k n = let r = (floored a (pos (suc b)) n).above (omega (arith, ints)) in let z = zero_in_range t in (omega (arith, ints, r.0, z.0), omega (arith, ints, r.1, k.1))
floor_mod-in_range t a (negsuc b) k n = let r = (floored a (negsuc b) n).below (omega (arith, ints)) in let z = zero_in_range t in (omega (arith, ints, r.0, k.0), omega (arith, ints, r.1, z.1))

pub trunc_mod-in_range : (t : CType) (a b : ℤ) → IsInRange t a → b ≢ pos 0 → IsInRange t (trunc_mod a b)
trunc_mod-in_range t (pos a) b h n = let z = zero_in_range t in let e = trunc_mod-rem (pos a) b in
    (omega (arith, ints, e, z.0), omega (arith, ints, e, h.1, div-add-mod' a (unsigned_abs b)))
trunc_mod-in_range t (negsuc a) b h n = let z = zero_in_range t in let e = trunc_mod-rem (negsuc a) b in
    (omega (arith, ints, e, h.0, div-add-mod' (suc a) (unsigned_abs b)), omega (arith, ints, e, z.1))

shifted_in_range : (t : CType) (a : ℤ) (m : ℕ) → 0 < m → IsInRange t a → IsInRange t (floor_div a (pos m))
shifted_in_range t a zero p h = absurd (omega arith)
shifted_in_range t (pos a) (suc m) p h = let z = zero_in_range t in (omega (arith, ints, z.0), omega (arith, ints, h.1, div-add-mod' a (suc m)))
shifted_in_range t (negsuc a) (suc m) p h = let z = zero_in_range t in (omega (arith, ints, h.0, div-add-mod' a (suc m)), omega (arith, ints, z.1))

not_zero : (b : ℤ) → is_zero b ≡ false → b ≢ pos 0
not_zero b e z = let t = ap is_zero z in cc

quotient_by : (t : CType) (a b : ℤ) (none cdivision over : Bool) → is_zero b ≡ none → int_lt (greatest t) (floor_div a b) ≡ over → IsInRange t a → IsInRange t b
    → IfOk (if none then Err (fault_of ZeroDivisionError 1) else if cdivision then Ok (wrap t (trunc_div a b)) else if over then Err (fault_of OverflowError 3) else Ok (floor_div a b)) (λ n. IsInRange t n)
quotient_by t a b true cdivision over e f h k = tt
quotient_by t a b false true over e f h k = wrap-in_range t (trunc_div a b)
quotient_by t a b false false true e f h k = tt
quotient_by t a b false false false e f h k = floor_div-in_range t a b h k (not_zero b e) (omega (arith, ints, f))

remainder_by : (t : CType) (a b : ℤ) (none cdivision : Bool) → is_zero b ≡ none → IsInRange t a → IsInRange t b
    → IfOk (if none then Err (fault_of ZeroDivisionError 1) else if cdivision then Ok (trunc_mod a b) else Ok (floor_mod a b)) (λ n. IsInRange t n)
remainder_by t a b true cdivision e h k = tt
remainder_by t a b false true e h k = trunc_mod-in_range t a b h (not_zero b e)
remainder_by t a b false false e h k = floor_mod-in_range t a b k (not_zero b e)

shift_by : (t : CType) (counts : Bool) (n : ℤ) → IsInRange t n → IfOk (if counts then Ok n else Err (fault_of ValueError 5)) (λ n. IsInRange t n)
shift_by t true n h = h
shift_by t false n h = tt

-- the result of a binary operator is a value of the type
pub binary_in_range : (op : BinOp) (t : CType) (a b : ℤ) (cdivision : Bool) → IsInRange t a → IsOperand op t b → IfOk (binary_value op t a b cdivision) (λ n. IsInRange t n)
binary_in_range Add t a b cdivision h k = wrap-in_range t (a +ℤ b)
binary_in_range Sub t a b cdivision h k = wrap-in_range t (a -ℤ b)
binary_in_range Mul t a b cdivision h k = wrap-in_range t (a *ℤ b)
binary_in_range FloorDiv t a b cdivision h k = quotient_by t a b (is_zero b) cdivision (int_lt (greatest t) (floor_div a b)) refl refl h (k refl)
binary_in_range Mod t a b cdivision h k = remainder_by t a b (is_zero b) cdivision refl h (k refl)
binary_in_range Shl t a b cdivision h k = shift_by t (is_count t b) (wrap t (a *ℤ pos (2 ^ unsigned_abs b))) (wrap-in_range t (a *ℤ pos (2 ^ unsigned_abs b)))
binary_in_range Shr t a b cdivision h k = shift_by t (is_count t b) (floor_div a (pos (2 ^ unsigned_abs b))) (shifted_in_range t a (2 ^ unsigned_abs b) (pow_pos (unsigned_abs b)) h)
binary_in_range BitAnd t a b cdivision h k = wrap-in_range t (pos (bit_and (word_of t a) (word_of t b)))
binary_in_range BitOr t a b cdivision h k = wrap-in_range t (pos (bit_or (word_of t a) (word_of t b)))
binary_in_range BitXor t a b cdivision h k = wrap-in_range t (pos (bit_xor (word_of t a) (word_of t b)))

pub unary_in_range : (op : UnOp) (t : CType) (a : ℤ) → IsInRange t (unary_value op t a)
unary_in_range Plus t a = wrap-in_range t a
unary_in_range Minus t a = wrap-in_range t (neg_ℤ a)
unary_in_range Invert t a = wrap-in_range t (pos (2 ^ bits t - 1 - word_of t a))

truth_by : (none : Bool) → IsValueOf Bint (if none then pos 0 else pos 1)
truth_by true = (omega (arith, ints), omega (arith, ints))
truth_by false = (omega (arith, ints), omega (arith, ints))

-- what is converted is a value of the type
pub converted_value : (t : CType) (n : ℤ) → IsValueOf t (converted t n)
converted_value Bint n = truth_by (is_zero n)
converted_value SChar n = wrap-in_range SChar n
converted_value UChar n = wrap-in_range UChar n
converted_value Char n = wrap-in_range Char n
converted_value Short n = wrap-in_range Short n
converted_value UShort n = wrap-in_range UShort n
converted_value Int n = wrap-in_range Int n
converted_value UInt n = wrap-in_range UInt n
converted_value Long n = wrap-in_range Long n
converted_value ULong n = wrap-in_range ULong n
converted_value LongLong n = wrap-in_range LongLong n
converted_value ULongLong n = wrap-in_range ULongLong n
converted_value SsizeT n = wrap-in_range SsizeT n
converted_value SizeT n = wrap-in_range SizeT n

object_by : (t : CType) (n : ℤ) (low high : Bool) → int_le (least t) n ≡ low → int_le n (greatest t) ≡ high → IfOk (if low && high then Ok n else Err (fault_of OverflowError 2)) (λ n. IsInRange t n)
object_by t n true true e f = (omega (arith, ints, e), omega (arith, ints, f))
object_by t n true false e f = tt
object_by t n false high e f = tt

pub object_in_range : (t : CType) (n : ℤ) → IfOk (object_value t n) (λ n. IsInRange t n)
object_in_range t n = object_by t n (int_le (least t) n) (int_le n (greatest t)) refl refl

-- ---- least over -1

pub least_wraps : (t : CType) → wrap t (trunc_div (least t) (negsuc 0)) ≡ least t
unfolding wrap
least_wraps = on_all (λ t. wrap t (trunc_div (least t) (negsuc 0)) ≡ least t) refl refl refl refl refl refl refl refl refl refl refl refl refl refl

minus_one : negsuc 0 ≢ pos 0
minus_one e = cc

pub floored_by_minus_one : (a : ℤ) → floor_mod a (negsuc 0) ≡ pos 0
floored_by_minus_one a = let r = (floored a (negsuc 0) minus_one).below (omega (arith, ints)) in omega (arith, ints, r.0, r.1)

pub truncated_by_minus_one : (a : ℤ) → trunc_mod a (negsuc 0) ≡ pos 0
truncated_by_minus_one a = let r = (truncated a (negsuc 0) minus_one).smaller in omega (arith, ints, r)

-- ---- quotient and remainder give the dividend back

give_back_by : (t : CType) (a b q r : ℤ) (none cdivision over : Bool) → IsInRange t a
    → Ok q ≡ (if none then Err (fault_of ZeroDivisionError 1) else if cdivision then Ok (wrap t (trunc_div a b)) else if over then Err (fault_of OverflowError 3) else Ok (floor_div a b))
    → Ok r ≡ (if none then Err (fault_of ZeroDivisionError 1) else if cdivision then Ok (trunc_mod a b) else Ok (floor_mod a b))
    → wrap t (wrap t (q *ℤ b) +ℤ r) ≡ a
give_back_by t a b q r true cdivision over h e f = absurd cc
give_back_by t a b q r false true over h e f =
    let one : q ≡ wrap t (trunc_div a b) = cc in
    let two : r ≡ trunc_mod a b = cc in
    let sum : (trunc_div a b *ℤ b) +ℤ trunc_mod a b ≡ a = omega (arith, ints) in
    (λ i. wrap t (wrap t (one i *ℤ b) +ℤ two i))
    ∙ ap (λ x. wrap t (x +ℤ trunc_mod a b)) (wrap-mul_left t (trunc_div a b) b)
    ∙ wrap-add_left t (trunc_div a b *ℤ b) (trunc_mod a b) ∙ ap (wrap t) sum ∙ wrap_of_in_range t a h
give_back_by t a b q r false false true h e f = absurd cc
give_back_by t a b q r false false false h e f =
    let one : q ≡ floor_div a b = cc in
    let two : r ≡ floor_mod a b = cc in
    let sum : (floor_div a b *ℤ b) +ℤ floor_mod a b ≡ a = omega (arith, ints) in
    (λ i. wrap t (wrap t (one i *ℤ b) +ℤ two i))
    ∙ wrap-add_left t (floor_div a b *ℤ b) (floor_mod a b) ∙ ap (wrap t) sum ∙ wrap_of_in_range t a h

pub give_back : (t : CType) (a b q r : ℤ) (cdivision : Bool) → IsInRange t a → binary_value FloorDiv t a b cdivision ≡ Ok q → binary_value Mod t a b cdivision ≡ Ok r → wrap t (wrap t (q *ℤ b) +ℤ r) ≡ a
give_back t a b q r cdivision h e f = give_back_by t a b q r (is_zero b) cdivision (int_lt (greatest t) (floor_div a b)) h (sym e) (sym f)

-- ---- words of results

pub word-and : (t : CType) (a b : ℤ) → word_of t (bitwise_value t bit_and a b) ≡ bit_and (word_of t a) (word_of t b)
word-and t a b = word-wrap t (bit_and (word_of t a) (word_of t b)) (omega (arith, and_le_l (word_of t a) (word_of t b), word_below t a))

pub word-or : (t : CType) (a b : ℤ) → word_of t (bitwise_value t bit_or a b) ≡ bit_or (word_of t a) (word_of t b)
word-or t a b = word-wrap t (bit_or (word_of t a) (word_of t b)) (or_lt (bits t) (word_of t a) (word_of t b) (word_below t a) (word_below t b))

pub word-xor : (t : CType) (a b : ℤ) → word_of t (bitwise_value t bit_xor a b) ≡ bit_xor (word_of t a) (word_of t b)
word-xor t a b = word-wrap t (bit_xor (word_of t a) (word_of t b)) (xor_lt (bits t) (word_of t a) (word_of t b) (word_below t a) (word_below t b))

pub word-not : (t : CType) (a : ℤ) → word_of t (unary_value Invert t a) ≡ 2 ^ bits t - 1 - word_of t a
word-not t a = word-wrap t (2 ^ bits t - 1 - word_of t a) (omega (arith, word_below t a))

-- ---- the code's tests

suc_nonzero : (n : ℕ) → (suc n == 0) ≡ false
suc_nonzero n = grind (arith, nat_tests)

pub tested_nonzero : (b : ℤ) → (cast_unsigned w128 b ≡ 0 → ⊥) → is_zero b ≡ false
tested_nonzero (pos zero) h = absurd (h refl)
tested_nonzero (pos (suc n)) h = suc_nonzero n
tested_nonzero (negsuc n) h = suc_nonzero n

pub remainder_truncated : (a b r : ℤ) (none cdivision : Bool) → none ≡ false → cdivision ≡ true → r ≡ trunc_mod a b
    → Ok r ≡ (if none then Err (fault_of ZeroDivisionError 1) else if cdivision then Ok (trunc_mod a b) else Ok (floor_mod a b))
remainder_truncated a b r true cdivision e f g = cc
remainder_truncated a b r false true e f g = ap Ok g
remainder_truncated a b r false false e f g = cc

pub remainder_floored : (a b r : ℤ) (none cdivision : Bool) → none ≡ false → cdivision ≡ false → r ≡ floor_mod a b
    → Ok r ≡ (if none then Err (fault_of ZeroDivisionError 1) else if cdivision then Ok (trunc_mod a b) else Ok (floor_mod a b))
remainder_floored a b r true cdivision e f g = cc
remainder_floored a b r false true e f g = cc
remainder_floored a b r false false e f g = ap Ok g
