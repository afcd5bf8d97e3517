-- Numbers as their words, in tests.
use Rattle.std.proofs.Common.{◌≡◌, ◌≢◌, ℕ, zero, suc, ℤ, pos, negsuc, ◌-ℤ◌, true, false, SFits, of_z, to_z, int_lt, unsigned_abs, refl, sym, ap, ◌∙◌, arith}
use Rattle.std.specs.Prelude.{if◌then◌else◌}
use Rattle.std.specs.Int.{w128}
use Rattle.std.proofs.lemmas.Bool.{false≢true, ne_eqb}
use Rattle.std.proofs.lemmas.Int.{ints, to_z-of_z}
use Rattle.px_base.specs.declared.c_types.CType.{CType}
use Rattle.px_base.specs.declared.c_types.CType.TheVariants as c
use Rattle.px_ctypes.specs.Types.{IsInRange}
use Rattle.px_ctypes.specs.Operators.{is_zero}

is_zero_there : (n : ℤ) → SFits w128 n → of_z w128 n ≡ 0 → is_zero n ≡ true
is_zero_there n fits e = let is : n ≡ pos 0 = sym (to_z-of_z w128 n fits) ∙ ap (to_z w128) e in ap is_zero is

no_zero : (n : ℤ) → of_z w128 n ≢ 0 → is_zero n ≡ false
no_zero (pos zero) d = absurd (d refl)
no_zero (pos (suc k)) d = ne_eqb (suc k) 0 (λ e. omega (arith, e))
no_zero (negsuc k) d = ne_eqb (suc k) 0 (λ e. omega (arith, e))

pub where_zero : (n : ℤ) → SFits w128 n → of_z w128 n ≡ 0 → (j k : ℕ) → (if is_zero n then j else k) ≡ j
where_zero n fits e j k = rw (is_zero_there n fits e) refl

pub where_other : (n : ℤ) → of_z w128 n ≢ 0 → (j k : ℕ) → (if is_zero n then j else k) ≡ k
where_other n d j k = rw (no_zero n d) refl

fits_positive : (t : CType) (a : ℕ) → IsInRange t (negsuc a) → SFits w128 (pos (suc a))
fits_positive c.SChar a h = search (arith, ints)
fits_positive c.UChar a h = search (arith, ints)
fits_positive c.Char a h = search (arith, ints)
fits_positive c.Short a h = search (arith, ints)
fits_positive c.UShort a h = search (arith, ints)
fits_positive c.Int a h = search (arith, ints)
fits_positive c.UInt a h = search (arith, ints)
fits_positive c.Long a h = search (arith, ints)
fits_positive c.ULong a h = search (arith, ints)
fits_positive c.LongLong a h = search (arith, ints)
fits_positive c.ULongLong a h = search (arith, ints)
fits_positive c.SsizeT a h = search (arith, ints)
fits_positive c.SizeT a h = search (arith, ints)
fits_positive c.Bint a h = search (arith, ints)

not_negative : (a : ℕ) → int_lt (pos a) (pos 0) ≡ false
not_negative a = grind (arith, ints)

pub negated : (t : CType) (n : ℤ) → IsInRange t n → int_lt n (pos 0) ≡ true → to_z w128 (of_z w128 (pos 0 -ℤ n)) ≡ pos (unsigned_abs n)
negated t (pos a) h e = absurd (false≢true (sym (not_negative a) ∙ e))
negated t (negsuc a) h e =
    let is : pos 0 -ℤ negsuc a ≡ pos (suc a) = omega (arith, ints) in
    ap (λ n. to_z w128 (of_z w128 n)) is ∙ to_z-of_z w128 (pos (suc a)) (fits_positive t a h)

pub not_negated : (n : ℤ) → int_lt n (pos 0) ≡ false → n ≡ pos (unsigned_abs n)
not_negated (pos a) e = refl
not_negated (negsuc a) e = absurd (false≢true (sym e))
