-- The laws of `wrap`: it gives the one number of the range that is congruent, and respects + - *.
use Rattle.std.proofs.Common.{◌≡◌, ℕ, ◌<◌, ◌≤◌, ◌^◌, ◌-◌, ◌+◌, ◌*◌, ◌/◌, ◌%◌, suc, ℤ, pos, negsuc, neg_ℤ, ◌+ℤ◌, ◌-ℤ◌, ◌*ℤ◌, ◌≤ℤ◌, ◌<ℤ◌, refl, sym, ◌∙◌, ap, subst, arith, ◌⊎◌, inl, inr, ⊎_elim, bit_and, bit_xor, FitsSigned, unsigned_abs, Bool, true, false, if◌then◌else◌}
use Rattle.std.specs.Int.{int_rem_euclid, w128, cast_signed, cast_unsigned}
use Rattle.std.proofs.lemmas.Int.{ints, int_rem_euclid_is, to_z_pos}
use Rattle.std.proofs.lemmas.Nat.{pow_pos, div-add-mod', mod_below, and_mask, xor_block, pow-add, pow_below}
use Rattle.std.proofs.Math.Nat.{suc-mul, mul-le-mul_right, mod-eq_of_lt}
use Rattle.std.proofs.lemmas.Bool.{cases_lt, cases_order}
use Rattle.std.proofs.lemmas.Grind.{common_steps}
use lib.IntN.{+ℤ_comm, *ℤ_comm}
use borrow.Author.Differences.{up, down}
use Rattle.px_base.specs.declared.c_types.CType.{CType}
use Rattle.px_base.specs.declared.c_types.CType.TheVariants.{SChar, UChar, Char, Short, UShort, Int, UInt, Long, ULong, LongLong, ULongLong, SsizeT, SizeT, Bint}
use Rattle.px_ctypes.proofs.Products.{*ℤ-distrib, neg-*ℤ, *ℤ-swap, *ℤ-assoc}
use Rattle.px_ctypes.proofs.TypeLaws.{on_all}
use Rattle.px_ctypes.specs.Types.{bits, is_signed, least, greatest, IsInRange}
use Rattle.px_ctypes.specs.Operators.{word_of, bitwise_value}
use Rattle.px_ctypes.specs.Wrapping.{IsCongruent, IsWrapped, wrap}

-- the range of a type has 2 ^ width numbers
pub greatest_is : (t : CType) → greatest t +ℤ pos 1 ≡ least t +ℤ pos (2 ^ bits t)
greatest_is SChar = refl
greatest_is UChar = refl
greatest_is Char = refl
greatest_is Short = refl
greatest_is UShort = refl
greatest_is Int = refl
greatest_is UInt = refl
greatest_is Long = refl
greatest_is ULong = refl
greatest_is LongLong = refl
greatest_is ULongLong = refl
greatest_is SsizeT = refl
greatest_is SizeT = refl
greatest_is Bint = refl

-- 0 is a value of each type
pub zero_in_range : (t : CType) → IsInRange t (pos 0)
zero_in_range SChar = (omega (arith, ints), omega (arith, ints))
zero_in_range UChar = (omega (arith, ints), omega (arith, ints))
zero_in_range Char = (omega (arith, ints), omega (arith, ints))
zero_in_range Short = (omega (arith, ints), omega (arith, ints))
zero_in_range UShort = (omega (arith, ints), omega (arith, ints))
zero_in_range Int = (omega (arith, ints), omega (arith, ints))
zero_in_range UInt = (omega (arith, ints), omega (arith, ints))
zero_in_range Long = (omega (arith, ints), omega (arith, ints))
zero_in_range ULong = (omega (arith, ints), omega (arith, ints))
zero_in_range LongLong = (omega (arith, ints), omega (arith, ints))
zero_in_range ULongLong = (omega (arith, ints), omega (arith, ints))
zero_in_range SsizeT = (omega (arith, ints), omega (arith, ints))
zero_in_range SizeT = (omega (arith, ints), omega (arith, ints))
zero_in_range Bint = (omega (arith, ints), omega (arith, ints))

pub bits_at_most : (t : CType) → bits t ≤ 64
bits_at_most SChar = omega arith
bits_at_most UChar = omega arith
bits_at_most Char = omega arith
bits_at_most Short = omega arith
bits_at_most UShort = omega arith
bits_at_most Int = omega arith
bits_at_most UInt = omega arith
bits_at_most Long = omega arith
bits_at_most ULong = omega arith
bits_at_most LongLong = omega arith
bits_at_most ULongLong = omega arith
bits_at_most SsizeT = omega arith
bits_at_most SizeT = omega arith
bits_at_most Bint = omega arith

pow_at_most : (i j : ℕ) → i ≤ j → 2 ^ i ≤ 2 ^ j
pow_at_most i j h = ⊎_elim (λ e. omega (arith, ap (λ k. 2 ^ k) e)) (λ r. ⊎_elim (λ l. omega (arith, pow_below i j l)) (λ g. absurd (omega arith)) r) (cases_order i j)

pub modulus_fits : (t : CType) → (1 ≤ 2 ^ bits t) × (2 ^ bits t ≤ 2 ^ 64)
modulus_fits t = (pow_pos (bits t), pow_at_most (bits t) 64 (bits_at_most t))

-- ---- remainders

pub residue_same : (z : ℤ) (m : ℕ) → 0 < m → IsCongruent m z (int_rem_euclid z (pos m))
residue_same (pos a) m h = (pos (a / m), omega (arith, ints, div-add-mod' a m))
residue_same (negsuc a) m h = (negsuc (a / m), omega (arith, ints, div-add-mod' a m, suc-mul (a / m) m, mod_below a m h))

pub residue_bounds : (z : ℤ) (m : ℕ) → 0 < m → (pos 0 ≤ℤ int_rem_euclid z (pos m)) × (int_rem_euclid z (pos m) <ℤ pos m)
residue_bounds (pos a) m h = (omega (arith, ints), omega (arith, ints, mod_below a m h))
residue_bounds (negsuc a) m h = (omega (arith, ints), omega (arith, ints, mod_below a m h))

-- the low k bits of a word
low_bits : (n : ℤ) (k : ℕ) → k < 128 → FitsSigned w128 n → cast_signed w128 (bit_and (cast_unsigned w128 n) (2 ^ k - 1)) ≡ int_rem_euclid n (pos (2 ^ k))
low_bits (pos a) k h f =
    let small : a % 2 ^ k < 2 ^ 127 = omega (arith, f.sfits, mod_below a (2 ^ k) (pow_pos k), div-add-mod' a (2 ^ k)) in
    ap (cast_signed w128) (and_mask a k) ∙ to_z_pos w128 (a % 2 ^ k) small
low_bits (negsuc a) k h f =
    let word = 2 ^ 128 - (a + 1) in
    let same : 2 ^ 128 - suc a ≡ word = omega arith in
    let below : word % 2 ^ k < 2 ^ k = mod_below word (2 ^ k) (pow_pos k) in
    let sum : 128 - k + k ≡ 128 = omega arith in
    let whole : 2 ^ (128 - k) * 2 ^ k ≡ 2 ^ 128 = sym (pow-add 2 (128 - k) k) ∙ ap (λ j. 2 ^ j) sum in
    let rest : int_rem_euclid (negsuc a) (pos (2 ^ k)) ≡ pos (word % 2 ^ k) = int_rem_euclid_is (negsuc a) (pos (2 ^ k)) (2 ^ k) (2 ^ (128 - k)) word (pow_pos k) refl (omega (arith, ints, whole, f.sfits)) in
    ap (cast_signed w128) (ap (λ w. bit_and w (2 ^ k - 1)) same ∙ and_mask word k) ∙ to_z_pos w128 (word % 2 ^ k) (omega (arith, below, pow_at_most k 127 (omega arith))) ∙ sym rest

pub low_word_is : (n : ℤ) → FitsSigned w128 n → cast_signed w128 (bit_and (cast_unsigned w128 n) (2 ^ 64 - 1)) ≡ int_rem_euclid n (pos (2 ^ 64))
low_word_is n f = low_bits n 64 (omega arith) f

-- ---- exactly one number

-- two numbers of one window of m that differ by a multiple of m are one
pub apart : (m : ℕ) (low a b : ℤ) (j k : ℤ) → low ≤ℤ a → a <ℤ (low +ℤ pos m) → low ≤ℤ b → b <ℤ (low +ℤ pos m) → a +ℤ (j *ℤ pos m) ≡ b +ℤ (k *ℤ pos m) → a ≡ b
apart m low a b j k p q r s e =
    let over = up j + down k in
    let under = up k + down j in
    let split : a +ℤ pos (over * m) ≡ b +ℤ pos (under * m) = omega (arith, ints) in
    ⊎_elim
    (λ (h : over ≡ under). omega (arith, ints, split, ap (λ x. x * m) h))
    (λ t. ⊎_elim
    (λ (h : over < under). absurd (omega (arith, ints, split, mul-le-mul_right m h)))
    (λ (h : under < over). absurd (omega (arith, ints, split, mul-le-mul_right m h)))
    t)
    (cases_order over under)

pub wrapped_once : (t : CType) (n a b : ℤ) → IsWrapped t n a → IsWrapped t n b → a ≡ b
wrapped_once t n a b p q = apart (2 ^ bits t) (least t) a b p.same.0 q.same.0 p.in_range.0 (omega (arith, ints, greatest_is t)) q.in_range.0 (omega (arith, ints, greatest_is t)) (sym p.same.1 ∙ q.same.1)

pub wrap_wraps : (t : CType) (n : ℤ) → IsWrapped t n (wrap t n)
unfolding wrap
wrap_wraps t n =
    let m = 2 ^ bits t in
    let some = pow_pos (bits t) in
    let bounds = residue_bounds (n -ℤ least t) m some in
    let same = residue_same (n -ℤ least t) m some in
    record { in_range = (omega (arith, ints), omega (arith, ints, greatest_is t)); same = (same.0, omega (arith, ints, same.1)) }

pub wrapped_from : (t : CType) (n r : ℤ) → r ≡ wrap t n → IsWrapped t n r
wrapped_from t n r e = subst (λ x. IsWrapped t n x) (sym e) (wrap_wraps t n)

pub wrap_from : (t : CType) (n r : ℤ) → IsWrapped t n r → r ≡ wrap t n
wrap_from t n r w = wrapped_once t n r (wrap t n) w (wrap_wraps t n)

-- the remainder where it is in range, and else the number 2 ^ width below it
wrap_low : (t : CType) (n low : ℤ) → low ≡ int_rem_euclid n (pos (2 ^ bits t)) → low ≤ℤ greatest t → low ≡ wrap t n
wrap_low t n low e h =
    let m = 2 ^ bits t in
    let bounds = residue_bounds n m (pow_pos (bits t)) in
    let same = residue_same n m (pow_pos (bits t)) in
    let zero = zero_in_range t in
    wrap_from t n low (record { in_range = (omega (arith, ints), omega (arith, ints)); same = (same.0, omega (arith, ints, same.1)) })

wrap_high : (t : CType) (n low : ℤ) → low ≡ int_rem_euclid n (pos (2 ^ bits t)) → greatest t <ℤ low → low -ℤ pos (2 ^ bits t) ≡ wrap t n
wrap_high t n low e h =
    let some = pow_pos (bits t) in
    let bounds = residue_bounds n (2 ^ bits t) some in
    let same = residue_same n (2 ^ bits t) some in
    let zero = zero_in_range t in
    wrap_from t n _ (record { in_range = (omega (arith, ints, greatest_is t), omega (arith, ints, greatest_is t)); same = (same.0 +ℤ pos 1, omega (arith, ints, same.1, *ℤ-distrib same.0 (pos 1) (pos (2 ^ bits t)))) })

-- ---- laws of `wrap`

pub congruent_sym : (m : ℕ) (a b : ℤ) → IsCongruent m a b → IsCongruent m b a
congruent_sym m a b c = (neg_ℤ c.0, omega (arith, ints, c.1, neg-*ℤ c.0 (pos m)))

pub congruent_trans : (m : ℕ) (a b c : ℤ) → IsCongruent m a b → IsCongruent m b c → IsCongruent m a c
congruent_trans m a b c p q = (p.0 +ℤ q.0, omega (arith, ints, p.1, q.1, *ℤ-distrib p.0 q.0 (pos m)))

pub congruent-add : (m : ℕ) (a b c : ℤ) → IsCongruent m a b → IsCongruent m (a +ℤ c) (b +ℤ c)
congruent-add m a b c p = (p.0, omega (arith, ints, p.1))

pub congruent-neg : (m : ℕ) (a b : ℤ) → IsCongruent m a b → IsCongruent m (neg_ℤ a) (neg_ℤ b)
congruent-neg m a b p = (neg_ℤ p.0, omega (arith, ints, p.1, neg-*ℤ p.0 (pos m)))

pub congruent-mul : (m : ℕ) (a b c : ℤ) → IsCongruent m a b → IsCongruent m (a *ℤ c) (b *ℤ c)
congruent-mul m a b c p = (p.0 *ℤ c, ap (λ x. x *ℤ c) p.1 ∙ *ℤ-distrib b (p.0 *ℤ pos m) c ∙ ap (λ x. (b *ℤ c) +ℤ x) (*ℤ-swap p.0 (pos m) c))

-- numbers that are congruent modulo 2 ^ j are so modulo each lower power
pub congruent_below : (i j : ℕ) (a b : ℤ) → i ≤ j → IsCongruent (2 ^ j) a b → IsCongruent (2 ^ i) a b
congruent_below i j a b h p =
    let sum : j - i + i ≡ j = omega arith in
    let whole : pos (2 ^ (j - i)) *ℤ pos (2 ^ i) ≡ pos (2 ^ j) = ap pos (sym (pow-add 2 (j - i) i) ∙ ap (λ k. 2 ^ k) sum) in
    (p.0 *ℤ pos (2 ^ (j - i)), p.1 ∙ ap (λ x. b +ℤ x) (ap (λ x. p.0 *ℤ x) (sym whole) ∙ sym (*ℤ-assoc p.0 (pos (2 ^ (j - i))) (pos (2 ^ i)))))

-- congruent numbers wrap to one
pub wrap_same : (t : CType) (a b : ℤ) → IsCongruent (2 ^ bits t) a b → wrap t a ≡ wrap t b
wrap_same t a b c =
    let w = wrap_wraps t b in
    sym (wrap_from t a (wrap t b) (record { in_range = w.in_range; same = congruent_trans (2 ^ bits t) a b (wrap t b) c w.same }))

pub wrap-in_range : (t : CType) (n : ℤ) → IsInRange t (wrap t n)
wrap-in_range t n = (wrap_wraps t n).in_range

pub wrap_of_in_range : (t : CType) (n : ℤ) → IsInRange t n → wrap t n ≡ n
wrap_of_in_range t n h = sym (wrap_from t n n (record { in_range = h; same = (pos 0, omega (arith, ints)) }))

pub wrap-wrap : (t : CType) (n : ℤ) → wrap t (wrap t n) ≡ wrap t n
wrap-wrap t n = wrap_of_in_range t (wrap t n) (wrap-in_range t n)

-- the wrapped number in the place of the number
wrapped_back : (t : CType) (a : ℤ) → IsCongruent (2 ^ bits t) (wrap t a) a
wrapped_back t a = congruent_sym (2 ^ bits t) a (wrap t a) (wrap_wraps t a).same

pub wrap-add_left : (t : CType) (a b : ℤ) → wrap t (wrap t a +ℤ b) ≡ wrap t (a +ℤ b)
wrap-add_left t a b = wrap_same t (wrap t a +ℤ b) (a +ℤ b) (congruent-add (2 ^ bits t) (wrap t a) a b (wrapped_back t a))

pub wrap-add_right : (t : CType) (a b : ℤ) → wrap t (a +ℤ wrap t b) ≡ wrap t (a +ℤ b)
wrap-add_right t a b = ap (wrap t) (+ℤ_comm a _) ∙ wrap-add_left t b a ∙ ap (wrap t) (+ℤ_comm b a)

pub wrap-neg : (t : CType) (a : ℤ) → wrap t (neg_ℤ (wrap t a)) ≡ wrap t (neg_ℤ a)
wrap-neg t a = wrap_same t (neg_ℤ (wrap t a)) (neg_ℤ a) (congruent-neg (2 ^ bits t) (wrap t a) a (wrapped_back t a))

pub wrap-sub_left : (t : CType) (a b : ℤ) → wrap t (wrap t a -ℤ b) ≡ wrap t (a -ℤ b)
wrap-sub_left t a b = wrap-add_left t a (neg_ℤ b)

pub wrap-sub_right : (t : CType) (a b : ℤ) → wrap t (a -ℤ wrap t b) ≡ wrap t (a -ℤ b)
wrap-sub_right t a b = sym (wrap-add_right t a (neg_ℤ (wrap t b))) ∙ ap (λ x. wrap t (a +ℤ x)) (wrap-neg t b) ∙ wrap-add_right t a (neg_ℤ b)

pub wrap-mul_left : (t : CType) (a b : ℤ) → wrap t (wrap t a *ℤ b) ≡ wrap t (a *ℤ b)
wrap-mul_left t a b = wrap_same t (wrap t a *ℤ b) (a *ℤ b) (congruent-mul (2 ^ bits t) (wrap t a) a b (wrapped_back t a))

pub wrap-mul_right : (t : CType) (a b : ℤ) → wrap t (a *ℤ wrap t b) ≡ wrap t (a *ℤ b)
wrap-mul_right t a b = ap (wrap t) (*ℤ_comm a _) ∙ wrap-mul_left t b a ∙ ap (wrap t) (*ℤ_comm b a)

-- the values of a type lie far inside those of a word
pub range_fits : (t : CType) (n : ℤ) → IsInRange t n → (n <ℤ pos (2 ^ 64)) × (neg_ℤ (pos (2 ^ 63)) ≤ℤ n)
range_fits SChar n h = (omega (arith, ints), omega (arith, ints))
range_fits UChar n h = (omega (arith, ints), omega (arith, ints))
range_fits Char n h = (omega (arith, ints), omega (arith, ints))
range_fits Short n h = (omega (arith, ints), omega (arith, ints))
range_fits UShort n h = (omega (arith, ints), omega (arith, ints))
range_fits Int n h = (omega (arith, ints), omega (arith, ints))
range_fits UInt n h = (omega (arith, ints), omega (arith, ints))
range_fits Long n h = (omega (arith, ints), omega (arith, ints))
range_fits ULong n h = (omega (arith, ints), omega (arith, ints))
range_fits LongLong n h = (omega (arith, ints), omega (arith, ints))
range_fits ULongLong n h = (omega (arith, ints), omega (arith, ints))
range_fits SsizeT n h = (omega (arith, ints), omega (arith, ints))
range_fits SizeT n h = (omega (arith, ints), omega (arith, ints))
range_fits Bint n h = (omega (arith, ints), omega (arith, ints))

-- the product of two remainders modulo 2 ^ 64, which each width divides, in place of the product
pub wrap-product : (t : CType) (a b : ℤ) (left right : ℕ) → pos left ≡ int_rem_euclid a (pos (2 ^ 64)) → pos right ≡ int_rem_euclid b (pos (2 ^ 64)) → wrap t (pos ((left * right) % 2 ^ 64)) ≡ wrap t (a *ℤ b)
wrap-product t a b left right e f =
    let m = 2 ^ 64 in
    let some = pow_pos 64 in
    let first : IsCongruent m a (pos left) = subst (IsCongruent m a) (sym e) (residue_same a m some) in
    let second : IsCongruent m b (pos right) = subst (IsCongruent m b) (sym f) (residue_same b m some) in
    let one = congruent-mul m a (pos left) b first in
    let two : IsCongruent m (pos left *ℤ b) (pos (left * right)) = (subst (λ x. IsCongruent m x (pos (left * right))) (*ℤ_comm b (pos left)) (subst (IsCongruent m (b *ℤ pos left)) (*ℤ_comm (pos right) (pos left)) (congruent-mul m b (pos right) (pos left) second))) in
    let three : IsCongruent m (pos (left * right)) (pos ((left * right) % m)) = residue_same (pos (left * right)) m some in
    let last = pos ((left * right) % m) in
    let all = congruent_trans m (a *ℤ b) (pos left *ℤ b) last one (congruent_trans m (pos left *ℤ b) (pos (left * right)) last two three) in
    sym (wrap_same t (a *ℤ b) last (congruent_below (bits t) 64 (a *ℤ b) last (bits_at_most t) all))

-- ---- words of bits

-- the remainder modulo 2 ^ width of a number's remainder modulo 2 ^ 64 is its word
word_of_low : (t : CType) (a : ℤ) (low : ℕ) → pos low ≡ int_rem_euclid a (pos (2 ^ 64)) → low % 2 ^ bits t ≡ word_of t a
word_of_low t a low e =
    let m = 2 ^ bits t in
    let some = pow_pos (bits t) in
    let whole = pow_pos 64 in
    let first : IsCongruent (2 ^ 64) a (pos low) = subst (IsCongruent (2 ^ 64) a) (sym e) (residue_same a (2 ^ 64) whole) in
    let narrow = congruent_below (bits t) 64 a (pos low) (bits_at_most t) first in
    let second : IsCongruent m (pos low) (pos (low % m)) = residue_same (pos low) m some in
    let both = congruent_trans m a (pos low) (pos (low % m)) narrow second in
    let own = residue_same a m some in
    let bounds = residue_bounds a m some in
    let one = apart m (pos 0) (pos (low % m)) (int_rem_euclid a (pos m)) both.0 own.0
    (omega (arith, ints)) (omega (arith, ints, mod_below low m some)) bounds.0 (omega (arith, ints, bounds.1)) (sym both.1 ∙ own.1) in
    ap unsigned_abs one

pub wrap-bitwise : (f : ℕ → ℕ → ℕ) → ((a b k : ℕ) → f a b % 2 ^ k ≡ f (a % 2 ^ k) (b % 2 ^ k)) → (t : CType) (a b : ℤ) (left right : ℕ) → pos left ≡ int_rem_euclid a (pos (2 ^ 64)) → pos right ≡ int_rem_euclid b (pos (2 ^ 64)) → wrap t (pos (f left right)) ≡ bitwise_value t f a b
wrap-bitwise f law t a b left right e g =
    let m = 2 ^ bits t in
    let same : IsCongruent m (pos (f left right)) (pos (f left right % m)) = residue_same (pos (f left right)) m (pow_pos (bits t)) in
    wrap_same t (pos (f left right)) (pos (f left right % m)) same
    ∙ ap (λ x. wrap t (pos x)) (law left right (bits t) ∙ ap (λ x. f x (right % m)) (word_of_low t a left e) ∙ ap (λ x. f (word_of t a) x) (word_of_low t b right g))

pub abs_is : (z : ℤ) → pos 0 ≤ℤ z → pos (unsigned_abs z) ≡ z
abs_is (pos a) h = refl
abs_is (negsuc a) h = absurd (omega (arith, ints))

pub word_below : (t : CType) (a : ℤ) → word_of t a < 2 ^ bits t
word_below t a =
    let bounds = residue_bounds a (2 ^ bits t) (pow_pos (bits t)) in
    let up_is = abs_is (int_rem_euclid a (pos (2 ^ bits t))) bounds.0 in
    omega (arith, ints, up_is, bounds.1)

-- a number that a word represents has that word
pub word-wrap : (t : CType) (word : ℕ) → word < 2 ^ bits t → word_of t (wrap t (pos word)) ≡ word
word-wrap t word h =
    let m = 2 ^ bits t in
    let some = pow_pos (bits t) in
    let whole = wrapped_back t (pos word) in
    let own = residue_same (wrap t (pos word)) m some in
    let bounds = residue_bounds (wrap t (pos word)) m some in
    let both = congruent_trans m (int_rem_euclid (wrap t (pos word)) (pos m)) (wrap t (pos word)) (pos word) (congruent_sym m (wrap t (pos word)) (int_rem_euclid (wrap t (pos word)) (pos m)) own) whole in
    ap unsigned_abs (apart m (pos 0) (int_rem_euclid (wrap t (pos word)) (pos m)) (pos word) (pos 0) both.0
    bounds.0 (omega (arith, ints, bounds.1)) (omega (arith, ints)) (omega (arith, ints)) (omega (arith, ints, both.1)))

-- the complement of a number's word represents -a - 1
pub wrap-invert : (t : CType) (a : ℤ) → wrap t (negsuc 0 -ℤ a) ≡ wrap t (pos (2 ^ bits t - 1 - word_of t a))
wrap-invert t a =
    let m = 2 ^ bits t in
    let some = pow_pos (bits t) in
    let same = residue_same a m some in
    let bounds = residue_bounds a m some in
    let up_is : pos (word_of t a) ≡ int_rem_euclid a (pos m) = abs_is (int_rem_euclid a (pos m)) bounds.0 in
    wrap_same t (negsuc 0 -ℤ a) (pos (m - 1 - word_of t a)) (
      neg_ℤ same.0 -ℤ pos 1,
      omega (arith, ints, up_is, same.1, bounds.1, *ℤ-distrib (neg_ℤ same.0) (negsuc 0) (pos m), neg-*ℤ same.0 (pos m)),
    )

pub wrap-shifted : (t : CType) (a : ℤ) (low count : ℕ) → pos low ≡ int_rem_euclid a (pos (2 ^ 64)) → count < 64 → wrap t (pos ((low * 2 ^ count) % 2 ^ 64)) ≡ wrap t (a *ℤ pos (2 ^ count))
wrap-shifted t a low count e h = wrap-product t a (pos (2 ^ count)) low (2 ^ count) e (ap pos (sym (mod-eq_of_lt (pow_below count 64 h))))

-- ---- the sign bit

xor_zero : (a : ℕ) → bit_xor a 0 ≡ a
xor_zero a = grind (arith, common_steps)

-- to turn the bit of 2 ^ k adds it to a number below it, and takes it from the numbers up to 2 ^ (k + 1)
turned_on : (k low : ℕ) → low < 2 ^ k → bit_xor low (2 ^ k) ≡ low + 2 ^ k
turned_on k low h =
    let bit : 1 * 2 ^ k + 0 ≡ 2 ^ k = omega arith in
    let word : 0 * 2 ^ k + low ≡ low = omega arith in
    (λ i. bit_xor (sym word i) (sym bit i)) ∙ xor_block k 0 1 low 0 h (pow_pos k) ∙ omega (arith, xor_zero low)

turned_off : (k low : ℕ) → low < 2 ^ k → bit_xor (2 ^ k + low) (2 ^ k) ≡ low
turned_off k low h =
    let bit : 1 * 2 ^ k + 0 ≡ 2 ^ k = omega arith in
    let word : 1 * 2 ^ k + low ≡ 2 ^ k + low = omega arith in
    (λ i. bit_xor (sym word i) (sym bit i)) ∙ xor_block k 1 1 low 0 h (pow_pos k) ∙ omega (arith, xor_zero low)

halves : (t : CType) → 2 ^ bits t ≡ 2 ^ (bits t - 1) + 2 ^ (bits t - 1)
halves = on_all (λ t. 2 ^ bits t ≡ 2 ^ (bits t - 1) + 2 ^ (bits t - 1)) refl refl refl refl refl refl refl refl refl refl refl refl refl refl

sign_by : (signed : Bool) (half sign : ℕ) → neg_ℤ (pos sign) ≡ (if signed then neg_ℤ (pos half) else pos 0) → (sign ≡ 0) ⊎ (sign ≡ half)
sign_by true half sign e = inr (omega (arith, ints))
sign_by false half sign e = inl (omega (arith, ints))

-- a remainder whose sign bit is turned, less that bit, is the number that it represents
extended : (t : CType) (n : ℤ) (low sign : ℕ) → pos low ≡ int_rem_euclid n (pos (2 ^ bits t)) → neg_ℤ (pos sign) ≡ least t → pos (bit_xor low sign) -ℤ pos sign ≡ wrap t n
extended t n low sign e f =
    let half = 2 ^ (bits t - 1) in
    let bounds = residue_bounds n (2 ^ bits t) (pow_pos (bits t)) in
    ⊎_elim
    (λ (z : sign ≡ 0).
    let same : bit_xor low sign ≡ low = ap (bit_xor low) z ∙ xor_zero low in
    omega (arith, ints, same) ∙ wrap_low t n (pos low) e (omega (arith, ints, bounds.1, greatest_is t)))
    (λ (h : sign ≡ half). ⊎_elim
    (λ (l : low < half).
    let on : bit_xor low sign ≡ low + sign = ap (bit_xor low) h ∙ turned_on (bits t - 1) low l ∙ omega arith in
    omega (arith, ints, on) ∙ wrap_low t n (pos low) e (omega (arith, ints, halves t, greatest_is t)))
    (λ (g : half ≤ low).
    let rest = low - half in
    let word : half + rest ≡ low = omega arith in
    let off : bit_xor low sign ≡ rest = (λ i. bit_xor (sym word i) (h i)) ∙ turned_off (bits t - 1) rest (omega (arith, ints, halves t, bounds.1)) in
    omega (arith, ints, off, halves t) ∙ wrap_high t n (pos low) e (omega (arith, ints, halves t, greatest_is t)))
    (cases_lt low half))
    (sign_by (is_signed t) half sign f)

-- what the code computes: from the low word those bits of the width, and their sign extended
pub wrap_extended : (t : CType) (n : ℤ) (word mask sign : ℕ) → pos word ≡ int_rem_euclid n (pos (2 ^ 64)) → mask ≡ 2 ^ bits t - 1 → neg_ℤ (pos sign) ≡ least t → pos (bit_xor (bit_and word mask) sign) -ℤ pos sign ≡ wrap t n
wrap_extended t n word mask sign e f g =
    let m = 2 ^ bits t in
    let masked : bit_and word mask ≡ word % m = ap (bit_and word) f ∙ and_mask word (bits t) in
    let own : pos (word_of t n) ≡ int_rem_euclid n (pos m) = abs_is (int_rem_euclid n (pos m)) (residue_bounds n m (pow_pos (bits t))).0 in
    extended t n (bit_and word mask) sign (ap pos (masked ∙ word_of_low t n word e) ∙ own) g
