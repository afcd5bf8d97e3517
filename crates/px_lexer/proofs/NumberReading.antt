-- What the reader of numbers answers.
use Rattle.std.proofs.Common.{◌≡◌, ◌≢◌, ℕ, ℤ, pos, ◌+◌, ◌-◌, ◌^◌, ◌<◌, ◌≤◌, Bool, true, false, not, ◌&&◌, ◌||◌, ◌⊎◌, List, [], ◌∷◌, ◌++◌, length, take, drop, eqb, slice_index, slice_range, MatchBool, MatchOption, Option, Result, Ok, Err, OkIff, SFits, sym, refl, ap, ap₂, ◌∙◌, subst, inl, inr, arith, add-zero, get_or-take, get_or-drop, drop-drop, length-drop, length-take-le, take-append-drop}
use Rattle.std.specs.Int.{w128}
use Rattle.std.specs.Prelude.{◌↔◌, IsTrue}
use Rattle.std.specs.Result.{result_ok}
use Rattle.std.proofs.lemmas.Int.{ints, to_z-of_z}
use mir.Val.{to_z, of_z}
use Rattle.std.proofs.lemmas.Bool.{cases_eq, and_parts, and_from, and_left, and_right, false_from_ne_true, or_cases, eqb-true, eq-eqb, ne_eqb, not-true, false≢true}
use Rattle.std.proofs.lemmas.Bool.Decides.{nat_tests}
use Rattle.std.specs.Char.{is_digit}
use Rattle.px_lexer.specs.declared.forms.Form.TheVariants as form
use Rattle.px_lexer.specs.declared.token_list.TokenKind.TheVariants as kind
use Rattle.px_lexer.specs.declared.numbers.Literal.{Literal}
use Rattle.px_lexer.specs.Words.{continues_word}
use Rattle.px_lexer.specs.Numbers.{IsDigits, IsDecimal, base_of, digits_value, IsFloat, IsBased, IsWhole, HasLeadingZero, is_zero, number_limit}
use Rattle.px_lexer.specs.Pieces.{form_of}
use Rattle.px_lexer.specs.Refusals.{IsBadNumber, BreaksIn, bad_character, bad_word, bad_number, float_literal, literal_too_wide, bad_escape, string_not_ended}
use Rattle.px_lexer.specs.Readers.{EndsAt, IsReadAs, IsRefusedFor}
use Rattle.px_lexer.specs.NumberSteps.{digits_len, decimal_len, letter_len, is_based, digits_start, radix_of, whole_len, numeral_len, IsNumeralAt, with_digit}
use Rattle.px_lexer.proofs.NumberSteps.{IsPlain, Begins, digits_of, digits_of_decimal, digits_append, first_digit, digit_has_base, base-le, front-ge, floating-ge, decimal-ge, plain_sound, float_apart, based_sound, decimal-le, whole_step, numeral_plain, numeral_based, numeral-le, numeral_is_longest}
use Rattle.px_lexer.proofs.NumberLemmas.{begins_of_number, some_numeral, decimal_not_float, plain_not_based, whole_not_float}
use Rattle.px_lexer.proofs.NumberPlaces.{not_below, value_behind, value_more}

-- The value

below_limit : {E : Type 0} (r : Result ℤ E) (v n : ℕ) → v ≡ n → OkIff r (SFits w128 (pos v)) (pos v) → MatchOption (result_ok r) (number_limit ≤ n) (λ x. (x ≡ pos n) × (n < number_limit))
below_limit (Ok x) v n e h = (h.1 ∙ ap pos e, let f : SFits w128 (pos v) = h.0 in omega (arith, ints))
below_limit (Err x) v n e h = not_below n number_limit (λ l. h (let w : v < 2 ^ 127 = omega arith in search (arith, ints)))

pub value_found : {E : Type 0} (o : Option ℤ) (r : Result ℤ E) (v n : ℕ) → o ≡ result_ok r → v ≡ n → OkIff r (SFits w128 (pos v)) (pos v) → MatchOption o (number_limit ≤ n) (λ x. (x ≡ pos n) × (n < number_limit))
value_found o r v n q e h = rw q (below_limit r v n e h)

-- What stands there

-- a literal at the front: decimal digits, digits behind a letter, or a float
data LiteralKind (cs : List ℕ) : Type 0 where
  decimal : radix_of cs ≡ 10 → digits_of cs ≡ take (numeral_len cs) cs → whole_len cs ≡ numeral_len cs → IsDecimal (take (numeral_len cs) cs) → LiteralKind cs
  based : radix_of cs ≡ base_of (slice_index cs 1) → whole_len cs ≡ numeral_len cs → IsBased (take (numeral_len cs) cs) (slice_index cs 1) (digits_of cs) → LiteralKind cs
  float : whole_len cs ≢ numeral_len cs → IsFloat (take (numeral_len cs) cs) → LiteralKind cs

decimal_whole : (cs : List ℕ) → IsDecimal (take (decimal_len cs) cs) → digits_len 10 cs ≡ decimal_len cs
decimal_whole cs d =
    let n = decimal_len cs in
    let a = digits_append 10 (digits_of_decimal d) (drop n cs) in
    let s : digits_len 10 (take n cs ++ drop n cs) ≡ digits_len 10 cs = ap (digits_len 10) (take-append-drop n cs) in
    let l : length (take n cs) ≡ n = length-take-le n cs (decimal-le cs) in
    let f = front-ge cs in
    let g = floating-ge cs in
    let h = decimal-ge cs in
    omega arith

float_longer : (cs : List ℕ) → IsFloat (take (decimal_len cs) cs) → digits_len 10 cs < decimal_len cs
float_longer cs f =
    let n = decimal_len cs in
    let a = float_apart (take n cs) f (drop n cs) in
    let s : digits_len 10 (take n cs ++ drop n cs) ≡ digits_len 10 cs = ap (digits_len 10) (take-append-drop n cs) in
    let l : length (take n cs) ≡ n = length-take-le n cs (decimal-le cs) in
    omega arith

plain_kind : (cs : List ℕ) → is_based cs ≡ false → IsPlain (take (decimal_len cs) cs) → LiteralKind cs
plain_kind cs e (inl d) =
    let p = numeral_plain cs e in
    let w = decimal_whole cs d in
    decimal p.1 (rw (p.0, p.1, w, p.3) refl) (p.2 ∙ w ∙ sym p.3) (rw p.3 d)
plain_kind cs e (inr f) =
    let p = numeral_plain cs e in
    let w = float_longer cs f in
    float (λ q. let r : whole_len cs ≡ numeral_len cs = q in let a = p.2 in let b = p.3 in omega arith) (rw p.3 f)

literal_kind : (cs : List ℕ) → Begins cs → LiteralKind cs
literal_kind cs b = by_base (is_based cs) refl
  where
    by_base : (t : Bool) → is_based cs ≡ t → LiteralKind cs
    by_base true e = based (whole_step cs (letter_len cs) e refl).1 (sym (numeral_based cs e)) (rw (numeral_based cs e) (based_sound cs e))
    by_base false e = plain_kind cs e (plain_sound cs b)

pub ends_at : (cs : List ℕ) (from to : ℕ) → form_of (drop from cs) ≡ form.Number → to ≡ from + numeral_len (drop from cs) → EndsAt form.Number cs from to
ends_at cs from to f e =
    let b = begins_of_number (drop from cs) f in
    let p = some_numeral (drop from cs) b in
    let n : to - from ≡ numeral_len (drop from cs) = omega arith in
    let w = numeral-le (drop from cs) in
    let l = length-drop from cs in
    record { forward = omega arith; within = omega arith; whole = rw n (numeral_is_longest (drop from cs) b) }

-- Which rule is broken first

-- what a number can break, all at its first character
data Breaks (cs : List ℕ) (n rule i : ℕ) : Type 0 where
  bad : i ≡ 0 → rule ≡ 2 → IsBadNumber cs n → Breaks cs n rule i
  float : i ≡ 0 → rule ≡ 8 → IsFloat (take n cs) → Breaks cs n rule i
  wide : i ≡ 0 → rule ≡ 9 → Breaks cs n rule i

breaks : (cs : List ℕ) (n rule i : ℕ) → BreaksIn form.Number cs n rule i → Breaks cs n rule i
breaks cs n rule i (bad_character f r e b) = cc
breaks cs n rule i (bad_word f r e b) = cc
breaks cs n rule i (bad_number f r e b) = bad e r b
breaks cs n rule i (float_literal f r e b) = float e r b
breaks cs n rule i (literal_too_wide f r e b) = wide e r
breaks cs n rule i (bad_escape f r b) = cc
breaks cs n rule i (string_not_ended f r e b) = cc

at_front : (cs : List ℕ) (n rule i : ℕ) → Breaks cs n rule i → i ≡ 0
at_front cs n rule i (bad e r b) = e
at_front cs n rule i (float e r b) = e
at_front cs n rule i (wide e r) = e

breaks_first : (cs : List ℕ) (from to r : ℕ) → EndsAt form.Number cs from to → BreaksIn form.Number (drop from cs) (to - from) r 0
    → ((rule i : ℕ) → Breaks (drop from cs) (to - from) rule i → r ≤ rule) → IsRefusedFor form.Number cs from (record { rule = r; at = from })
breaks_first cs from to r e b f =
    (to, e, inl (record { index = 0; placed = sym (add-zero from); broken = b; first = λ rule i k. let d = breaks (drop from cs) (to - from) rule i k in inr (sym (at_front (drop from cs) (to - from) rule i d), f rule i d) }))

pub refused_bad : (cs : List ℕ) (from to : ℕ) → EndsAt form.Number cs from to → IsBadNumber (drop from cs) (to - from) → IsRefusedFor form.Number cs from (record { rule = 2; at = from })
refused_bad cs from to e b = breaks_first cs from to 2 e (bad_number refl refl refl b) least
  where
    least : (rule i : ℕ) → Breaks (drop from cs) (to - from) rule i → 2 ≤ rule
    least rule i (bad z r h) = omega arith
    least rule i (float z r h) = omega arith
    least rule i (wide z r) = omega arith

float_first : (cs : List ℕ) (from to : ℕ) → EndsAt form.Number cs from to → (IsBadNumber (drop from cs) (to - from) → ⊥) → IsFloat (take (to - from) (drop from cs)) → IsRefusedFor form.Number cs from (record { rule = 8; at = from })
float_first cs from to e n b = breaks_first cs from to 8 e (float_literal refl refl refl b) least
  where
    least : (rule i : ℕ) → Breaks (drop from cs) (to - from) rule i → 8 ≤ rule
    least rule i (bad z r h) = absurd (n h)
    least rule i (float z r h) = omega arith
    least rule i (wide z r) = omega arith

wide_first : (cs : List ℕ) (from to v : ℕ) → EndsAt form.Number cs from to → (IsBadNumber (drop from cs) (to - from) → ⊥) → IsWhole (take (to - from) (drop from cs)) v → number_limit ≤ v → IsRefusedFor form.Number cs from (record { rule = 9; at = from })
wide_first cs from to v e n w g = breaks_first cs from to 9 e (literal_too_wide refl refl refl (record { value = v; whole = w; wide = g })) least
  where
    least : (rule i : ℕ) → Breaks (drop from cs) (to - from) rule i → 9 ≤ rule
    least rule i (bad z r h) = absurd (n h)
    least rule i (float z r h) = absurd (whole_not_float (take (to - from) (drop from cs)) v w h)
    least rule i (wide z r) = omega arith

number_first : (cs : List ℕ) (from to v : ℕ) (x : ℤ) → EndsAt form.Number cs from to → (IsBadNumber (drop from cs) (to - from) → ⊥) → IsWhole (take (to - from) (drop from cs)) v → v < number_limit → x ≡ pos v → IsReadAs form.Number cs from (record { kind = kind.Number x; to = to })
number_first cs from to v x e n w l q = record {
  ends = e;
  kind = record { value = v; spelled = w; fits = l; ends = false_from_ne_true _ (λ t. n (inr t)); kind = ap kind.Number q };
}

-- The test of superfluous zeros and of identifier characters

pub bad_end : (cs : List ℕ) (from to : ℕ) → from ≤ to → continues_word (slice_index cs to) ≡ true → IsBadNumber (drop from cs) (to - from)
bad_end cs from to h t = let e : from + (to - from) ≡ to = omega arith in inr (ap continues_word (get_or-drop from cs (to - from) 0 ∙ ap (slice_index cs) e) ∙ t)

good_end : (cs : List ℕ) (from to : ℕ) → from ≤ to → continues_word (slice_index cs to) ≡ false → continues_word (slice_index (drop from cs) (to - from)) ≡ false
good_end cs from to h t = let e : from + (to - from) ≡ to = omega arith in ap continues_word (get_or-drop from cs (to - from) 0 ∙ ap (slice_index cs) e) ∙ t

base_is_not_10 : (l : ℕ) → base_of l ≢ 10
base_is_not_10 l = λ e. absurd (grind (arith, nat_tests))

base-ge : (l : ℕ) → base_of l ≢ 0 → 2 ≤ base_of l
base-ge l h = grind (arith, nat_tests)

decimal_or_not : (cs : List ℕ) (from : ℕ) (literal : Literal) → Begins cs → IsNumeralAt cs from literal
    → MatchBool (eqb literal.base 10 && eqb literal.whole literal.to) (IsDecimal (take (numeral_len cs) cs)) (IsDecimal (take (numeral_len cs) cs) → ⊥)
decimal_or_not cs from literal b a = by_kind (literal_kind cs b)
  where
    by_kind : LiteralKind cs → MatchBool (eqb literal.base 10 && eqb literal.whole literal.to) (IsDecimal (take (numeral_len cs) cs)) (IsDecimal (take (numeral_len cs) cs) → ⊥)
    by_kind (decimal r g w d) =
        let t : (eqb literal.base 10 && eqb literal.whole literal.to) ≡ true = and_from _ _ (eq-eqb literal.base 10 (a.base ∙ r)) (eq-eqb literal.whole literal.to (a.whole ∙ ap (λ (n : ℕ). from + n) w ∙ sym a.to)) in
        rw t d
    by_kind (based r w d) =
        let t : (eqb literal.base 10 && eqb literal.whole literal.to) ≡ false = and_left _ _ (ne_eqb literal.base 10 (λ q. base_is_not_10 (slice_index cs 1) (sym r ∙ sym a.base ∙ q))) in
        rw t (λ p. plain_not_based _ _ _ (inl p) d)
    by_kind (float w f) =
        let t : (eqb literal.base 10 && eqb literal.whole literal.to) ≡ false = and_right _ _ (ne_eqb literal.whole literal.to (λ q. w (let x = a.whole in let y = a.to in omega arith))) in
        rw t (λ p. decimal_not_float _ p f)

len_at : (cs : List ℕ) (from : ℕ) (literal : Literal) → IsNumeralAt (drop from cs) from literal → literal.to - from ≡ numeral_len (drop from cs)
len_at cs from literal a = let t = a.to in omega arith

pub end_inside : (cs : List ℕ) (from : ℕ) (literal : Literal) → form_of (drop from cs) ≡ form.Number → IsNumeralAt (drop from cs) from literal → literal.to ≤ length cs
end_inside cs from literal f a = (ends_at cs from literal.to f a.to).within

pub from-le : (cs : List ℕ) (from : ℕ) (literal : Literal) → IsNumeralAt (drop from cs) from literal → from ≤ literal.to
from-le cs from literal a = let t = a.to in omega arith

decimal_at_end : (cs : List ℕ) (from : ℕ) (literal : Literal) → form_of (drop from cs) ≡ form.Number → IsNumeralAt (drop from cs) from literal
    → MatchBool (eqb literal.base 10 && eqb literal.whole literal.to) (IsDecimal (slice_range cs from literal.to)) (IsDecimal (slice_range cs from literal.to) → ⊥)
decimal_at_end cs from literal f a = rw (len_at cs from literal a) (decimal_or_not (drop from cs) from literal (begins_of_number (drop from cs) f) a)

only_padded : (cs : List ℕ) (from : ℕ) (literal : Literal) → IsNumeralAt (drop from cs) from literal → continues_word (slice_index cs literal.to) ≡ false → IsBadNumber (drop from cs) (literal.to - from) → HasLeadingZero (slice_range cs from literal.to)
only_padded cs from literal a t (inl h) = h
only_padded cs from literal a t (inr h) = absurd (false≢true (sym (good_end cs from literal.to (from-le cs from literal a) t) ∙ h))

pub not_decimal_good : (cs : List ℕ) (from : ℕ) (literal : Literal) → form_of (drop from cs) ≡ form.Number → IsNumeralAt (drop from cs) from literal → continues_word (slice_index cs literal.to) ≡ false → (eqb literal.base 10 && eqb literal.whole literal.to) ≡ false
    → IsBadNumber (drop from cs) (literal.to - from) → ⊥
not_decimal_good cs from literal f a t d b =
    let m : IsDecimal (slice_range cs from literal.to) → ⊥ = rw d at (decimal_at_end cs from literal f a) in
    m (only_padded cs from literal a t b).digits

first_of_range : (cs : List ℕ) (from : ℕ) (literal : Literal) → form_of (drop from cs) ≡ form.Number → IsNumeralAt (drop from cs) from literal → slice_index (slice_range cs from literal.to) 0 ≡ slice_index cs from
first_of_range cs from literal f a =
    let p = some_numeral (drop from cs) (begins_of_number (drop from cs) f) in
    let e = len_at cs from literal a in
    get_or-take (literal.to - from) (drop from cs) 0 0 (omega arith) ∙ get_or-drop from cs 0 0 ∙ ap (slice_index cs) (add-zero from)

pub padded_decides : (cs : List ℕ) (from : ℕ) (literal : Literal) (b : Bool) → form_of (drop from cs) ≡ form.Number → IsNumeralAt (drop from cs) from literal → continues_word (slice_index cs literal.to) ≡ false → (eqb literal.base 10 && eqb literal.whole literal.to) ≡ true
    → b ≡ (eqb (slice_index cs from) 48 && not (is_zero (slice_range cs from literal.to))) → IsTrue b ↔ IsBadNumber (drop from cs) (literal.to - from)
padded_decides cs from literal true f a t d e =
    let p = and_parts _ _ (sym e) in
    let m : IsDecimal (slice_range cs from literal.to) = rw d at (decimal_at_end cs from literal f a) in
    (λ _. inl (record { digits = m; leading = first_of_range cs from literal f a ∙ eqb-true (slice_index cs from) 48 p.0; other = not-true _ p.1 }), λ _. refl)
padded_decides cs from literal false f a t d e = (λ holds. absurd (false≢true holds), λ b. absurd (not_padded b))
  where
    not_padded : IsBadNumber (drop from cs) (literal.to - from) → ⊥
    not_padded b =
        let h = only_padded cs from literal a t b in
        false≢true (e ∙ and_from (eqb (slice_index cs from) 48) (not (is_zero (slice_range cs from literal.to))) (eq-eqb (slice_index cs from) 48 (sym (first_of_range cs from literal f a) ∙ h.leading)) (ap not h.other))

-- The value of what stands there

zero_value : (cs : List ℕ) → is_zero cs ≡ true → value_behind 10 0 cs ≡ 0
zero_value [] z = refl
zero_value (c ∷ cs) z =
    let p = and_parts _ _ z in
    value_more 10 0 c cs ∙ ap (λ (n : ℕ). value_behind 10 n cs) (zero_digit c p.0) ∙ zero_value cs p.1
  where
    zero_digit : (c : ℕ) → (eqb c 48 || eqb c 95) ≡ true → with_digit 10 0 c ≡ 0
    zero_digit c t = go (or_cases _ _ t)
      where
        go : (eqb c 48 ≡ true) ⊎ (eqb c 95 ≡ true) → with_digit 10 0 c ≡ 0
        go (inl e) = ap (with_digit 10 0) (eqb-true c 48 e)
        go (inr e) = ap (with_digit 10 0) (eqb-true c 95 e)

decimal_value : (x : List ℕ) → IsDecimal x → (HasLeadingZero x → ⊥) → IsWhole x (digits_value 10 x)
decimal_value x d n = by_zero (is_zero x) refl (cases_eq (slice_index x 0) 48)
  where
    by_zero : (z : Bool) → is_zero x ≡ z → (slice_index x 0 ≡ 48) ⊎ (slice_index x 0 ≡ 48 → ⊥) → IsWhole x (digits_value 10 x)
    by_zero true z e = IsWhole.zero d z (zero_value x z)
    by_zero false z (inl e) = absurd (n (record { digits = d; leading = e; other = z }))
    by_zero false z (inr e) = IsWhole.decimal d e refl

-- a literal that is no float
record IsWholeAt (cs : List ℕ) : Type 0 where
  lower : 2 ≤ radix_of cs
  upper : radix_of cs ≤ 36
  digits : IsDigits (λ c. is_digit c (radix_of cs)) (digits_of cs)
  value : (HasLeadingZero (take (numeral_len cs) cs) → ⊥) → IsWhole (take (numeral_len cs) cs) (digits_value (radix_of cs) (digits_of cs))

based_is_whole : (cs : List ℕ) → radix_of cs ≡ base_of (slice_index cs 1) → IsBased (take (numeral_len cs) cs) (slice_index cs 1) (digits_of cs) → IsWholeAt cs
based_is_whole cs r b =
    let l = slice_index cs 1 in
    let n : base_of l ≢ 0 = digit_has_base (slice_index (digits_of cs ++ []) 0) (base_of l) (first_digit (base_of l) b.formed []) in
    record {
      lower = subst (λ (k : ℕ). 2 ≤ k) (sym r) (base-ge l n);
      upper = subst (λ (k : ℕ). k ≤ 36) (sym r) (base-le l);
      digits = subst (λ (k : ℕ). IsDigits (λ c. is_digit c k) (digits_of cs)) (sym r) b.formed;
      value = λ _. IsWhole.based l (digits_of cs) b (ap (λ (k : ℕ). digits_value k (digits_of cs)) r);
    }

decimal_is_whole : (cs : List ℕ) → radix_of cs ≡ 10 → digits_of cs ≡ take (numeral_len cs) cs → IsDecimal (take (numeral_len cs) cs) → IsWholeAt cs
decimal_is_whole cs r g d = record {
  lower = omega arith;
  upper = omega arith;
  digits = subst (λ (k : ℕ). IsDigits (λ c. is_digit c k) (digits_of cs)) (sym r) (subst (λ (xs : List ℕ). IsDigits (λ c. is_digit c 10) xs) (sym g) (digits_of_decimal d));
  value = λ n. subst (λ (v : ℕ). IsWhole (take (numeral_len cs) cs) v) (ap₂ (λ (k : ℕ) (xs : List ℕ). digits_value k xs) (sym r) (sym g)) (decimal_value (take (numeral_len cs) cs) d n);
}

whole_at : (cs : List ℕ) → Begins cs → whole_len cs ≡ numeral_len cs → IsWholeAt cs
whole_at cs b e = by_kind (literal_kind cs b)
  where
    by_kind : LiteralKind cs → IsWholeAt cs
    by_kind (decimal r g w d) = decimal_is_whole cs r g d
    by_kind (based r w d) = based_is_whole cs r d
    by_kind (float w f) = absurd (w e)

float_at : (cs : List ℕ) → Begins cs → whole_len cs ≢ numeral_len cs → IsFloat (take (numeral_len cs) cs)
float_at cs b n = by_kind (literal_kind cs b)
  where
    by_kind : LiteralKind cs → IsFloat (take (numeral_len cs) cs)
    by_kind (decimal r g w d) = absurd (n w)
    by_kind (based r w d) = absurd (n w)
    by_kind (float w f) = f

range_digits : (cs : List ℕ) (from : ℕ) (literal : Literal) → IsNumeralAt (drop from cs) from literal → literal.whole ≡ literal.to → slice_range cs literal.digits literal.to ≡ digits_of (drop from cs)
unfolding whole_len
range_digits cs from literal a w =
    let xs = drop from cs in
    let n : literal.to - literal.digits ≡ digits_len (radix_of xs) (drop (digits_start xs) xs) = (let d = a.digits in let e = a.whole in omega arith) in
    ap₂ (λ (k : ℕ) (ys : List ℕ). take k ys) n (ap (λ (k : ℕ). drop k cs) a.digits ∙ sym (drop-drop (digits_start xs) from cs))

pub record IsWholeHere (cs : List ℕ) (from : ℕ) (literal : Literal) : Type 0 where
  pub lower : 2 ≤ literal.base
  pub upper : literal.base ≤ 36
  pub digits : IsDigits (λ c. is_digit c literal.base) (slice_range cs literal.digits literal.to)
  pub value : (IsBadNumber (drop from cs) (literal.to - from) → ⊥) → IsWhole (take (literal.to - from) (drop from cs)) (digits_value literal.base (slice_range cs literal.digits literal.to))

pub whole_here : (cs : List ℕ) (from : ℕ) (literal : Literal) → form_of (drop from cs) ≡ form.Number → IsNumeralAt (drop from cs) from literal → literal.whole ≡ literal.to → IsWholeHere cs from literal
whole_here cs from literal f a e =
    let xs = drop from cs in
    let w = whole_at xs (begins_of_number xs f) (let x = a.whole in let y = a.to in omega arith) in
    let n = len_at cs from literal a in
    let g = range_digits cs from literal a e in
    record {
      lower = rw a.base w.lower;
      upper = rw a.base w.upper;
      digits = rw (a.base, g) w.digits;
      value = λ k. rw (a.base, g, n) (w.value (λ h. k (inl (rw n h))));
    }

pub float_here : (cs : List ℕ) (from : ℕ) (literal : Literal) → form_of (drop from cs) ≡ form.Number → IsNumeralAt (drop from cs) from literal → literal.whole ≢ literal.to → IsFloat (take (literal.to - from) (drop from cs))
float_here cs from literal f a n =
    rw (len_at cs from literal a) (float_at (drop from cs) (begins_of_number (drop from cs) f) (λ e. n (a.whole ∙ ap (λ (k : ℕ). from + k) e ∙ sym a.to)))

pub refused_float : (cs : List ℕ) (from : ℕ) (literal : Literal) → form_of (drop from cs) ≡ form.Number → IsNumeralAt (drop from cs) from literal → (IsBadNumber (drop from cs) (literal.to - from) → ⊥) → literal.whole ≢ literal.to
    → IsRefusedFor form.Number cs from (record { rule = 8; at = from })
refused_float cs from literal f a n w = float_first cs from literal.to (ends_at cs from literal.to f a.to) n (float_here cs from literal f a w)

pub refused_wide : (cs : List ℕ) (from : ℕ) (literal : Literal) → form_of (drop from cs) ≡ form.Number → IsNumeralAt (drop from cs) from literal → (IsBadNumber (drop from cs) (literal.to - from) → ⊥) → literal.whole ≡ literal.to
    → number_limit ≤ digits_value literal.base (slice_range cs literal.digits literal.to) → IsRefusedFor form.Number cs from (record { rule = 9; at = from })
refused_wide cs from literal f a n w g = wide_first cs from literal.to (digits_value literal.base (slice_range cs literal.digits literal.to)) (ends_at cs from literal.to f a.to) n ((whole_here cs from literal f a w).value n) g

pub reads_number : (cs : List ℕ) (from : ℕ) (literal : Literal) (x : ℤ) → form_of (drop from cs) ≡ form.Number → IsNumeralAt (drop from cs) from literal → (IsBadNumber (drop from cs) (literal.to - from) → ⊥) → literal.whole ≡ literal.to
    → x ≡ pos (digits_value literal.base (slice_range cs literal.digits literal.to)) → digits_value literal.base (slice_range cs literal.digits literal.to) < number_limit → IsReadAs form.Number cs from (record { kind = kind.Number x; to = literal.to })
reads_number cs from literal x f a n w e l = number_first cs from literal.to (digits_value literal.base (slice_range cs literal.digits literal.to)) x (ends_at cs from literal.to f a.to) n ((whole_here cs from literal f a w).value n) l e

pub kept : (z : ℤ) (n : ℕ) → z ≡ pos n → n < number_limit → to_z w128 (of_z w128 z) ≡ pos n
kept z n e l = let w : n < 2 ^ 127 = omega arith in rw e (to_z-of_z w128 (pos n) (search (arith, ints)))
