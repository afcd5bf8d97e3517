-- The steps of the reader of numbers by the index at which it stands.
use Rattle.std.proofs.Common.{◌≡◌, ℕ, zero, suc, ◌+◌, ◌-◌, ◌*◌, ◌^◌, ◌<◌, ◌≤◌, Bool, true, false, cond, not, ◌&&◌, ◌||◌, ◌⊎◌, List, [], ◌∷◌, length, take, drop, eqb, slice_index, slice_range, filter, fold, sym, refl, ap, ◌∙◌, subst, inl, inr, arith, add-zero, ap₂, ⊎_elim, mul-le-mul_left, length-take, get_or-drop, get_or-take, drop-drop, length-drop, length-take-le}
use Rattle.std.proofs.lemmas.Bool.{cond-true, cond-false, cond_both, and_left, and_right, and_from, cases_lt}
use Rattle.std.proofs.lemmas.Bool.Decides.{nat_tests}
use Rattle.std.proofs.lemmas.List.{drop_more, drop_all}
use Rattle.std.specs.Char.{is_digit, digit_value}
use Rattle.px_lexer.specs.Numbers.{IsDigits, last, next, parted, base_of, digits_value, is_zero, number_limit}
use Rattle.px_lexer.specs.declared.numbers.Literal.{Literal}
use Rattle.px_lexer.specs.NumberSteps.{tail_len, digits_len, point_len, sign_len, exponent_len, suffix_len, front_len, floating_len, decimal_len, letter_len, is_based, radix_of, whole_len, numeral_len, IsNumeralAt, IsDecimalAt, with_digit}
use Rattle.px_lexer.proofs.NumberSteps.{digits_none, at_digit, front_step, floating_step, decimal_step, whole_step, numeral_plain, numeral_based}

first_at : (cs : List ℕ) (from : ℕ) → slice_index (drop from cs) 0 ≡ slice_index cs from
first_at cs from = get_or-drop from cs 0 0 ∙ ap (slice_index cs) (add-zero from)

later_at : (cs : List ℕ) (from i : ℕ) → slice_index (drop from cs) i ≡ slice_index cs (from + i)
later_at cs from i = get_or-drop from cs i 0

-- Digits

pub no_digits : (base : ℕ) (cs : List ℕ) (from : ℕ) → is_digit (slice_index cs from) base ≡ false → from ≡ from + digits_len base (drop from cs)
no_digits base cs from f = let e = digits_none base (drop from cs) (ap (λ (c : ℕ). is_digit c base) (first_at cs from) ∙ f) in omega arith

pub first_digits : (base : ℕ) (cs : List ℕ) (from : ℕ) → from < length cs → is_digit (slice_index cs from) base ≡ true → (from + 1) + tail_len base (drop (from + 1) cs) ≡ from + digits_len base (drop from cs)
first_digits base cs from l t =
    let d : digits_len base (drop from cs) ≡ suc (tail_len base (drop (from + 1) cs)) = ap (digits_len base) (drop_more cs from 0 l) ∙ (at_digit base (slice_index cs from) (drop (from + 1) cs) t).0 in
    omega arith

-- how digits go on at an index
goes_test : ℕ → List ℕ → ℕ → Bool
goes_test base cs at = is_digit (slice_index cs at) base || (eqb (slice_index cs at) 95 && is_digit (slice_index cs (at + 1)) base)

tail_at : (base : ℕ) (cs : List ℕ) (at : ℕ) → at < length cs → tail_len base (drop at cs) ≡ cond (goes_test base cs at) (suc (tail_len base (drop (at + 1) cs))) 0
unfolding tail_len goes_test
tail_at base cs at l = rw (drop_more cs at 0 l) (rw (first_at cs (at + 1)) refl)

pub more_digits : (base : ℕ) (cs : List ℕ) (at : ℕ) (b : Bool) → at < length cs → b ≡ true → b ≡ (is_digit (slice_index cs at) base || (eqb (slice_index cs at) 95 && is_digit (slice_index cs (at + 1)) base))
    → (at + 1) + tail_len base (drop (at + 1) cs) ≡ at + tail_len base (drop at cs)
unfolding goes_test
more_digits base cs at b l t e = let d : tail_len base (drop at cs) ≡ suc (tail_len base (drop (at + 1) cs)) = tail_at base cs at l ∙ cond-true _ _ _ (sym e ∙ t) in omega arith

pub last_digits : (base : ℕ) (cs : List ℕ) (at : ℕ) (b : Bool) → b ≡ false → b ≡ (is_digit (slice_index cs at) base || (eqb (slice_index cs at) 95 && is_digit (slice_index cs (at + 1)) base))
    → tail_len base (drop at cs) ≡ 0
unfolding goes_test tail_len
last_digits base cs at b f e = by_place (cases_lt at (length cs))
  where
    by_place : (at < length cs) ⊎ (length cs ≤ at) → tail_len base (drop at cs) ≡ 0
    by_place (inl l) = tail_at base cs at l ∙ cond-false _ _ _ (sym e ∙ f)
    by_place (inr g) = ap (tail_len base) (drop_all at cs g)

-- The parts of a decimal

pub point_place : (cs : List ℕ) (from : ℕ) (b : Bool) → b ≡ eqb (slice_index cs from) 46 → cond b ((from + 1) + digits_len 10 (drop (from + 1) cs)) from ≡ from + point_len (drop from cs)
unfolding point_len
point_place cs from b e = rw (first_at cs from, drop-drop 1 from cs, ← e) (by_test b)
  where
    by_test : (b : Bool) → cond b ((from + 1) + digits_len 10 (drop (from + 1) cs)) from ≡ from + cond b (suc (digits_len 10 (drop (from + 1) cs))) 0
    by_test true = omega arith
    by_test false = omega arith

pub sign_place : (cs : List ℕ) (from : ℕ) (b : Bool) → b ≡ (eqb (slice_index cs (from + 1)) 43 || eqb (slice_index cs (from + 1)) 45) → cond b (from + 2) (from + 1) ≡ from + sign_len (drop from cs)
unfolding sign_len
sign_place cs from b e = rw (later_at cs from 1, ← e) (by_test b)
  where
    by_test : (b : Bool) → cond b (from + 2) (from + 1) ≡ from + cond b 2 1
    by_test true = refl
    by_test false = refl

pub exponent_place : (cs : List ℕ) (from k : ℕ) (b d : Bool) → k ≡ from + sign_len (drop from cs) → b ≡ (eqb (slice_index cs from) 101 || eqb (slice_index cs from) 69) → d ≡ is_digit (slice_index cs k) 10
    → cond (b && d) (k + digits_len 10 (drop k cs)) from ≡ from + exponent_len (drop from cs)
unfolding exponent_len
exponent_place cs from k b d h e f = rw (first_at cs from, later_at cs from (sign_len (drop from cs)), drop-drop (sign_len (drop from cs)) from cs, ← h, ← e, ← f) (by_test (b && d))
  where
    by_test : (t : Bool) → cond t (k + digits_len 10 (drop k cs)) from ≡ from + cond t (sign_len (drop from cs) + digits_len 10 (drop k cs)) 0
    by_test true = omega arith
    by_test false = omega arith

pub suffix_place : (cs : List ℕ) (from : ℕ) (b : Bool) → b ≡ eqb (slice_index cs from) 106 → cond b (from + 1) from ≡ from + suffix_len (drop from cs)
unfolding suffix_len
suffix_place cs from b e = rw (first_at cs from, ← e) (by_test b)
  where
    by_test : (b : Bool) → cond b (from + 1) from ≡ from + cond b 1 0
    by_test true = refl
    by_test false = omega arith

pub decimal_place : (cs : List ℕ) (from whole point exponent to : ℕ) → whole ≡ from + digits_len 10 (drop from cs) → point ≡ whole + point_len (drop whole cs) → exponent ≡ point + exponent_len (drop point cs) → to ≡ exponent + suffix_len (drop exponent cs)
    → to ≡ from + decimal_len (drop from cs)
decimal_place cs from whole point exponent to a b c d =
    let xs = drop from cs in
    let f : front_len xs ≡ digits_len 10 xs + point_len (drop whole cs) = front_step xs (digits_len 10 xs) refl ∙ ap (λ (ys : List ℕ). digits_len 10 xs + point_len ys) (drop-drop (digits_len 10 xs) from cs ∙ ap (λ (n : ℕ). drop n cs) (sym a)) in
    let p : point ≡ from + front_len xs = omega arith in
    let g : floating_len xs ≡ front_len xs + exponent_len (drop point cs) = floating_step xs (front_len xs) refl ∙ ap (λ (ys : List ℕ). front_len xs + exponent_len ys) (drop-drop (front_len xs) from cs ∙ ap (λ (n : ℕ). drop n cs) (sym p)) in
    let q : exponent ≡ from + floating_len xs = omega arith in
    let h : decimal_len xs ≡ floating_len xs + suffix_len (drop exponent cs) = decimal_step xs (floating_len xs) refl ∙ ap (λ (ys : List ℕ). floating_len xs + suffix_len ys) (drop-drop (floating_len xs) from cs ∙ ap (λ (n : ℕ). drop n cs) (sym q)) in
    omega arith

pub decimal_at : (cs : List ℕ) (from : ℕ) (literal : Literal) → is_based cs ≡ false → IsDecimalAt cs from literal → IsNumeralAt cs from literal
decimal_at cs from literal f d =
    let p = numeral_plain cs f in
    record { base = d.base ∙ sym p.1; digits = rw p.0 (d.digits ∙ sym (add-zero from)); whole = rw p.2 d.whole; to = rw p.3 d.to }

-- Digits behind a letter for their base

pub letter_place : (cs : List ℕ) (from : ℕ) (b : Bool) → b ≡ eqb (slice_index cs (from + 2)) 95 → cond b (from + 3) (from + 2) ≡ from + letter_len (drop from cs)
unfolding letter_len
letter_place cs from b e = rw (later_at cs from 2, ← e) (by_test b)
  where
    by_test : (b : Bool) → cond b (from + 3) (from + 2) ≡ from + cond b 3 2
    by_test true = refl
    by_test false = refl

based_at : (cs : List ℕ) (from k : ℕ) → k ≡ from + letter_len (drop from cs) → is_based (drop from cs) ≡ (eqb (slice_index cs from) 48 && is_digit (slice_index cs k) (base_of (slice_index cs (from + 1))))
unfolding is_based
based_at cs from k e = rw (first_at cs from, later_at cs from (letter_len (drop from cs)), later_at cs from 1, ← e) refl

pub no_zero : (cs : List ℕ) (from : ℕ) → false ≡ eqb (slice_index cs from) 48 → is_based (drop from cs) ≡ false
no_zero cs from f = based_at cs from (from + letter_len (drop from cs)) refl ∙ and_left _ _ (sym f)

no_such_digit : (c base : ℕ) → base ≡ 0 → is_digit c base ≡ false
no_such_digit c base e = grind (arith, nat_tests)

pub no_letter : (cs : List ℕ) (from : ℕ) → base_of (slice_index cs (from + 1)) ≡ 0 → is_based (drop from cs) ≡ false
no_letter cs from e = based_at cs from (from + letter_len (drop from cs)) refl ∙ and_right _ _ (no_such_digit (slice_index cs (from + letter_len (drop from cs))) (base_of (slice_index cs (from + 1))) e)

pub no_digit_behind : (cs : List ℕ) (from k base : ℕ) → k ≡ from + letter_len (drop from cs) → base ≡ base_of (slice_index cs (from + 1)) → false ≡ is_digit (slice_index cs k) base → is_based (drop from cs) ≡ false
no_digit_behind cs from k base e h f = based_at cs from k e ∙ and_right _ _ (ap (is_digit (slice_index cs k)) (sym h) ∙ sym f)

pub based_place : (cs : List ℕ) (from k to base : ℕ) → k ≡ from + letter_len (drop from cs) → base ≡ base_of (slice_index cs (from + 1)) → true ≡ eqb (slice_index cs from) 48 → true ≡ is_digit (slice_index cs k) base → to ≡ k + digits_len base (drop k cs)
    → (is_based (drop from cs) ≡ true) × IsNumeralAt (drop from cs) from (record { base = base; digits = k; whole = to; to = to })
based_place cs from k to base e h z t d =
    let xs = drop from cs in
    let b : is_based xs ≡ true = based_at cs from k e ∙ and_from _ _ (sym z) (ap (is_digit (slice_index cs k)) (sym h) ∙ sym t) in
    let w = whole_step xs (letter_len xs) b refl in
    let r : radix_of xs ≡ base = w.1 ∙ ap base_of (later_at cs from 1) ∙ sym h in
    let l : whole_len xs ≡ letter_len xs + digits_len base (drop k cs) = w.2 ∙ ap (λ (n : ℕ). letter_len xs + digits_len n (drop (letter_len xs) xs)) (sym w.1 ∙ r) ∙ ap (λ (ys : List ℕ). letter_len xs + digits_len base ys) (drop-drop (letter_len xs) from cs ∙ ap (λ (n : ℕ). drop n cs) (sym e)) in
    let n : numeral_len xs ≡ whole_len xs = numeral_based xs b in
    (b, record { base = sym r; digits = rw w.0 e; whole = omega arith; to = omega arith })

-- Digits one by one

pub not_below : (a b : ℕ) → (a < b → ⊥) → b ≤ a
not_below a b h = ⊎_elim (λ l. absurd (h l)) (λ g. g) (cases_lt a b)

range_at : (cs : List ℕ) (from to at : ℕ) → from ≤ at → at < to → to ≤ length cs → (at - from < length (slice_range cs from to)) × (slice_index (slice_range cs from to) (at - from) ≡ slice_index cs at)
range_at cs from to at h k l =
    let n : length (take (to - from) (drop from cs)) ≡ to - from = length-take-le (to - from) (drop from cs) (let e = length-drop from cs in omega arith) in
    let a : from + (at - from) ≡ at = omega arith in
    (omega arith, get_or-take (to - from) (drop from cs) (at - from) 0 (omega arith) ∙ get_or-drop from cs (at - from) 0 ∙ ap (slice_index cs) a)

pub range_more : (cs : List ℕ) (from to at : ℕ) → from ≤ at → at < to → to ≤ length cs → drop (at - from) (slice_range cs from to) ≡ slice_index cs at ∷ drop ((at + 1) - from) (slice_range cs from to)
range_more cs from to at h k l =
    let r = range_at cs from to at h k l in
    let s : (at - from) + 1 ≡ (at + 1) - from = omega arith in
    drop_more (slice_range cs from to) (at - from) 0 r.0 ∙ ap₂ (λ (c m : ℕ). c ∷ drop m (slice_range cs from to)) r.1 s

pub range_end : (cs : List ℕ) (from to at : ℕ) → to ≤ at → drop (at - from) (slice_range cs from to) ≡ []
range_end cs from to at h = drop_all (at - from) (take (to - from) (drop from cs)) (let e = length-take (to - from) (drop from cs) in omega arith)

pub range_start : (from : ℕ) (xs : List ℕ) → drop (from - from) xs ≡ xs
range_start from xs = let e : from - from ≡ 0 = omega arith in ap (λ (n : ℕ). drop n xs) e

pub zero_here : (cs : List ℕ) (from to at : ℕ) (b : Bool) → from ≤ at → at < to → to ≤ length cs → b ≡ (eqb (slice_index cs at) 48 || eqb (slice_index cs at) 95)
    → is_zero (drop (at - from) (slice_range cs from to)) ≡ (b && is_zero (drop ((at + 1) - from) (slice_range cs from to)))
zero_here cs from to at b h k l e = ap is_zero (range_more cs from to at h k l) ∙ ap (λ (t : Bool). t && is_zero (drop ((at + 1) - from) (slice_range cs from to))) (sym e)

digits_each : (base : ℕ) {ds : List ℕ} → IsDigits (λ c. is_digit c base) ds → (i : ℕ) → i < length ds → (is_digit (slice_index ds i) base ≡ true) ⊎ (slice_index ds i ≡ 95)
digits_each base (last t) zero l = inl t
digits_each base (last t) (suc i) l = absurd (omega arith)
digits_each base (next t d) zero l = inl t
digits_each base (next t d) (suc i) l = digits_each base d i (omega arith)
digits_each base (parted t u d) zero l = inl t
digits_each base (parted t u d) (suc zero) l = inr u
digits_each base (parted t u d) (suc (suc i)) l = digits_each base d i (omega arith)

pub digit_here : (base : ℕ) (cs : List ℕ) (from to at : ℕ) → IsDigits (λ c. is_digit c base) (slice_range cs from to) → from ≤ at → at < to → to ≤ length cs → (is_digit (slice_index cs at) base ≡ true) ⊎ (slice_index cs at ≡ 95)
digit_here base cs from to at d h k l =
    let r = range_at cs from to at h k l in
    subst (λ (c : ℕ). (is_digit c base ≡ true) ⊎ (c ≡ 95)) r.1 (digits_each base d (at - from) r.0)

-- the value of a number with these digits behind its own
abbrev pub value_behind : ℕ → ℕ → List ℕ → ℕ
value_behind base value ds = fold (λ value c. value * base + digit_value c) value (filter (λ c. not (eqb c 95)) ds)

pub value_more : (base value c : ℕ) (ds : List ℕ) → value_behind base value (c ∷ ds) ≡ value_behind base (with_digit base value c) ds
value_more base value c ds = by_test (eqb c 95)
  where
    by_test : (b : Bool) → fold (λ value c. value * base + digit_value c) value (cond (not b) (c ∷ filter (λ c. not (eqb c 95)) ds) (filter (λ c. not (eqb c 95)) ds)) ≡ value_behind base (cond b value (value * base + digit_value c)) ds
    by_test true = refl
    by_test false = refl

with_digit-ge : (base value c : ℕ) → 1 ≤ base → value ≤ with_digit base value c
with_digit-ge base value c h =
    let m : value * 1 ≤ value * base = mul-le-mul_left value h in
    cond_both (eqb c 95) value (value * base + digit_value c) (λ (n : ℕ). value ≤ n) (λ _. omega arith) (λ _. omega arith)

-- the value of a number only grows
value_grows : (base value : ℕ) (ds : List ℕ) → 1 ≤ base → value ≤ value_behind base value ds
value_grows base value [] h = omega arith
value_grows base value (c ∷ ds) h =
    rw value_more (let a = value_grows base (with_digit base value c) ds h in let b = with_digit-ge base value c h in omega arith)

pub value_here : (base value : ℕ) (cs : List ℕ) (from to at : ℕ) → from ≤ at → at < to → to ≤ length cs
    → value_behind base value (drop (at - from) (slice_range cs from to)) ≡ value_behind base (with_digit base value (slice_index cs at)) (drop ((at + 1) - from) (slice_range cs from to))
value_here base value cs from to at h k l =
    ap (value_behind base value) (range_more cs from to at h k l) ∙ value_more base value (slice_index cs at) (drop ((at + 1) - from) (slice_range cs from to))

pub too_wide : (base value : ℕ) (cs : List ℕ) (from to at : ℕ) → 2 ≤ base → from ≤ at → at < to → to ≤ length cs → value_behind base value (drop (at - from) (slice_range cs from to)) ≡ digits_value base (slice_range cs from to)
    → (with_digit base value (slice_index cs at) < 2 ^ 128 → ⊥) → number_limit ≤ digits_value base (slice_range cs from to)
too_wide base value cs from to at b h k l i n =
    let e = value_here base value cs from to at h k l in
    let g = value_grows base (with_digit base value (slice_index cs at)) (drop ((at + 1) - from) (slice_range cs from to)) (omega arith) in
    let w : 2 ^ 128 ≤ with_digit base value (slice_index cs at) = not_below _ _ n in
    omega arith
