-- What the reader of numbers goes over at each of its steps.
use Rattle.std.proofs.Common.{◌≡◌, ◌≢◌, ℕ, suc, ◌+◌, ◌<◌, ◌≤◌, Bool, true, false, cond, ◌&&◌, ◌||◌, ◌⊎◌, List, [], ◌∷◌, ◌++◌, length, take, drop, eqb, slice_index, IsTrue, sym, refl, ap, ◌∙◌, subst, inl, inr, arith, one-add, add-zero, zero-add, take-add, take-append-drop, drop_at, append_assoc, length-append, length-drop, length-take-le}
use Rattle.std.proofs.lemmas.Bool.{cond-true, cond-false, cond_both, or_right, or_left, or_from, cases_lt, and_right, false_from_ne_true, or_cases, and_from, and_left, and_parts, eqb-true, eq-eqb, ne_eqb, false≢true}
use Rattle.std.proofs.lemmas.Bool.Decides.{nat_tests}
use Rattle.std.proofs.lemmas.List.{get_or_past}
use Rattle.std.specs.Char.{is_digit, is_ascii_digit}
use Rattle.px_lexer.specs.Numbers.{IsDigits, last, next, parted, IsDecimal, base_of, IsPointFloat, fraction_alone, with_fraction, with_point, IsExponent, signed, unsigned, IsFloatingPoint, point, exponent, IsFloat, IsBased, IsNumeral, decimal, based, float}
use Rattle.px_lexer.specs.Spellings.{IsLongest}
use Rattle.px_lexer.specs.NumberSteps.{tail_len, digits_len, point_len, sign_len, exponent_len, suffix_len, front_len, floating_len, decimal_len, letter_len, is_based, digits_start, radix_of, whole_len, numeral_len}

abbrev pub IsDigitsOf : ℕ → List ℕ → Type 0
IsDigitsOf base = IsDigits (λ c. is_digit c base)

two_more : (n : ℕ) → 2 + n ≡ suc (suc n)
two_more n = omega arith

three_more : (n : ℕ) → 3 + n ≡ suc (suc (suc n))
three_more n = omega arith

ten_small : 10 ≤ 36
ten_small = omega arith

-- Digits

pub decimal_digit : (c : ℕ) → is_ascii_digit c ≡ is_digit c 10
decimal_digit c = grind (arith, nat_tests)

pub digits_of_decimal : {cs : List ℕ} → IsDecimal cs → IsDigitsOf 10 cs
digits_of_decimal (last {c} t) = last (sym (decimal_digit c) ∙ t)
digits_of_decimal (next {c} t d) = next (sym (decimal_digit c) ∙ t) (digits_of_decimal d)
digits_of_decimal (parted {c} t u d) = parted (sym (decimal_digit c) ∙ t) u (digits_of_decimal d)

pub decimal_of_digits : {cs : List ℕ} → IsDigitsOf 10 cs → IsDecimal cs
decimal_of_digits (last {c} t) = last (decimal_digit c ∙ t)
decimal_of_digits (next {c} t d) = next (decimal_digit c ∙ t) (decimal_of_digits d)
decimal_of_digits (parted {c} t u d) = parted (decimal_digit c ∙ t) u (decimal_of_digits d)

-- digits begin with a digit
pub first_digit : (base : ℕ) {cs : List ℕ} → IsDigitsOf base cs → (rest : List ℕ) → is_digit (slice_index (cs ++ rest) 0) base ≡ true
first_digit base (last t) rest = t
first_digit base (next t d) rest = t
first_digit base (parted t u d) rest = t

pub at_digit : (base c : ℕ) (cs : List ℕ) → is_digit c base ≡ true → (digits_len base (c ∷ cs) ≡ suc (tail_len base cs)) × (tail_len base (c ∷ cs) ≡ suc (tail_len base cs))
unfolding digits_len tail_len
at_digit base c cs t = (cond-true _ _ _ t, cond-true _ _ _ (or_left _ _ t))

at_underscore : (base c : ℕ) (cs : List ℕ) → c ≡ 95 → is_digit (slice_index cs 0) base ≡ true → tail_len base (c ∷ cs) ≡ suc (tail_len base cs)
unfolding tail_len
at_underscore base c cs u t = cond-true _ _ _ (or_right _ _ (and_from _ _ (eq-eqb c 95 u) t))

-- behind a digit, digits go on with all of themselves
pub tail_append : (base : ℕ) {cs : List ℕ} → IsDigitsOf base cs → (rest : List ℕ) → tail_len base (cs ++ rest) ≡ length cs + tail_len base rest
tail_append base (last {c} t) rest = (at_digit base c rest t).1 ∙ sym (one-add _)
tail_append base (next {c} {cs} t d) rest = (at_digit base c (cs ++ rest) t).1 ∙ (let e = tail_append base d rest in omega arith)
tail_append base (parted {c} {between = u} {cs} t q d) rest =
    let a = (at_digit base c (u ∷ (cs ++ rest)) t).1 in
    let b = at_underscore base u (cs ++ rest) q (first_digit base d rest) in
    let e = tail_append base d rest in
    omega arith

digits_nonempty : (base : ℕ) {cs : List ℕ} → IsDigitsOf base cs → 0 < length cs
digits_nonempty base (last t) = omega arith
digits_nonempty base (next t d) = omega arith
digits_nonempty base (parted t u d) = omega arith

-- the digits at the front go as far as those that stand there, and maybe on behind them
pub digits_append : (base : ℕ) {cs : List ℕ} → IsDigitsOf base cs → (rest : List ℕ) → digits_len base (cs ++ rest) ≡ length cs + tail_len base rest
digits_append base (last {c} t) rest = (at_digit base c rest t).0 ∙ sym (one-add _)
digits_append base (next {c} {cs} t d) rest = (at_digit base c (cs ++ rest) t).0 ∙ (let e = tail_append base d rest in omega arith)
digits_append base (parted {c} {between = u} {cs} t q d) rest =
    let a = (at_digit base c (u ∷ (cs ++ rest)) t).0 in
    let b = at_underscore base u (cs ++ rest) q (first_digit base d rest) in
    let e = tail_append base d rest in
    omega arith

no_digit : (base : ℕ) → base ≤ 36 → is_digit 0 base ≡ true → ⊥
no_digit base h t = grind (arith, nat_tests)

-- what a character does behind a digit
data GoesOn (base c : ℕ) (cs : List ℕ) : Type 0 where
  digit : is_digit c base ≡ true → GoesOn base c cs
  underscore : c ≡ 95 → is_digit (slice_index cs 0) base ≡ true → GoesOn base c cs
  none : tail_len base (c ∷ cs) ≡ 0 → GoesOn base c cs

goes_on : (base c : ℕ) (cs : List ℕ) → GoesOn base c cs
unfolding tail_len
goes_on base c cs = by_digit (is_digit c base) refl
  where
    by_underscore : (b : Bool) → (eqb c 95 && is_digit (slice_index cs 0) base) ≡ b → is_digit c base ≡ false → GoesOn base c cs
    by_underscore true e f = let p = and_parts _ _ e in underscore (eqb-true c 95 p.0) p.1
    by_underscore false e f = none (cond-false _ _ _ (or_from _ _ f e))

    by_digit : (b : Bool) → is_digit c base ≡ b → GoesOn base c cs
    by_digit true e = digit e
    by_digit false e = by_underscore _ refl e

take_tail : (base d : ℕ) (ds : List ℕ) → tail_len base (d ∷ ds) ≡ suc (tail_len base ds) → d ∷ take (tail_len base ds) ds ≡ take (tail_len base (d ∷ ds)) (d ∷ ds)
take_tail base d ds e = rw e refl

take_none : (base d : ℕ) (ds : List ℕ) → tail_len base (d ∷ ds) ≡ 0 → [] ≡ take (tail_len base (d ∷ ds)) (d ∷ ds)
take_none base d ds e = rw e refl

-- what goes on behind a digit is digits with it
pub tail_sound : (base c : ℕ) (cs : List ℕ) → base ≤ 36 → is_digit c base ≡ true → IsDigitsOf base (c ∷ take (tail_len base cs) cs)
unfolding tail_len
tail_sound base c [] h t = last t
tail_sound base c (d ∷ []) h t = go (goes_on base d [])
  where
    go : GoesOn base d [] → IsDigitsOf base (c ∷ take (tail_len base (d ∷ [])) (d ∷ []))
    go (digit s) = subst (λ (xs : List ℕ). IsDigitsOf base (c ∷ xs)) (take_tail base d [] (at_digit base d [] s).1) (next t (last s))
    go (underscore q s) = absurd (no_digit base h s)
    go (none e) = subst (λ (xs : List ℕ). IsDigitsOf base (c ∷ xs)) (take_none base d [] e) (last t)
tail_sound base c (d ∷ e ∷ es) h t = go (goes_on base d (e ∷ es)) (λ s. tail_sound base d (e ∷ es) h s) (λ s. tail_sound base e es h s)
  where
    go : GoesOn base d (e ∷ es) → (is_digit d base ≡ true → IsDigitsOf base (d ∷ take (tail_len base (e ∷ es)) (e ∷ es))) → (is_digit e base ≡ true → IsDigitsOf base (e ∷ take (tail_len base es) es))
        → IsDigitsOf base (c ∷ take (tail_len base (d ∷ e ∷ es)) (d ∷ e ∷ es))
    go (digit s) f g = subst (λ (xs : List ℕ). IsDigitsOf base (c ∷ xs)) (take_tail base d (e ∷ es) (at_digit base d (e ∷ es) s).1) (next t (f s))
    go (underscore q s) f g =
        subst (λ (xs : List ℕ). IsDigitsOf base (c ∷ xs)) (ap (λ (xs : List ℕ). d ∷ xs) (take_tail base e es (at_digit base e es s).1) ∙ take_tail base d (e ∷ es) (at_underscore base d (e ∷ es) q s)) (parted t q (g s))
    go (none z) f g = subst (λ (xs : List ℕ). IsDigitsOf base (c ∷ xs)) (take_none base d (e ∷ es) z) (last t)

-- Digits at the front: their characters are digits, or there are none.

pub digits_sound : (base : ℕ) (cs : List ℕ) → base ≤ 36 → is_digit (slice_index cs 0) base ≡ true → IsDigitsOf base (take (digits_len base cs) cs) × (0 < digits_len base cs)
digits_sound base [] h t = absurd (no_digit base h t)
digits_sound base (c ∷ cs) h t = rw (at_digit base c cs t).0 (tail_sound base c cs h t, omega arith)

pub digits_none : (base : ℕ) (cs : List ℕ) → is_digit (slice_index cs 0) base ≡ false → digits_len base cs ≡ 0
unfolding digits_len
digits_none base [] f = refl
digits_none base (c ∷ cs) f = cond-false _ _ _ f

tail-le : (base : ℕ) (cs : List ℕ) → tail_len base cs ≤ length cs
unfolding tail_len
tail-le base [] = omega arith
tail-le base (c ∷ cs) =
    let h = tail-le base cs in
    cond_both (is_digit c base || (eqb c 95 && is_digit (slice_index cs 0) base)) (suc (tail_len base cs)) 0 (λ (n : ℕ). n ≤ suc (length cs)) (λ _. omega arith) (λ _. omega arith)

pub digits-le : (base : ℕ) (cs : List ℕ) → digits_len base cs ≤ length cs
unfolding digits_len
digits-le base [] = omega arith
digits-le base (c ∷ cs) = let h = tail-le base cs in cond_both (is_digit c base) (suc (tail_len base cs)) 0 (λ (n : ℕ). n ≤ suc (length cs)) (λ _. omega arith) (λ _. omega arith)

-- a character that ends digits
pub record Ends (c : ℕ) : Type 0 where
  pub no_digit : is_digit c 10 ≡ false
  pub no_underscore : c ≢ 95

pub tail_ends : (c : ℕ) (cs : List ℕ) → Ends c → tail_len 10 (c ∷ cs) ≡ 0
unfolding tail_len
tail_ends c cs h = cond-false _ _ _ (or_from _ _ h.no_digit (and_left _ _ (ne_eqb c 95 h.no_underscore)))

-- Digits, and a point

abbrev pub IsFront : List ℕ → Type 0
IsFront x = IsDecimal x ⊎ IsPointFloat x

-- digits, or none
abbrev Maybe : List ℕ → Type 0
Maybe x = (x ≡ []) ⊎ IsDecimal x

first_is : (cs : List ℕ) (c : ℕ) → c ≢ 0 → slice_index cs 0 ≡ c → cs ≡ c ∷ drop 1 cs
first_is [] c h e = absurd (h (sym e))
first_is (d ∷ cs) c h e = ap (λ (x : ℕ). x ∷ cs) e

maybe_append : (x : List ℕ) → Maybe x → (rest : List ℕ) → length x ≤ digits_len 10 (x ++ rest)
maybe_append x (inl e) rest = rw e (omega arith)
maybe_append x (inr d) rest = let e = digits_append 10 (digits_of_decimal d) rest in omega arith

maybe_exact : (x : List ℕ) → Maybe x → (c : ℕ) (rest : List ℕ) → Ends c → digits_len 10 (x ++ c ∷ rest) ≡ length x
maybe_exact x (inl e) c rest h = rw e (digits_none 10 (c ∷ rest) h.no_digit)
maybe_exact x (inr d) c rest h = let e = digits_append 10 (digits_of_decimal d) (c ∷ rest) in let z = tail_ends c rest h in omega arith

point_parts : {x : List ℕ} → IsPointFloat x → (w ds : List ℕ) × Maybe w × Maybe ds × (x ≡ w ++ 46 ∷ ds)
point_parts (fraction_alone f) = ([], f.digits, inl refl, inr f.formed, f.spelled)
point_parts (with_fraction w y d f e) = (w, f.digits, inr d, inr f.formed, e ∙ ap (λ (xs : List ℕ). w ++ xs) f.spelled)
point_parts (with_point w d e) = (w, [], inr d, inl refl, e)

ends_point : Ends 46
ends_point = record { no_digit = refl; no_underscore = λ e. omega (arith, e) }

pub front_step : (cs : List ℕ) (n : ℕ) → digits_len 10 cs ≡ n → front_len cs ≡ n + point_len (drop n cs)
unfolding front_len
front_step cs n e = ap (λ (n : ℕ). n + point_len (drop n cs)) e

at_point : (w rest : List ℕ) → Maybe w → front_len (w ++ 46 ∷ rest) ≡ length w + suc (digits_len 10 rest)
unfolding point_len
at_point w rest m = front_step (w ++ 46 ∷ rest) (length w) (maybe_exact w m 46 rest ends_point) ∙ ap (λ (xs : List ℕ). length w + point_len xs) (drop_at w (46 ∷ rest) (length w) refl)

no_point : (c : ℕ) (rest : List ℕ) → c ≢ 46 → point_len (c ∷ rest) ≡ 0
unfolding point_len
no_point c rest h = cond-false _ _ _ (ne_eqb c 46 h)

-- a character that ends digits and a point
pub record EndsFront (c : ℕ) : Type 0 where
  pub ends : Ends c
  pub no_point : c ≢ 46

pub front_exact : (x : List ℕ) → IsFront x → (c : ℕ) (rest : List ℕ) → EndsFront c → front_len (x ++ c ∷ rest) ≡ length x
front_exact x (inl d) c rest h =
    front_step (x ++ c ∷ rest) (length x) (maybe_exact x (inr d) c rest h.ends) ∙ ap (λ (xs : List ℕ). length x + point_len xs) (drop_at x (c ∷ rest) (length x) refl) ∙ ap (λ (n : ℕ). length x + n) (no_point c rest h.no_point) ∙ add-zero _
front_exact x (inr p) c rest h =
    let (w, ds, m, k, e) = point_parts p in
    let a = at_point w (ds ++ c ∷ rest) m in
    let b = maybe_exact ds k c rest h.ends in
    let s : front_len (x ++ c ∷ rest) ≡ front_len (w ++ 46 ∷ (ds ++ c ∷ rest)) = ap (λ (xs : List ℕ). front_len (xs ++ c ∷ rest)) e ∙ ap front_len (append_assoc w (46 ∷ ds) (c ∷ rest)) in
    let l : length x ≡ length w + suc (length ds) = ap length e ∙ length-append w (46 ∷ ds) in
    omega arith

pub front-ge : (cs : List ℕ) → digits_len 10 cs ≤ front_len cs
unfolding front_len
front-ge cs = omega arith

pub front_longest : (x : List ℕ) → IsFront x → (rest : List ℕ) → length x ≤ front_len (x ++ rest)
front_longest x (inl d) rest = let a = maybe_append x (inr d) rest in let b = front-ge (x ++ rest) in omega arith
front_longest x (inr p) rest =
    let (w, ds, m, k, e) = point_parts p in
    let a = at_point w (ds ++ rest) m in
    let b = maybe_append ds k rest in
    let s : front_len (x ++ rest) ≡ front_len (w ++ 46 ∷ (ds ++ rest)) = ap (λ (xs : List ℕ). front_len (xs ++ rest)) e ∙ ap front_len (append_assoc w (46 ∷ ds) rest) in
    let l : length x ≡ length w + suc (length ds) = ap length e ∙ length-append w (46 ∷ ds) in
    omega arith

-- An exponent

digit_is_no_sign : (c : ℕ) → is_digit c 10 ≡ true → (eqb c 43 || eqb c 45) ≡ false
digit_is_no_sign c t = grind (arith, nat_tests)

pub exponent_append : {x : List ℕ} → IsExponent x → (rest : List ℕ) → exponent_len (x ++ rest) ≡ length x + tail_len 10 rest
unfolding exponent_len sign_len
exponent_append {x} (signed e sign ds t s d q) rest =
    let l : sign_len (e ∷ sign ∷ (ds ++ rest)) ≡ 2 = cond-true _ _ _ s in
    let f = first_digit 10 (digits_of_decimal d) rest in
    let a = digits_append 10 (digits_of_decimal d) rest in
    let b : exponent_len (e ∷ sign ∷ (ds ++ rest)) ≡ 2 + digits_len 10 (ds ++ rest) = rw l (cond-true _ _ _ (and_from _ _ t f)) in
    ap (λ (xs : List ℕ). exponent_len (xs ++ rest)) q ∙ b ∙ (let n : length x ≡ suc (suc (length ds)) = ap length q in omega arith)
exponent_append {x} (unsigned e ds t d q) rest =
    let f = first_digit 10 (digits_of_decimal d) rest in
    let l : sign_len (e ∷ (ds ++ rest)) ≡ 1 = cond-false _ 2 _ (digit_is_no_sign (slice_index (ds ++ rest) 0) f) in
    let a = digits_append 10 (digits_of_decimal d) rest in
    let b : exponent_len (e ∷ (ds ++ rest)) ≡ 1 + digits_len 10 (ds ++ rest) = rw l (cond-true _ _ _ (and_from _ _ t f)) in
    ap (λ (xs : List ℕ). exponent_len (xs ++ rest)) q ∙ b ∙ (let n : length x ≡ suc (length ds) = ap length q in omega arith)

-- a character that ends digits, a point and an exponent
ends_e : (e : ℕ) → IsTrue (eqb e 101 || eqb e 69) → EndsFront e
ends_e e t = go (or_cases _ _ t)
  where
    go : IsTrue (eqb e 101) ⊎ IsTrue (eqb e 69) → EndsFront e
    go (inl h) = subst EndsFront (sym (eqb-true e 101 h)) (record { ends = record { no_digit = refl; no_underscore = λ q. omega (arith, q) }; no_point = λ q. omega (arith, q) })
    go (inr h) = subst EndsFront (sym (eqb-true e 69 h)) (record { ends = record { no_digit = refl; no_underscore = λ q. omega (arith, q) }; no_point = λ q. omega (arith, q) })

ends_j : EndsFront 106
ends_j = record { ends = record { no_digit = refl; no_underscore = λ q. omega (arith, q) }; no_point = λ q. omega (arith, q) }

exponent_begins : {x : List ℕ} → IsExponent x → (e : ℕ) × (y : List ℕ) × EndsFront e × (x ≡ e ∷ y)
exponent_begins (signed e sign ds t s d q) = (e, sign ∷ ds, ends_e e t, q)
exponent_begins (unsigned e ds t d q) = (e, ds, ends_e e t, q)

-- Digits, or a floating point literal

abbrev pub IsReal : List ℕ → Type 0
IsReal x = IsDecimal x ⊎ IsFloatingPoint x

pub floating_step : (cs : List ℕ) (n : ℕ) → front_len cs ≡ n → floating_len cs ≡ n + exponent_len (drop n cs)
unfolding floating_len
floating_step cs n e = ap (λ (n : ℕ). n + exponent_len (drop n cs)) e

pub floating-ge : (cs : List ℕ) → front_len cs ≤ floating_len cs
unfolding floating_len
floating-ge cs = omega arith

no_exponent : (rest : List ℕ) → exponent_len (106 ∷ rest) ≡ 0
unfolding exponent_len
no_exponent rest = refl

front_then_j : (x : List ℕ) → IsFront x → (rest : List ℕ) → floating_len (x ++ 106 ∷ rest) ≡ length x
front_then_j x f rest =
    floating_step (x ++ 106 ∷ rest) (length x) (front_exact x f 106 rest ends_j) ∙ ap (λ (xs : List ℕ). length x + exponent_len xs) (drop_at x (106 ∷ rest) (length x) refl)
    ∙ ap (λ (n : ℕ). length x + n) (no_exponent rest) ∙ add-zero _

-- where an exponent follows
front_then_exponent : (x y : List ℕ) → IsFront x → IsExponent y → (rest : List ℕ) → floating_len ((x ++ y) ++ rest) ≡ length (x ++ y) + tail_len 10 rest
front_then_exponent x y f k rest =
    let (e, z, h, q) = exponent_begins k in
    let s : x ++ (y ++ rest) ≡ x ++ e ∷ (z ++ rest) = ap (λ (ys : List ℕ). x ++ (ys ++ rest)) q in
    let a : front_len (x ++ (y ++ rest)) ≡ length x = ap front_len s ∙ front_exact x f e (z ++ rest) h in
    let b : floating_len (x ++ (y ++ rest)) ≡ length x + exponent_len (y ++ rest) =
    floating_step (x ++ (y ++ rest)) (length x) a ∙ ap (λ (xs : List ℕ). length x + exponent_len xs) (drop_at x (y ++ rest) (length x) refl) in
    let d = exponent_append k rest in
    let l = length-append x y in
    ap floating_len (append_assoc x y rest) ∙ (omega arith)

pub real_longest : (x : List ℕ) → IsReal x → (rest : List ℕ) → length x ≤ floating_len (x ++ rest)
real_longest x (inl d) rest = let a = front_longest x (inl d) rest in let b = floating-ge (x ++ rest) in omega arith
real_longest x (inr (point p)) rest = let a = front_longest x (inr p) rest in let b = floating-ge (x ++ rest) in omega arith
real_longest x (inr (exponent y z f k q)) rest = subst (λ (xs : List ℕ). length xs ≤ floating_len (xs ++ rest)) (sym q) (let a = front_then_exponent y z f k rest in omega arith)

pub real_exact : (x : List ℕ) → IsReal x → (rest : List ℕ) → floating_len (x ++ 106 ∷ rest) ≡ length x
real_exact x (inl d) rest = front_then_j x (inl d) rest
real_exact x (inr (point p)) rest = front_then_j x (inr p) rest
real_exact x (inr (exponent y z f k q)) rest =
    subst (λ (xs : List ℕ). floating_len (xs ++ 106 ∷ rest) ≡ length xs) (sym q) (front_then_exponent y z f k (106 ∷ rest) ∙ (let t = tail_ends 106 rest ends_j.ends in omega arith))

-- A decimal literal, with the suffix or without it

abbrev pub IsPlain : List ℕ → Type 0
IsPlain x = IsDecimal x ⊎ IsFloat x

pub decimal_step : (cs : List ℕ) (n : ℕ) → floating_len cs ≡ n → decimal_len cs ≡ n + suffix_len (drop n cs)
unfolding decimal_len
decimal_step cs n e = ap (λ (n : ℕ). n + suffix_len (drop n cs)) e

pub decimal-ge : (cs : List ℕ) → floating_len cs ≤ decimal_len cs
unfolding decimal_len
decimal-ge cs = omega arith

one_suffix : (rest : List ℕ) → suffix_len (106 ∷ rest) ≡ 1
unfolding suffix_len
one_suffix rest = refl

real_plain : (x : List ℕ) → IsReal x → (rest : List ℕ) → length x ≤ decimal_len (x ++ rest)
real_plain x r rest = let a = real_longest x r rest in let b = decimal-ge (x ++ rest) in omega arith

imaginary_plain : (x : List ℕ) → IsReal x → (rest : List ℕ) → length (x ++ 106 ∷ []) ≤ decimal_len ((x ++ 106 ∷ []) ++ rest)
imaginary_plain x r rest =
    let s : decimal_len ((x ++ 106 ∷ []) ++ rest) ≡ decimal_len (x ++ 106 ∷ rest) = ap decimal_len (append_assoc x (106 ∷ []) rest) in
    let a : decimal_len (x ++ 106 ∷ rest) ≡ length x + 1 =
    decimal_step (x ++ 106 ∷ rest) (length x) (real_exact x r rest) ∙ ap (λ (xs : List ℕ). length x + suffix_len xs) (drop_at x (106 ∷ rest) (length x) refl) ∙ ap (λ (n : ℕ). length x + n) (one_suffix rest) in
    let l = length-append x (106 ∷ []) in
    omega arith

pub plain_longest : (x : List ℕ) → IsPlain x → (rest : List ℕ) → length x ≤ decimal_len (x ++ rest)
plain_longest x (inl d) rest = real_plain x (inl d) rest
plain_longest x (inr (inl f)) rest = real_plain x (inr f) rest
plain_longest x (inr (inr i)) rest = subst (λ (xs : List ℕ). length xs ≤ decimal_len (xs ++ rest)) (sym i.spelled) (imaginary_plain i.front i.formed rest)

-- A float is longer than the digits that it begins with.

point_apart : {x : List ℕ} → IsPointFloat x → (rest : List ℕ) → digits_len 10 (x ++ rest) < length x
point_apart {x} p rest =
    let (w, ds, m, k, e) = point_parts p in
    let s : digits_len 10 (x ++ rest) ≡ digits_len 10 (w ++ 46 ∷ (ds ++ rest)) = ap (λ (xs : List ℕ). digits_len 10 (xs ++ rest)) e ∙ ap (digits_len 10) (append_assoc w (46 ∷ ds) rest) in
    let l : length x ≡ length w + suc (length ds) = ap length e ∙ length-append w (46 ∷ ds) in
    let a = maybe_exact w m 46 (ds ++ rest) ends_point in
    omega arith

front_short : (x : List ℕ) → IsFront x → (c : ℕ) (rest : List ℕ) → EndsFront c → digits_len 10 (x ++ c ∷ rest) ≤ length x
front_short x f c rest h = let a = front_exact x f c rest h in let b = front-ge (x ++ c ∷ rest) in omega arith

floating_apart : (x : List ℕ) → IsFloatingPoint x → (rest : List ℕ) → digits_len 10 (x ++ rest) < length x
floating_apart x (point p) rest = point_apart p rest
floating_apart x (exponent y z f k q) rest =
    let (e, u, h, r) = exponent_begins k in
    let s : digits_len 10 (x ++ rest) ≡ digits_len 10 (y ++ e ∷ (u ++ rest)) = ap (λ (xs : List ℕ). digits_len 10 (xs ++ rest)) (q ∙ ap (λ (zs : List ℕ). y ++ zs) r) ∙ ap (digits_len 10) (append_assoc y (e ∷ u) rest) in
    let l : length x ≡ length y + suc (length u) = ap length (q ∙ ap (λ (zs : List ℕ). y ++ zs) r) ∙ length-append y (e ∷ u) in
    let a = front_short y f e (u ++ rest) h in
    omega arith

real_short : (x : List ℕ) → IsReal x → (rest : List ℕ) → digits_len 10 (x ++ 106 ∷ rest) ≤ length x
real_short x r rest = let a = real_exact x r rest in let b = front-ge (x ++ 106 ∷ rest) in let d = floating-ge (x ++ 106 ∷ rest) in omega arith

pub float_apart : (x : List ℕ) → IsFloat x → (rest : List ℕ) → digits_len 10 (x ++ rest) < length x
float_apart x (inl f) rest = floating_apart x f rest
float_apart x (inr i) rest =
    let s : digits_len 10 (x ++ rest) ≡ digits_len 10 (i.front ++ 106 ∷ rest) = ap (λ (xs : List ℕ). digits_len 10 (xs ++ rest)) i.spelled ∙ ap (digits_len 10) (append_assoc i.front (106 ∷ []) rest) in
    let l : length x ≡ length i.front + 1 = ap length i.spelled ∙ length-append i.front (106 ∷ []) in
    let a = real_short i.front i.formed rest in
    omega arith

-- What the steps go over

inside : (cs : List ℕ) (i : ℕ) → slice_index cs i ≢ 0 → i < length cs
inside cs i h = by_cases (cases_lt i (length cs))
  where
    by_cases : (i < length cs) ⊎ (length cs ≤ i) → i < length cs
    by_cases (inl l) = l
    by_cases (inr g) = absurd (h (get_or_past cs i 0 g))

digit_inside : (base : ℕ) (cs : List ℕ) (i : ℕ) → base ≤ 36 → is_digit (slice_index cs i) base ≡ true → i < length cs
digit_inside base cs i h t = inside cs i (λ e. no_digit base h (subst (λ (c : ℕ). is_digit c base ≡ true) e t))

maybe_sound : (cs : List ℕ) → Maybe (take (digits_len 10 cs) cs)
maybe_sound cs = by_digit (is_digit (slice_index cs 0) 10) refl
  where
    by_digit : (b : Bool) → is_digit (slice_index cs 0) 10 ≡ b → Maybe (take (digits_len 10 cs) cs)
    by_digit true e = inr (decimal_of_digits (digits_sound 10 cs (omega arith) e).0)
    by_digit false e = inl (rw (digits_none 10 cs e) refl)

abbrev PointAt : List ℕ → ℕ → Type 0
PointAt cs n = (n ≡ 0) ⊎ ((ds : List ℕ) × Maybe ds × (take n cs ≡ 46 ∷ ds))

point_sound : (cs : List ℕ) → PointAt cs (point_len cs)
unfolding point_len
point_sound [] = inl refl
point_sound (c ∷ cs) =
    cond_both (eqb c 46) (suc (digits_len 10 cs)) 0 (PointAt (c ∷ cs)) (λ t. inr (take (digits_len 10 cs) cs, maybe_sound cs, ap (λ (d : ℕ). d ∷ take (digits_len 10 cs) cs) (eqb-true c 46 t))) (λ _. inl refl)

-- a number begins here
abbrev pub Begins : List ℕ → Type 0
Begins cs = (is_digit (slice_index cs 0) 10 ≡ true) ⊎ ((slice_index cs 0 ≡ 46) × (is_digit (slice_index cs 1) 10 ≡ true))

front_taken : (cs : List ℕ) (n : ℕ) → take (digits_len 10 cs + n) cs ≡ take (digits_len 10 cs) cs ++ take n (drop (digits_len 10 cs) cs)
front_taken cs n = take-add (digits_len 10 cs) n cs

with_digits : (cs : List ℕ) (n : ℕ) → IsDecimal (take (digits_len 10 cs) cs) → PointAt (drop (digits_len 10 cs) cs) n → IsFront (take (digits_len 10 cs + n) cs)
with_digits cs n d (inl z) = inl (rw (z, add-zero) d)
with_digits cs n d (inr (ds, inl z, e)) = inr (with_point (take (digits_len 10 cs) cs) d (front_taken cs n ∙ ap (λ (xs : List ℕ). take (digits_len 10 cs) cs ++ xs) (e ∙ ap (λ (xs : List ℕ). 46 ∷ xs) z)))
with_digits cs n d (inr (ds, inr m, e)) =
    inr (with_fraction (take (digits_len 10 cs) cs) (46 ∷ ds) d (record { digits = ds; formed = m; spelled = refl }) (front_taken cs n ∙ ap (λ (xs : List ℕ). take (digits_len 10 cs) cs ++ xs) e))

pub front_sound : (cs : List ℕ) → Begins cs → IsFront (take (front_len cs) cs)
unfolding front_len point_len
front_sound cs (inl t) = with_digits cs (point_len (drop (digits_len 10 cs) cs)) (decimal_of_digits (digits_sound 10 cs (omega arith) t).0) (point_sound (drop (digits_len 10 cs) cs))
front_sound [] (inr h) = absurd (omega (arith, h.0))
front_sound (c ∷ cs) (inr h) =
    let n : digits_len 10 (c ∷ cs) ≡ 0 = digits_none 10 (c ∷ cs) (subst (λ (d : ℕ). is_digit d 10 ≡ false) (sym h.0) refl) in
    let d = digits_sound 10 cs (omega arith) h.1 in
    let l : front_len (c ∷ cs) ≡ suc (digits_len 10 cs) = front_step (c ∷ cs) 0 n ∙ ap (λ (d : ℕ). 0 + point_len (d ∷ cs)) h.0 ∙ zero-add _ in
    inr (fraction_alone (record { digits = take (digits_len 10 cs) cs; formed = decimal_of_digits d.0; spelled = ap (λ (n : ℕ). take n (c ∷ cs)) l ∙ ap (λ (d : ℕ). d ∷ take (digits_len 10 cs) cs) h.0 }))

abbrev ExponentAt : List ℕ → ℕ → Type 0
ExponentAt cs n = (n ≡ 0) ⊎ IsExponent (take n cs)

exponent_step : (cs : List ℕ) (k : ℕ) → sign_len cs ≡ k → exponent_len cs ≡ cond ((eqb (slice_index cs 0) 101 || eqb (slice_index cs 0) 69) && is_digit (slice_index cs k) 10) (k + digits_len 10 (drop k cs)) 0
unfolding exponent_len
exponent_step cs k e = rw e refl

pub exponent_sound : (cs : List ℕ) → ExponentAt cs (exponent_len cs)
unfolding exponent_len sign_len
exponent_sound [] = inl refl
exponent_sound (e ∷ []) = inl (cond-false _ _ _ (and_right _ _ refl))
exponent_sound (e ∷ s ∷ cs) = by_sign (eqb s 43 || eqb s 45) refl
  where
    by_sign : (b : Bool) → (eqb s 43 || eqb s 45) ≡ b → ExponentAt (e ∷ s ∷ cs) (exponent_len (e ∷ s ∷ cs))
    by_sign true h =
        rw (exponent_step (e ∷ s ∷ cs) 2 (cond-true _ _ _ h))
        (cond_both ((eqb e 101 || eqb e 69) && is_digit (slice_index cs 0) 10) (2 + digits_len 10 cs) 0 (ExponentAt (e ∷ s ∷ cs))
        (λ t. let p = and_parts _ _ t in inr (signed e s (take (digits_len 10 cs) cs) p.0 h (decimal_of_digits (digits_sound 10 cs (omega arith) p.1).0) (rw two_more refl))) (λ _. inl refl))
    by_sign false h =
        rw (exponent_step (e ∷ s ∷ cs) 1 (cond-false _ 2 _ h))
        (cond_both ((eqb e 101 || eqb e 69) && is_digit s 10) (1 + digits_len 10 (s ∷ cs)) 0 (ExponentAt (e ∷ s ∷ cs))
        (λ t. let p = and_parts _ _ t in inr (unsigned e (take (digits_len 10 (s ∷ cs)) (s ∷ cs)) p.0 (decimal_of_digits (digits_sound 10 (s ∷ cs) (omega arith) p.1).0) (rw one-add refl))) (λ _. inl refl))

with_exponent : (cs : List ℕ) (n : ℕ) → IsFront (take (front_len cs) cs) → ExponentAt (drop (front_len cs) cs) n → IsReal (take (front_len cs + n) cs)
with_exponent cs n (inl d) (inl z) = inl (rw (z, add-zero) d)
with_exponent cs n (inr p) (inl z) = inr (point (rw (z, add-zero) p))
with_exponent cs n f (inr k) = inr (exponent (take (front_len cs) cs) (take n (drop (front_len cs) cs)) f k (take-add (front_len cs) n cs))

pub real_sound : (cs : List ℕ) → Begins cs → IsReal (take (floating_len cs) cs)
unfolding floating_len
real_sound cs b = with_exponent cs (exponent_len (drop (front_len cs) cs)) (front_sound cs b) (exponent_sound (drop (front_len cs) cs))

abbrev SuffixAt : List ℕ → ℕ → Type 0
SuffixAt cs n = (n ≡ 0) ⊎ (take n cs ≡ 106 ∷ [])

suffix_sound : (cs : List ℕ) → SuffixAt cs (suffix_len cs)
unfolding suffix_len
suffix_sound [] = inl refl
suffix_sound (c ∷ cs) = cond_both (eqb c 106) 1 0 (SuffixAt (c ∷ cs)) (λ t. inr (ap (λ (d : ℕ). d ∷ []) (eqb-true c 106 t))) (λ _. inl refl)

with_suffix : (cs : List ℕ) (n : ℕ) → IsReal (take (floating_len cs) cs) → SuffixAt (drop (floating_len cs) cs) n → IsPlain (take (floating_len cs + n) cs)
with_suffix cs n (inl d) (inl z) = inl (rw (z, add-zero) d)
with_suffix cs n (inr p) (inl z) = inr (inl (rw (z, add-zero) p))
with_suffix cs n f (inr k) = inr (inr (record { front = take (floating_len cs) cs; formed = f; spelled = take-add (floating_len cs) n cs ∙ ap (λ (xs : List ℕ). take (floating_len cs) cs ++ xs) k }))

pub plain_sound : (cs : List ℕ) → Begins cs → IsPlain (take (decimal_len cs) cs)
unfolding decimal_len
plain_sound cs b = with_suffix cs (suffix_len (drop (floating_len cs) cs)) (real_sound cs b) (suffix_sound (drop (floating_len cs) cs))

-- The steps stay within the text.

within : (cs : List ℕ) (n m : ℕ) → n ≤ length cs → m ≤ length (drop n cs) → n + m ≤ length cs
within cs n m h k = let l = length-drop n cs in omega arith

point-le : (cs : List ℕ) → point_len cs ≤ length cs
unfolding point_len
point-le [] = omega arith
point-le (c ∷ cs) = cond_both (eqb c 46) (suc (digits_len 10 cs)) 0 (λ (n : ℕ). n ≤ suc (length cs)) (λ _. let h = digits-le 10 cs in omega arith) (λ _. omega arith)

exponent-le : (cs : List ℕ) → exponent_len cs ≤ length cs
unfolding exponent_len
exponent-le cs =
    cond_both ((eqb (slice_index cs 0) 101 || eqb (slice_index cs 0) 69) && is_digit (slice_index cs (sign_len cs)) 10) (sign_len cs + digits_len 10 (drop (sign_len cs) cs)) 0 (λ (n : ℕ). n ≤ length cs)
    (λ t. let i : sign_len cs < length cs = digit_inside 10 cs (sign_len cs) ten_small (and_parts (eqb (slice_index cs 0) 101 || eqb (slice_index cs 0) 69) _ t).1 in within cs (sign_len cs) (digits_len 10 (drop (sign_len cs) cs)) (omega arith) (digits-le 10 (drop (sign_len cs) cs))) (λ _. omega arith)

suffix-le : (cs : List ℕ) → suffix_len cs ≤ length cs
unfolding suffix_len
suffix-le [] = omega arith
suffix-le (c ∷ cs) = cond_both (eqb c 106) 1 0 (λ (n : ℕ). n ≤ suc (length cs)) (λ _. omega arith) (λ _. omega arith)

pub decimal-le : (cs : List ℕ) → decimal_len cs ≤ length cs
unfolding decimal_len floating_len front_len
decimal-le cs =
    within cs (floating_len cs) (suffix_len (drop (floating_len cs) cs))
    (within cs (front_len cs) (exponent_len (drop (front_len cs) cs))
    (within cs (digits_len 10 cs) (point_len (drop (digits_len 10 cs) cs)) (digits-le 10 cs) (point-le _)) (exponent-le _)) (suffix-le _)

-- Digits behind a letter for their base

pub base-le : (letter : ℕ) → base_of letter ≤ 36
base-le letter = grind (arith, nat_tests)

-- a letter for a base ends all else
record IsLetter (letter : ℕ) : Type 0 where
  ends : Ends letter
  no_point : letter ≢ 46
  no_e : (eqb letter 101 || eqb letter 69) ≡ false
  no_j : eqb letter 106 ≡ false

no_base : (letter : ℕ) → is_digit letter 10 ≡ true → base_of letter ≡ 0
no_base letter t = grind (arith, nat_tests)

letters : (letter : ℕ) → base_of letter ≢ 0 → IsLetter letter
letters letter h = record {
  ends = record { no_digit = false_from_ne_true (is_digit letter 10) (λ t. h (no_base letter t)); no_underscore = λ e. h (ap base_of e) };
  no_point = λ e. h (ap base_of e);
  no_e = or_from (eqb letter 101) (eqb letter 69) (ne_eqb letter 101 (λ e. h (ap base_of e))) (ne_eqb letter 69 (λ e. h (ap base_of e)));
  no_j = ne_eqb letter 106 (λ e. h (ap base_of e));
}

pub digit_has_base : (c base : ℕ) → is_digit c base ≡ true → base ≢ 0
digit_has_base c base t = λ e. absurd (grind (arith, nat_tests))

pub digit_is_no_underscore : (c base : ℕ) → base ≤ 36 → is_digit c base ≡ true → eqb c 95 ≡ false
digit_is_no_underscore c base h t = ne_eqb c 95 (λ e. absurd (grind (arith, nat_tests)))

first_after_letter : (l : ℕ) (cs : List ℕ) → IsLetter l → decimal_len (48 ∷ l ∷ cs) ≡ 1
unfolding point_len exponent_len suffix_len
first_after_letter l cs h =
    let d : digits_len 10 (48 ∷ l ∷ cs) ≡ 1 = (at_digit 10 48 (l ∷ cs) refl).0 ∙ ap suc (tail_ends l cs h.ends) in
    let f : front_len (48 ∷ l ∷ cs) ≡ 1 = front_step (48 ∷ l ∷ cs) 1 d ∙ ap (λ (n : ℕ). 1 + n) (no_point l cs h.no_point) in
    let g : floating_len (48 ∷ l ∷ cs) ≡ 1 = floating_step (48 ∷ l ∷ cs) 1 f ∙ ap (λ (n : ℕ). 1 + n) (cond-false _ _ _ (and_left _ _ h.no_e)) in
    decimal_step (48 ∷ l ∷ cs) 1 g ∙ ap (λ (n : ℕ). 1 + n) (cond-false _ _ _ h.no_j)

pub based_decimal : (cs : List ℕ) → is_based cs ≡ true → decimal_len cs ≡ 1
unfolding is_based letter_len
based_decimal [] t = absurd (false≢true t)
based_decimal (c ∷ []) t = absurd (false≢true (and_parts _ _ t).1)
based_decimal (c ∷ l ∷ cs) t =
    let p = and_parts _ _ t in
    let z : c ≡ 48 = eqb-true c 48 p.0 in
    ap (λ (d : ℕ). decimal_len (d ∷ l ∷ cs)) z ∙ first_after_letter l cs (letters l (digit_has_base (slice_index (c ∷ l ∷ cs) (letter_len (c ∷ l ∷ cs))) (base_of l) p.1))

pub whole_step : (cs : List ℕ) (k : ℕ) → is_based cs ≡ true → letter_len cs ≡ k → (digits_start cs ≡ k) × (radix_of cs ≡ base_of (slice_index cs 1)) × (whole_len cs ≡ k + digits_len (base_of (slice_index cs 1)) (drop k cs))
unfolding digits_start radix_of whole_len
whole_step cs k t e = rw (t, e) (refl, refl, refl)

pub based_step : (cs : List ℕ) (k : ℕ) → letter_len cs ≡ k → is_based cs ≡ (eqb (slice_index cs 0) 48 && is_digit (slice_index cs k) (base_of (slice_index cs 1)))
unfolding is_based
based_step cs k e = rw e refl

-- what the steps say of digits behind a letter, k characters from the front
record StandsBehind (cs : List ℕ) (l k : ℕ) (digits rest : List ℕ) : Type 0 where
  based : is_based cs ≡ true
  start : digits_start cs ≡ k
  radix : radix_of cs ≡ base_of l
  len : whole_len cs ≡ k + length digits + tail_len (base_of l) rest

based_at_2 : (l : ℕ) (digits rest : List ℕ) → IsDigitsOf (base_of l) digits → StandsBehind (48 ∷ l ∷ (digits ++ rest)) l 2 digits rest
unfolding letter_len
based_at_2 l digits rest d =
    let cs = 48 ∷ l ∷ (digits ++ rest) in
    let f = first_digit (base_of l) d rest in
    let e : letter_len cs ≡ 2 = cond-false _ 3 _ (digit_is_no_underscore (slice_index (digits ++ rest) 0) (base_of l) (base-le l) f) in
    let t : is_based cs ≡ true = based_step cs 2 e ∙ f in
    let w = whole_step cs 2 t e in
    record { based = t; start = w.0; radix = w.1; len = w.2 ∙ (let a = digits_append (base_of l) d rest in omega arith) }

based_at_3 : (l : ℕ) (digits rest : List ℕ) → IsDigitsOf (base_of l) digits → StandsBehind (48 ∷ l ∷ 95 ∷ (digits ++ rest)) l 3 digits rest
unfolding letter_len
based_at_3 l digits rest d =
    let cs = 48 ∷ l ∷ 95 ∷ (digits ++ rest) in
    let f = first_digit (base_of l) d rest in
    let e : letter_len cs ≡ 3 = refl in
    let t : is_based cs ≡ true = based_step cs 3 e ∙ f in
    let w = whole_step cs 3 t e in
    record { based = t; start = w.0; radix = w.1; len = w.2 ∙ (let a = digits_append (base_of l) d rest in omega arith) }

pub based_longest : (x : List ℕ) (l : ℕ) (digits : List ℕ) → IsBased x l digits → (rest : List ℕ) → (is_based (x ++ rest) ≡ true) × (length x ≤ whole_len (x ++ rest)) × (3 ≤ length x)
based_longest x l digits b rest = by_spelling b.spelled
  where
    by_spelling : (x ≡ 48 ∷ l ∷ digits) ⊎ (x ≡ 48 ∷ l ∷ 95 ∷ digits) → (is_based (x ++ rest) ≡ true) × (length x ≤ whole_len (x ++ rest)) × (3 ≤ length x)
    by_spelling (inl e) =
        let a = based_at_2 l digits rest b.formed in
        let n = digits_nonempty (base_of l) b.formed in
        rw e (a.based, let w = a.len in omega arith, omega arith)
    by_spelling (inr e) =
        let a = based_at_3 l digits rest b.formed in
        rw e (a.based, let w = a.len in omega arith, omega arith)

-- the digits with which the whole number at the front ends
abbrev pub digits_of : List ℕ → List ℕ
digits_of cs = take (digits_len (radix_of cs) (drop (digits_start cs) cs)) (drop (digits_start cs) cs)

pub based_sound : (cs : List ℕ) → is_based cs ≡ true → IsBased (take (whole_len cs) cs) (slice_index cs 1) (digits_of cs)
unfolding is_based letter_len
based_sound [] t = absurd (false≢true t)
based_sound (c ∷ []) t = absurd (false≢true (and_parts _ _ t).1)
based_sound (c ∷ l ∷ []) t = absurd (no_digit (base_of l) (base-le l) (and_parts _ _ t).1)
based_sound (c ∷ l ∷ d ∷ cs) t = by_underscore (eqb d 95) refl
  where
    by_underscore : (b : Bool) → eqb d 95 ≡ b → IsBased (take (whole_len (c ∷ l ∷ d ∷ cs)) (c ∷ l ∷ d ∷ cs)) l (digits_of (c ∷ l ∷ d ∷ cs))
    by_underscore true e =
        let k : letter_len (c ∷ l ∷ d ∷ cs) ≡ 3 = cond-true _ _ _ e in
        let p = and_parts _ _ (sym (based_step (c ∷ l ∷ d ∷ cs) 3 k) ∙ t) in
        let w = whole_step (c ∷ l ∷ d ∷ cs) 3 t k in
        let s = digits_sound (base_of l) cs (base-le l) p.1 in
        let q = three_more (digits_len (base_of l) cs) in
        let z : c ≡ 48 = eqb-true c 48 p.0 in
        let u : d ≡ 95 = eqb-true d 95 e in
        rw (w.2, w.1, w.0, q, z, u) (record { formed = s.0; spelled = inr refl })
    by_underscore false e =
        let k : letter_len (c ∷ l ∷ d ∷ cs) ≡ 2 = cond-false _ 3 _ e in
        let p = and_parts _ _ (sym (based_step (c ∷ l ∷ d ∷ cs) 2 k) ∙ t) in
        let w = whole_step (c ∷ l ∷ d ∷ cs) 2 t k in
        let s = digits_sound (base_of l) (d ∷ cs) (base-le l) p.1 in
        let q = two_more (digits_len (base_of l) (d ∷ cs)) in
        let z : c ≡ 48 = eqb-true c 48 p.0 in
        rw (w.2, w.1, w.0, q, z) (record { formed = s.0; spelled = inl refl })

-- Any literal

pub numeral_plain : (cs : List ℕ) → is_based cs ≡ false → (digits_start cs ≡ 0) × (radix_of cs ≡ 10) × (whole_len cs ≡ digits_len 10 cs) × (numeral_len cs ≡ decimal_len cs)
unfolding digits_start radix_of whole_len numeral_len
numeral_plain cs f = rw f (refl, refl, zero-add _, refl)

pub numeral_based : (cs : List ℕ) → is_based cs ≡ true → numeral_len cs ≡ whole_len cs
unfolding numeral_len
numeral_based cs t = cond-true _ _ _ t

whole_not_short : (cs : List ℕ) → is_based cs ≡ true → 1 ≤ whole_len cs
unfolding letter_len
whole_not_short cs t =
    let w = (whole_step cs (letter_len cs) t refl).2 in
    let l : 1 ≤ letter_len cs = cond_both (eqb (slice_index cs 2) 95) 3 2 (λ (n : ℕ). 1 ≤ n) (λ _. omega arith) (λ _. omega arith) in
    omega arith

pub numeral_sound : (cs : List ℕ) → Begins cs → IsNumeral (take (numeral_len cs) cs)
numeral_sound cs b = by_base (is_based cs) refl
  where
    of_plain : {x : List ℕ} → IsPlain x → IsNumeral x
    of_plain (inl d) = decimal d
    of_plain (inr f) = float f

    by_base : (t : Bool) → is_based cs ≡ t → IsNumeral (take (numeral_len cs) cs)
    by_base true e = rw (numeral_based cs e) (based (slice_index cs 1) (digits_of cs) (based_sound cs e))
    by_base false e = rw ((numeral_plain cs e).3) (of_plain (plain_sound cs b))

plain_numeral : (x : List ℕ) → IsPlain x → (rest : List ℕ) → length x ≤ numeral_len (x ++ rest)
plain_numeral x p rest = by_base (is_based (x ++ rest)) refl
  where
    by_base : (t : Bool) → is_based (x ++ rest) ≡ t → length x ≤ numeral_len (x ++ rest)
    by_base true e = let a = plain_longest x p rest in let b = based_decimal (x ++ rest) e in let d = numeral_based (x ++ rest) e in let w = whole_not_short (x ++ rest) e in omega arith
    by_base false e = let a = plain_longest x p rest in let d = (numeral_plain (x ++ rest) e).3 in omega arith

pub numeral_longest : (x : List ℕ) → IsNumeral x → (rest : List ℕ) → length x ≤ numeral_len (x ++ rest)
numeral_longest x (decimal d) rest = plain_numeral x (inl d) rest
numeral_longest x (float f) rest = plain_numeral x (inr f) rest
numeral_longest x (based l digits b) rest = let w = based_longest x l digits b rest in let e = numeral_based (x ++ rest) w.0 in omega arith

whole-le : (cs : List ℕ) → is_based cs ≡ true → whole_len cs ≤ length cs
unfolding is_based
whole-le cs t =
    let i : letter_len cs < length cs = digit_inside (base_of (slice_index cs 1)) cs (letter_len cs) (base-le (slice_index cs 1)) (and_parts (eqb (slice_index cs 0) 48) _ t).1 in
    rw ((whole_step cs (letter_len cs) t refl).2) (within cs (letter_len cs) (digits_len (base_of (slice_index cs 1)) (drop (letter_len cs) cs)) (omega arith) (digits-le _ _))

pub numeral-le : (cs : List ℕ) → numeral_len cs ≤ length cs
numeral-le cs = by_base (is_based cs) refl
  where
    by_base : (t : Bool) → is_based cs ≡ t → numeral_len cs ≤ length cs
    by_base true e = rw (numeral_based cs e) (whole-le cs e)
    by_base false e = rw ((numeral_plain cs e).3) (decimal-le cs)

-- The steps go as far as a literal can.
pub numeral_is_longest : (cs : List ℕ) → Begins cs → IsLongest IsNumeral cs (numeral_len cs)
numeral_is_longest cs b = record {
  within = numeral-le cs;
  spelled = numeral_sound cs b;
  longest = λ m l k p.
      let a : length (take m cs) ≤ numeral_len (take m cs ++ drop m cs) = numeral_longest (take m cs) p (drop m cs) in
      let e = take-append-drop m cs in
      let n = length-take-le m cs k in
      let f : numeral_len (take m cs ++ drop m cs) ≡ numeral_len cs = ap numeral_len e in
      omega arith;
}
