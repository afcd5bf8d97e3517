-- Escapes and the digits in them.
use Rattle.std.proofs.Common.{◌≡◌, ◌≢◌, ◌⊎◌, inl, inr, ⊎_elim, ℕ, IsTrue, IsFalse, zero, suc, Bool, true, false, not, cond, eqb, List, [], ◌∷◌, ◌+◌, ◌-◌, ◌*◌, ◌^◌, ◌<◌, ◌≤◌, length, take, drop, filter, slice_index, ◌==◌, ◌&&◌, refl, ap, sym, ◌∙◌, arith, add-one, min, Option, Some, None, SomeIff, unwrap_or, subst}
use Rattle.std.specs.List.{prefix_len, list_all, find}
use Rattle.std.specs.Char.{is_digit, digit_value, is_ascii_hexdigit, IsScalar}
use Rattle.std.specs.Str.{all_scalars}
use Rattle.std.proofs.lemmas.List.{length-take, length-drop, get_or-drop, get_or_past, drop-drop}
use Rattle.std.proofs.lemmas.List.Elements.{filter_more}
use Rattle.std.proofs.lemmas.List.Sums.{fold_push, prefix_len_passes, prefix_len-le-length, prefix_len-drop_yes}
use Rattle.std.proofs.lemmas.Bool.{ltb-true, eqb-true, eq-eqb, ne_eqb, false≢true, false_from_ne_true, cases_lt}
use Rattle.std.proofs.lemmas.Bool.Decides.{nat_tests}
use Rattle.std.proofs.Math.Nat.{pow-suc, add-mul, mul-le-mul_right, pow-le-pow_right}
use Rattle.px_lexer.specs.Places.{is_line_break, line_end_len}
use Rattle.px_lexer.specs.Numbers.{digits_value}
use Rattle.px_lexer.specs.Strings.{Escape, escape_of, hex_escape, octal_escape, simple_escape, simple_escapes}

-- room for one digit more
pub number_room : (base value digit read count : ℕ) → 2 ≤ base → value < base ^ read → digit < base → read < count → base ^ count ≤ 2 ^ 32 → (value * base + digit < base ^ (read + 1)) × (base ^ (read + 1) ≤ 2 ^ 32)
number_room base value digit read count low small below more fits =
    let m : (value + 1) * base ≤ base ^ read * base = mul-le-mul_right base (omega arith) in
    let s : base ^ suc read ≡ base ^ read * base = pow-suc base read in
    let p : base ^ (read + 1) ≤ base ^ count = pow-le-pow_right (omega arith) (omega arith) in
    let w : (value + 1) * base ≡ value * base + 1 * base = add-mul value 1 base in
    let e : base ^ (read + 1) ≡ base ^ read * base = rw add-one s in
    (omega arith, omega arith)

digit_not_underscore : (c base : ℕ) → base ≤ 36 → digit_value c < base → eqb c 95 ≡ false
digit_not_underscore c base h d = grind (arith, nat_tests)

not_underscore : (c : ℕ) → eqb c 95 ≡ false → (xs : List ℕ) → cond (not (c == 95)) (c ∷ xs) xs ≡ c ∷ xs
not_underscore c e xs = rw e refl

-- one digit more of those that are read
pub digits_value-more : (base : ℕ) (xs : List ℕ) (i : ℕ) → i < length xs → base ≤ 36 → digit_value (slice_index xs i) < base → digits_value base (take (i + 1) xs) ≡ digits_value base (take i xs) * base + digit_value (slice_index xs i)
digits_value-more base xs i inside high below =
    let e = digit_not_underscore (slice_index xs i) base high below in
    let f = filter_more (λ c. not (c == 95)) xs i 0 inside in
    rw (f, e) (fold_push (λ value c. value * base + digit_value c) 0 (filter (λ c. not (c == 95)) (take i xs)) (slice_index xs i))

pub unwrap_known : (o : Option ℕ) (P : Type 0) (v : ℕ) → SomeIff o P v → P → unwrap_or o 0 ≡ v
unwrap_known None P v h p = absurd (h p)
unwrap_known (Some x) P v h p = h.1

-- a digit among the digits of a number
pub record IsNextDigit (body : List ℕ) (from base read : ℕ) : Type 0 where
  pub inside : from + read < length body
  pub below : digit_value (slice_index body (from + read)) < base
  pub more : base ≤ 36 → digits_value base (take (read + 1) (drop from body)) ≡ digits_value base (take read (drop from body)) * base + digit_value (slice_index body (from + read))

pub next_digit : (body : List ℕ) (from base read count : ℕ) → from ≤ length body → count ≤ prefix_len (λ c. is_digit c base) (drop from body) → read < count → IsNextDigit body from base read
next_digit body from base read count inside digits more =
    let l = prefix_len-le-length (λ c. is_digit c base) (drop from body) in
    let k : read < length (drop from body) = omega arith in
    let p = prefix_len_passes (λ c. is_digit c base) (drop from body) read 0 (omega arith) in
    let e : slice_index (drop from body) read ≡ slice_index body (from + read) = get_or-drop from body read 0 in
    let b : digit_value (slice_index (drop from body) read) < base = ltb-true _ _ p in
    record {
      inside = omega (arith, length-drop from body);
      below = rw e at b;
      more = λ high. rw (← e) (digits_value-more base (drop from body) read k high b);
    }

-- Hexadecimal digits

hexdigit_is : (c : ℕ) → is_ascii_hexdigit c ≡ is_digit c 16
hexdigit_is c = grind (arith, nat_tests)

all_more : (x n m : ℕ) (xs : List ℕ) (b : Bool) → is_ascii_hexdigit x ≡ b → (n ≤ m → list_all is_ascii_hexdigit xs ≡ true) → suc n ≤ cond b (1 + m) 0 → (is_ascii_hexdigit x && list_all is_ascii_hexdigit xs) ≡ true
all_more x n m xs true e h k = rw e (h (omega arith))
all_more x n m xs false e h k = absurd (omega arith)

all_of_front : (n : ℕ) (xs : List ℕ) → n ≤ prefix_len (λ c. is_digit c 16) xs → list_all is_ascii_hexdigit (take n xs) ≡ true
all_of_front zero xs h = refl
all_of_front (suc n) [] h = refl
all_of_front (suc n) (x ∷ xs) h = all_more x n (prefix_len (λ c. is_digit c 16) xs) (take n xs) (is_digit x 16) (hexdigit_is x) (all_of_front n xs) h

front_more : (x n m : ℕ) (xs : List ℕ) (b : Bool) → is_ascii_hexdigit x ≡ b → (list_all is_ascii_hexdigit xs ≡ true → n ≤ m) → (is_ascii_hexdigit x && list_all is_ascii_hexdigit xs) ≡ true → suc n ≤ cond b (1 + m) 0
front_more x n m xs true e h k = let l : n ≤ m = h (rw e at k) in omega arith
front_more x n m xs false e h k = let l : (false && list_all is_ascii_hexdigit xs) ≡ true = rw e at k in absurd (false≢true l)

front_of_all : (n : ℕ) (xs : List ℕ) → length (take n xs) ≡ n → list_all is_ascii_hexdigit (take n xs) ≡ true → n ≤ prefix_len (λ c. is_digit c 16) xs
front_of_all zero xs l h = omega arith
front_of_all (suc n) [] l h = absurd (omega arith)
front_of_all (suc n) (x ∷ xs) l h = front_more x n (prefix_len (λ c. is_digit c 16) xs) (take n xs) (is_digit x 16) (hexdigit_is x) (front_of_all n xs (omega arith)) h

-- too few digits
pub hex_escape-few : (n : ℕ) (cs : List ℕ) → min n (prefix_len (λ c. is_digit c 16) (drop 2 cs)) < n → hex_escape n cs ≡ None
hex_escape-few n cs h = by_cases (eqb (length (take n (drop 2 cs))) n) (list_all is_ascii_hexdigit (take n (drop 2 cs))) refl refl
  where
    by_cases : (b d : Bool) → eqb (length (take n (drop 2 cs))) n ≡ b → list_all is_ascii_hexdigit (take n (drop 2 cs)) ≡ d → hex_escape n cs ≡ None
    by_cases false d e f = rw e refl
    by_cases true false e f = rw (e, f) refl
    by_cases true true e f = absurd (let k = front_of_all n (drop 2 cs) (eqb-true _ _ e) f in omega arith)

-- digits that write no character
pub hex_escape-no_scalar : (n : ℕ) (cs : List ℕ) → (IsScalar (digits_value 16 (take n (drop 2 cs))) → ⊥) → hex_escape n cs ≡ None
hex_escape-no_scalar n cs h = by_cases (eqb (length (take n (drop 2 cs))) n) (list_all is_ascii_hexdigit (take n (drop 2 cs))) refl refl
  where
    by_cases : (b d : Bool) → eqb (length (take n (drop 2 cs))) n ≡ b → list_all is_ascii_hexdigit (take n (drop 2 cs)) ≡ d → hex_escape n cs ≡ None
    by_cases false d e f = rw e refl
    by_cases true false e f = rw (e, f) refl
    by_cases true true e f = rw (e, f, false_from_ne_true _ h) refl

pub hex_escape-is : (n : ℕ) (cs : List ℕ) → n ≤ prefix_len (λ c. is_digit c 16) (drop 2 cs) → IsScalar (digits_value 16 (take n (drop 2 cs))) → hex_escape n cs ≡ Some (record { taken = 2 + n; given = digits_value 16 (take n (drop 2 cs)) ∷ [] })
hex_escape-is n cs h k =
    let l : length (take n (drop 2 cs)) ≡ n = omega (arith, length-take n (drop 2 cs), prefix_len-le-length (λ c. is_digit c 16) (drop 2 cs)) in
    rw (eq-eqb _ _ l, all_of_front n (drop 2 cs) h, k) refl

-- Escapes by their first character

pub escape-line_end : (cs : List ℕ) → IsTrue (is_line_break (slice_index cs 1)) → escape_of cs ≡ Some (record { taken = 1 + line_end_len (drop 1 cs); given = [] })
unfolding escape_of
escape-line_end cs h = rw h refl

pub escape-octal : (cs : List ℕ) → IsTrue (is_digit (slice_index cs 1) 8) → escape_of cs ≡ octal_escape cs
unfolding escape_of
escape-octal cs h =
    let e : is_line_break (slice_index cs 1) ≡ false = grind (arith, nat_tests) in
    rw (e, h) refl

pub escape-x : (cs : List ℕ) → slice_index cs 1 ≡ 120 → escape_of cs ≡ hex_escape 2 cs
unfolding escape_of
escape-x cs e = rw e refl

pub escape-u : (cs : List ℕ) → slice_index cs 1 ≡ 117 → escape_of cs ≡ hex_escape 4 cs
unfolding escape_of
escape-u cs e = rw e refl

pub escape-U : (cs : List ℕ) → slice_index cs 1 ≡ 85 → escape_of cs ≡ hex_escape 8 cs
unfolding escape_of
escape-U cs e = rw e refl

pub escape-N : (cs : List ℕ) → slice_index cs 1 ≡ 78 → escape_of cs ≡ None
unfolding escape_of
escape-N cs e = rw e refl

pub escape-simple : (cs : List ℕ) (c : ℕ) → slice_index cs 1 ≡ c → c ≢ 13 → c ≢ 10 → IsFalse (is_digit c 8) → c ≢ 120 → c ≢ 117 → c ≢ 85 → c ≢ 78 → escape_of cs ≡ simple_escape c (find (λ row. row.0 == c) simple_escapes)
unfolding escape_of
escape-simple cs c i h k d a b f g = rw (i, ne_eqb _ _ k, ne_eqb _ _ h, d, ne_eqb _ _ a, ne_eqb _ _ b, ne_eqb _ _ f, ne_eqb _ _ g) refl

pub line_break_is : (c : ℕ) → (c ≡ 13) ⊎ ((c ≢ 13) × (c ≡ 10)) → IsTrue (is_line_break c)
line_break_is c (inl e) = rw e refl
line_break_is c (inr e) = rw e.1 refl

-- Escapes that are read

pub powers_of_eight : (n : ℕ) → n ≤ 3 → 8 ^ n ≤ 512
powers_of_eight n h = pow-le-pow_right {n = 8} (omega arith) {i = n} {j = 3} h

pub powers_of_sixteen : (n : ℕ) → n ≤ 8 → 16 ^ n ≤ 4294967296
powers_of_sixteen n h = pow-le-pow_right {n = 16} (omega arith) {i = n} {j = 8} h

pub low_is_scalar : (c : ℕ) → c < 512 → IsScalar c
low_is_scalar c h = grind (arith, nat_tests)

-- what stands behind the backslash at an index
pub behind : (body : List ℕ) (at k : ℕ) → drop k (drop at body) ≡ drop (at + k) body
behind body at k = drop-drop k at body

pub next_of : (body : List ℕ) (at : ℕ) → slice_index (drop at body) 1 ≡ slice_index body (at + 1)
next_of body at = get_or-drop at body 1 0

-- How far an escape goes

-- an index at which a character other than 0 stands
pub inside_by : (cs : List ℕ) (i c : ℕ) → slice_index cs i ≡ c → 0 < c → i < length cs
inside_by cs i c e h = ⊎_elim (λ (k : i < length cs). k) (λ (k : length cs ≤ i). absurd (let p = get_or_past cs i 0 k in omega arith)) (cases_lt i (length cs))

-- an escape has two characters or more, all inside, and only the first two may be backslashes
pub record IsSpan (cs : List ℕ) (taken : ℕ) : Type 0 where
  pub long : 2 ≤ taken
  pub within : taken ≤ length cs
  pub later : (k : ℕ) → 2 ≤ k → k < taken → slice_index cs k ≢ 92

pub short_span : (cs : List ℕ) → 1 < length cs → IsSpan cs 2
short_span cs l = record { long = omega arith; within = omega arith; later = λ k h j. absurd (omega arith) }

line_span : (cs : List ℕ) → 1 < length cs → IsSpan cs (1 + line_end_len (drop 1 cs))
line_span cs l = by_cases (slice_index (drop 1 cs) 0 == 13) (slice_index (drop 1 cs) 1 == 10) refl
  where
    by_cases : (b d : Bool) → (slice_index (drop 1 cs) 1 == 10) ≡ d → IsSpan cs (1 + (cond (b && d) 2 1))
    by_cases false d e = short_span cs l
    by_cases true false e = short_span cs l
    by_cases true true e =
        let f : slice_index cs 2 ≡ 10 = sym (get_or-drop 1 cs 1 0) ∙ eqb-true _ _ e in
        let p = inside_by cs 2 10 f (omega arith) in
        record {
          long = omega arith;
          within = omega arith;
          later = λ k h j x. let k_is : k ≡ 2 = omega arith in let y : slice_index cs 2 ≡ 92 = rw k_is at x in absurd (omega arith);
        }

digit_no_backslash : (c base : ℕ) → base ≤ 36 → is_digit c base ≡ true → c ≢ 92
digit_no_backslash c base h d = λ e. absurd (grind (arith, nat_tests))

-- n digits behind the first k characters
digits_span : (cs : List ℕ) (base k n : ℕ) → base ≤ 36 → k ≤ 2 → k ≤ length cs → 2 ≤ k + n → n ≤ prefix_len (λ c. is_digit c base) (drop k cs) → IsSpan cs (k + n)
digits_span cs base k n high two inside long few =
    let w : prefix_len (λ c. is_digit c base) (drop k cs) ≤ length (drop k cs) = prefix_len-le-length (λ c. is_digit c base) (drop k cs) in
    record {
      long = long;
      within = omega (arith, length-drop k cs);
      later = λ j h i e.
          let p = prefix_len_passes (λ c. is_digit c base) (drop k cs) (j - k) 0 (omega arith) in
          let j_is : k + (j - k) ≡ j = omega arith in
          let f : slice_index (drop k cs) (j - k) ≡ slice_index cs j = rw get_or-drop (ap (λ x. slice_index cs x) j_is) in
          digit_no_backslash (slice_index (drop k cs) (j - k)) base high p (f ∙ e);
    }

taken_of : Option Escape → ℕ
taken_of None = 0
taken_of (Some e) = e.taken

span_of_some : (cs : List ℕ) (e f : Escape) → ◌≡◌ {A = Option Escape} (Some e) (Some f) → IsSpan cs e.taken → IsSpan cs f.taken
unfolding taken_of
span_of_some cs e f h s = subst (IsSpan cs) (ap taken_of h) s

octal_span : (cs : List ℕ) (e : Escape) → 1 < length cs → IsTrue (is_digit (slice_index cs 1) 8) → octal_escape cs ≡ Some e → IsSpan cs e.taken
octal_span cs e l d h =
    let n = prefix_len (λ c. is_digit c 8) (drop 1 cs) in
    let i : slice_index (drop 1 cs) 0 ≡ slice_index cs 1 = get_or-drop 1 cs 0 0 in
    let s : prefix_len (λ c. is_digit c 8) (drop 0 (drop 1 cs)) ≡ 1 + prefix_len (λ c. is_digit c 8) (drop (0 + 1) (drop 1 cs)) = prefix_len-drop_yes (λ c. is_digit c 8) (drop 1 cs) 0 0 (omega (arith, length-drop 1 cs)) (rw i d) in
    span_of_some cs _ e h (digits_span cs 8 1 (min 3 n) (omega arith) (omega arith) (omega arith) (omega arith) (omega arith))

hex_span : (n : ℕ) (cs : List ℕ) (e : Escape) → 1 < length cs → hex_escape n cs ≡ Some e → IsSpan cs e.taken
hex_span n cs e l h = by_cases (eqb (length (take n (drop 2 cs))) n) (list_all is_ascii_hexdigit (take n (drop 2 cs))) (all_scalars (digits_value 16 (take n (drop 2 cs)) ∷ [])) refl refl h
  where
    by_cases : (b d s : Bool) → eqb (length (take n (drop 2 cs))) n ≡ b → list_all is_ascii_hexdigit (take n (drop 2 cs)) ≡ d
        → ◌≡◌ {A = Option Escape} (cond ((b && d) && s) (Some (record { taken = 2 + n; given = digits_value 16 (take n (drop 2 cs)) ∷ [] })) None) (Some e) → IsSpan cs e.taken
    by_cases false d s i j k = absurd (let m : ◌≡◌ {A = Option Escape} None (Some e) = k in cc)
    by_cases true false s i j k = absurd (let m : ◌≡◌ {A = Option Escape} None (Some e) = k in cc)
    by_cases true true false i j k = absurd (let m : ◌≡◌ {A = Option Escape} None (Some e) = k in cc)
    by_cases true true true i j k = span_of_some cs _ e k (digits_span cs 16 2 n (omega arith) (omega arith) (omega arith) (omega arith) (front_of_all n (drop 2 cs) (eqb-true _ _ i) j))

simple_span : (cs : List ℕ) (c : ℕ) (o : Option (ℕ × ℕ)) (e : Escape) → 1 < length cs → simple_escape c o ≡ Some e → IsSpan cs e.taken
simple_span cs c None e l h = span_of_some cs _ e h (short_span cs l)
simple_span cs c (Some row) e l h = span_of_some cs _ e h (short_span cs l)

-- the first of some cases that is met
by_first : {X : Type 0} (P : Type 0) (x : X) (b₁ b₂ b₃ b₄ b₅ b₆ : Bool) (r₁ r₂ r₃ r₄ r₅ r₆ r₇ : X)
    → cond b₁ r₁ (cond b₂ r₂ (cond b₃ r₃ (cond b₄ r₄ (cond b₅ r₅ (cond b₆ r₆ r₇))))) ≡ x
    → (r₁ ≡ x → P) → (b₂ ≡ true → r₂ ≡ x → P) → (r₃ ≡ x → P) → (r₄ ≡ x → P) → (r₅ ≡ x → P) → (r₆ ≡ x → P) → (r₇ ≡ x → P) → P
by_first P x true b₂ b₃ b₄ b₅ b₆ r₁ r₂ r₃ r₄ r₅ r₆ r₇ h f₁ f₂ f₃ f₄ f₅ f₆ f₇ = f₁ h
by_first P x false true b₃ b₄ b₅ b₆ r₁ r₂ r₃ r₄ r₅ r₆ r₇ h f₁ f₂ f₃ f₄ f₅ f₆ f₇ = f₂ refl h
by_first P x false false true b₄ b₅ b₆ r₁ r₂ r₃ r₄ r₅ r₆ r₇ h f₁ f₂ f₃ f₄ f₅ f₆ f₇ = f₃ h
by_first P x false false false true b₅ b₆ r₁ r₂ r₃ r₄ r₅ r₆ r₇ h f₁ f₂ f₃ f₄ f₅ f₆ f₇ = f₄ h
by_first P x false false false false true b₆ r₁ r₂ r₃ r₄ r₅ r₆ r₇ h f₁ f₂ f₃ f₄ f₅ f₆ f₇ = f₅ h
by_first P x false false false false false true r₁ r₂ r₃ r₄ r₅ r₆ r₇ h f₁ f₂ f₃ f₄ f₅ f₆ f₇ = f₆ h
by_first P x false false false false false false r₁ r₂ r₃ r₄ r₅ r₆ r₇ h f₁ f₂ f₃ f₄ f₅ f₆ f₇ = f₇ h

pub escape_span : (cs : List ℕ) (e : Escape) → 1 < length cs → escape_of cs ≡ Some e → IsSpan cs e.taken
unfolding escape_of
escape_span cs e l h =
    by_first (IsSpan cs e.taken) (Some e) (is_line_break (slice_index cs 1)) (is_digit (slice_index cs 1) 8) (slice_index cs 1 == 120) (slice_index cs 1 == 117) (slice_index cs 1 == 85) (slice_index cs 1 == 78) _ _ _ _ _ _ (simple_escape (slice_index cs 1) (find (λ row. row.0 == slice_index cs 1) simple_escapes)) h
    (λ g. span_of_some cs _ e g (line_span cs l))
    (λ d g. octal_span cs e l d g)
    (λ g. hex_span 2 cs e l g)
    (λ g. hex_span 4 cs e l g)
    (λ g. hex_span 8 cs e l g)
    (λ g. absurd (let m : ◌≡◌ {A = Option Escape} None (Some e) = g in cc))
    (λ g. simple_span cs (slice_index cs 1) _ e l g)
