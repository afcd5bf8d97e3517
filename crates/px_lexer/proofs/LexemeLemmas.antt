-- What a lexeme begins with, and that the forms of tokens begin apart.
use Rattle.std.proofs.Common.{◌≡◌, ℕ, zero, suc, ◌+◌, ◌<◌, ◌≤◌, Bool, true, false, not, ◌&&◌, ◌||◌, ◌⊎◌, inl, inr, List, [], ◌∷◌, ◌++◌, take, drop, slice_index, refl, sym, ap, ◌∙◌, subst, ⊎_elim, ap₂, ◌-◌, arith, take-append-drop, append_assoc}
use Rattle.std.specs.Prelude.{◌==◌, nat_le}
use Rattle.std.specs.Char.{is_ascii_digit}
use Rattle.std.specs.List.{list_all}
use Rattle.std.proofs.lemmas.Bool.{false≢true, and_parts, or_left, or_cases, eqb-true, leb-true}
use Rattle.std.proofs.lemmas.List.{length-take, get_or-take}
use Rattle.unicode_ident.proofs.Computing.{unicode_ident}
use Rattle.px_lexer.specs.Spellings.{is_among}
use Rattle.px_lexer.specs.Words.{starts_word}
use Rattle.px_lexer.specs.Numbers.{last, next, parted, IsDecimal, IsBased, IsFraction, IsPointFloat, fraction_alone, with_fraction, with_point, IsFloatingPoint, point, exponent, IsFloat, IsNumeral}
use Rattle.px_lexer.specs.Signs.{operators, foreign_signs, signs}
use Rattle.px_lexer.specs.Strings.{is_quote, is_prefix, opens_string}
use Rattle.px_lexer.specs.Pieces.{begins_number}
use Rattle.px_lexer.proofs.SpellingLemmas.{among_all}
use Rattle.px_lexer.proofs.PrefixLemmas.{opens_by_codes, opens_string_is}
use Rattle.px_lexer.proofs.SignLemmas.{sign_not_empty}

-- Numbers begin as they should

first_digit : {x : List ℕ} → IsDecimal x → (rest : List ℕ) → is_ascii_digit (slice_index (x ++ rest) 0) ≡ true
first_digit (last t) rest = t
first_digit (next t d) rest = t
first_digit (parted t u d) rest = t

decimal_begins : {x : List ℕ} → IsDecimal x → (rest : List ℕ) → begins_number (x ++ rest) ≡ true
decimal_begins d rest = or_left _ _ (first_digit d rest)

fraction_begins : {x : List ℕ} → IsFraction x → (rest : List ℕ) → begins_number (x ++ rest) ≡ true
fraction_begins f rest = subst (λ (y : List ℕ). begins_number (y ++ rest) ≡ true) (sym f.spelled) (first_digit f.formed rest)

-- what the first part of a number begins, the number does
more_begins : (x front back rest : List ℕ) → x ≡ front ++ back → ((more : List ℕ) → begins_number (front ++ more) ≡ true) → begins_number (x ++ rest) ≡ true
more_begins x front back rest e begins = ap (λ (y : List ℕ). begins_number (y ++ rest)) e ∙ ap begins_number (append_assoc front back rest) ∙ begins (back ++ rest)

point_begins : {x : List ℕ} → IsPointFloat x → (rest : List ℕ) → begins_number (x ++ rest) ≡ true
point_begins (fraction_alone f) rest = fraction_begins f rest
point_begins {x} (with_fraction whole fraction d f e) rest = more_begins x whole fraction rest e (decimal_begins d)
point_begins {x} (with_point whole d e) rest = more_begins x whole (46 ∷ []) rest e (decimal_begins d)

front_begins : {x : List ℕ} → IsDecimal x ⊎ IsPointFloat x → (rest : List ℕ) → begins_number (x ++ rest) ≡ true
front_begins (inl d) rest = decimal_begins d rest
front_begins (inr p) rest = point_begins p rest

floating_begins : {x : List ℕ} → IsFloatingPoint x → (rest : List ℕ) → begins_number (x ++ rest) ≡ true
floating_begins (point p) rest = point_begins p rest
floating_begins {x} (exponent front back f b e) rest = more_begins x front back rest e (front_begins f)

float_begins : {x : List ℕ} → IsFloat x → (rest : List ℕ) → begins_number (x ++ rest) ≡ true
float_begins (inl f) rest = floating_begins f rest
float_begins {x} (inr i) rest = more_begins x i.front (106 ∷ []) rest i.spelled (by_front i.formed)
  where
    by_front : IsDecimal i.front ⊎ IsFloatingPoint i.front → (more : List ℕ) → begins_number (i.front ++ more) ≡ true
    by_front (inl d) more = decimal_begins d more
    by_front (inr f) more = floating_begins f more

based_begins : {x : List ℕ} {letter : ℕ} {digits : List ℕ} → IsBased x letter digits → (rest : List ℕ) → begins_number (x ++ rest) ≡ true
based_begins {x} {letter} {digits} b rest = by_spelling b.spelled
  where
    by_spelling : (x ≡ 48 ∷ letter ∷ digits) ⊎ (x ≡ 48 ∷ letter ∷ 95 ∷ digits) → begins_number (x ++ rest) ≡ true
    by_spelling (inl e) = ap (λ (y : List ℕ). begins_number (y ++ rest)) e
    by_spelling (inr e) = ap (λ (y : List ℕ). begins_number (y ++ rest)) e

pub numeral_begins : {x : List ℕ} → IsNumeral x → (rest : List ℕ) → begins_number (x ++ rest) ≡ true
numeral_begins (IsNumeral.decimal d) rest = decimal_begins d rest
numeral_begins (IsNumeral.based letter digits b) rest = based_begins b rest
numeral_begins (IsNumeral.float f) rest = float_begins f rest

-- where a number is a front, a number begins
pub front_number : (cs : List ℕ) (m : ℕ) → IsNumeral (take m cs) → begins_number cs ≡ true
front_number cs m n = ap begins_number (sym (take-append-drop m cs)) ∙ numeral_begins n (drop m cs)

-- The characters that begin a number begin nothing else

begins_with_digit : (c : ℕ) → is_ascii_digit c ≡ true → (k : ℕ) × (k < 10) × (c ≡ 48 + k)
begins_with_digit c e =
    let parts = and_parts (nat_le 48 c) (nat_le c 57) e in
    let low = leb-true 48 c parts.0 in
    let high = leb-true c 57 parts.1 in
    digit c low high
  where
    digit : (c : ℕ) → 48 ≤ c → c ≤ 57 → (k : ℕ) × (k < 10) × (c ≡ 48 + k)
    digit c low high = (c - 48, omega arith, omega arith)

-- no word and no string begins so
abbrev IsApart : ℕ → Type 0
IsApart c = (starts_word c ≡ false) × ((a b : ℕ) → opens_by_codes c a b ≡ false)

digits_apart : (k : ℕ) → k < 10 → IsApart (48 + k)
unfolding unicode_ident
digits_apart zero lt = (refl, λ a b. refl)
digits_apart (suc zero) lt = (refl, λ a b. refl)
digits_apart (suc (suc zero)) lt = (refl, λ a b. refl)
digits_apart (suc (suc (suc zero))) lt = (refl, λ a b. refl)
digits_apart (suc (suc (suc (suc zero)))) lt = (refl, λ a b. refl)
digits_apart (suc (suc (suc (suc (suc zero))))) lt = (refl, λ a b. refl)
digits_apart (suc (suc (suc (suc (suc (suc zero)))))) lt = (refl, λ a b. refl)
digits_apart (suc (suc (suc (suc (suc (suc (suc zero))))))) lt = (refl, λ a b. refl)
digits_apart (suc (suc (suc (suc (suc (suc (suc (suc zero)))))))) lt = (refl, λ a b. refl)
digits_apart (suc (suc (suc (suc (suc (suc (suc (suc (suc zero))))))))) lt = (refl, λ a b. refl)
digits_apart (suc (suc (suc (suc (suc (suc (suc (suc (suc (suc k)))))))))) lt = absurd (omega arith)

point_apart : IsApart 46
unfolding unicode_ident
point_apart = (refl, λ a b. refl)

number_apart : (cs : List ℕ) → begins_number cs ≡ true → IsApart (slice_index cs 0)
number_apart cs e =
    ⊎_elim
    (λ digit. let d = begins_with_digit (slice_index cs 0) digit in subst IsApart (sym d.2) (digits_apart d.0 d.1))
    (λ fraction. subst IsApart (sym (eqb-true (slice_index cs 0) 46 (and_parts (slice_index cs 0 == 46) (is_ascii_digit (slice_index cs 1)) fraction).0)) point_apart)
    (or_cases (is_ascii_digit (slice_index cs 0)) (slice_index cs 0 == 46 && is_ascii_digit (slice_index cs 1)) e)

pub number_starts_no_word : (cs : List ℕ) → begins_number cs ≡ true → starts_word (slice_index cs 0) ≡ false
number_starts_no_word cs e = (number_apart cs e).0

pub number_opens_no_string : (cs : List ℕ) → begins_number cs ≡ true → opens_string cs ≡ false
number_opens_no_string cs e = opens_string_is cs ∙ (number_apart cs e).1 (slice_index cs 1) (slice_index cs 2)

-- The same of signs

abbrev is_apart : List ℕ → Bool
is_apart s = not (starts_word (slice_index s 0)) && (not (is_quote (slice_index s 0) || is_prefix (slice_index s 0 ∷ [])) && not (begins_number s))

signs_apart : list_all is_apart signs ≡ true
unfolding operators foreign_signs unicode_ident
signs_apart = refl

sign_apart : (s : List ℕ) → is_among signs s ≡ true → is_apart s ≡ true
sign_apart s e = among_all is_apart signs s signs_apart e

not_so : (b : Bool) → not b ≡ true → b ≡ false
not_so true e = absurd (false≢true e)
not_so false e = refl

opens_not : (c a b : ℕ) → (is_quote c || is_prefix (c ∷ [])) ≡ false → opens_by_codes c a b ≡ false
opens_not c a b e = by_tests (is_quote c) (is_prefix (c ∷ [])) e
  where
    by_tests : (q p : Bool) → (q || p) ≡ false → (q || (p && (is_quote a || (is_prefix (c ∷ a ∷ []) && is_quote b)))) ≡ false
    by_tests true p e = e
    by_tests false true e = absurd (false≢true (sym e))
    by_tests false false e = refl

first_of_sign : (cs : List ℕ) (m : ℕ) → is_among signs (take m cs) ≡ true → slice_index (take m cs) 0 ≡ slice_index cs 0
first_of_sign cs m e = get_or-take m cs 0 0 (omega (arith, sign_not_empty (take m cs) e, length-take m cs))

pub sign_starts_no_word : (cs : List ℕ) (m : ℕ) → is_among signs (take m cs) ≡ true → starts_word (slice_index cs 0) ≡ false
sign_starts_no_word cs m e =
    let s = take m cs in
    let parts = and_parts (not (starts_word (slice_index s 0))) _ (sign_apart s e) in
    ap starts_word (sym (first_of_sign cs m e)) ∙ not_so (starts_word (slice_index s 0)) parts.0

pub sign_opens_no_string : (cs : List ℕ) (m : ℕ) → is_among signs (take m cs) ≡ true → opens_string cs ≡ false
sign_opens_no_string cs m e =
    let s = take m cs in
    let parts = and_parts (not (starts_word (slice_index s 0))) _ (sign_apart s e) in
    let own = and_parts (not (is_quote (slice_index s 0) || is_prefix (slice_index s 0 ∷ []))) (not (begins_number s)) parts.1 in
    opens_string_is cs ∙ opens_not (slice_index cs 0) (slice_index cs 1) (slice_index cs 2) (subst (λ c. (is_quote c || is_prefix (c ∷ [])) ≡ false) (first_of_sign cs m e) (not_so _ own.0))

-- a sign of more than one character begins no number, however the text goes on
pub long_sign_begins_no_number : (cs : List ℕ) (m : ℕ) → 1 < m → is_among signs (take m cs) ≡ true → begins_number cs ≡ false
long_sign_begins_no_number cs m long e =
    let s = take m cs in
    let parts = and_parts (not (starts_word (slice_index s 0))) _ (sign_apart s e) in
    let own = and_parts (not (is_quote (slice_index s 0) || is_prefix (slice_index s 0 ∷ []))) (not (begins_number s)) parts.1 in
    let first = first_of_sign cs m e in
    let second = get_or-take m cs 1 0 long in
    ap₂ (λ (a b : ℕ). is_ascii_digit a || a == 46 && is_ascii_digit b) (sym first) (sym second) ∙ not_so (begins_number s) own.1
