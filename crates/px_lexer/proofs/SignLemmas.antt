-- Signs: which there are, and the longest one at the front of some characters.
use Rattle.std.proofs.Common.{◌≡◌, ℕ, ◌+◌, ◌-◌, ◌<◌, ◌≤◌, ◌⊎◌, Bool, true, false, ◌&&◌, ◌||◌, List, [], ◌∷◌, length, take, drop, map, get_or, Some, None, refl, sym, ap, ◌∙◌, subst, inl, inr, ⊎_elim, arith, rules, tests}
use Rattle.std.specs.Prelude.{nat_eq, nat_lt, nat_le, ◌==◌, if◌then◌else◌, bytes_eq, is_some}
use Rattle.std.specs.List.{list_any, list_all, starts_with}
use Rattle.std.proofs.lemmas.List.{length-take, length-take-le, get_or-take, get_or-drop, get_or_past}
use Rattle.std.proofs.lemmas.List.Folds.{list_any-append}
use Rattle.std.proofs.lemmas.Slice.Eq.{bytes_eq-Decides}
use Rattle.std.proofs.lemmas.Bool.Decides.{same_from_decides}
use Rattle.std.proofs.lemmas.Bool.{false≢true, both_ways, and_parts, or_cases, or_left, or_right, cases_lt, cases_Bool, eqb-true, eq-eqb, ne_eqb, leb-true, ltb-true}
use Rattle.px_lexer.specs.declared.token_list.TokenKind.{TokenKind}
use Rattle.px_lexer.specs.Spellings.{IsLongest, meaning_in, is_among}
use Rattle.px_lexer.specs.Signs.{operators, foreign_signs, signs, IsSign, IsSignKind, begins_sign, sign_kind}
use Rattle.px_lexer.specs.SignSteps.{kind_if_sign}
use Rattle.px_lexer.specs.declared.forms.Form.TheVariants as form
use Rattle.px_lexer.specs.declared.readings.Found.{Found}
use Rattle.px_lexer.specs.Pieces.{form_of, HasLength}
use Rattle.px_lexer.specs.Tokens.{IsKind}
use Rattle.px_lexer.specs.Refusals.{BreaksIn, bad_character, bad_word, bad_number, float_literal, literal_too_wide, bad_escape, string_not_ended}
use Rattle.px_lexer.specs.Readers.{IsReadAs}
use Rattle.px_lexer.proofs.SpellingLemmas.{among_all}
use Rattle.px_lexer.proofs.PrefixLemmas.{take_one, take_two}
use Rattle.px_lexer.proofs.FormLemmas.{ends_at, sign_begins}

-- one to three characters, none of which has the code 0
abbrev is_short : List ℕ → Bool
is_short s = nat_lt 0 (length s) && (nat_le (length s) 3 && list_all (λ c. nat_lt 0 c) s)

signs_are_short : list_all is_short signs ≡ true
unfolding operators foreign_signs
signs_are_short = refl

sign_is_short : (s : List ℕ) → is_among signs s ≡ true → is_short s ≡ true
sign_is_short s among = among_all is_short signs s signs_are_short among

pub sign_not_empty : (s : List ℕ) → is_among signs s ≡ true → 0 < length s
sign_not_empty s among = ltb-true 0 (length s) (and_parts (nat_lt 0 (length s)) _ (sign_is_short s among)).0

sign_len : (s : List ℕ) → is_among signs s ≡ true → length s ≤ 3
sign_len s among = leb-true (length s) 3 (and_parts (nat_le (length s) 3) _ (and_parts (nat_lt 0 (length s)) _ (sign_is_short s among)).1).0

-- a spelling with the code 0 is no sign
no_zero : (s : List ℕ) → is_among signs s ≡ true → list_all (λ c. nat_lt 0 c) s ≡ false → ⊥
no_zero s among none = both_ways _ none (and_parts (nat_le (length s) 3) _ (and_parts (nat_lt 0 (length s)) _ (sign_is_short s among)).1).1

-- a spelling that stands at the front is that many characters
starts_among : (cs : List ℕ) (spellings : List (List ℕ)) → list_any (λ s. starts_with nat_eq cs s) spellings ≡ true → (n : ℕ) × (n ≤ length cs) × (is_among spellings (take n cs) ≡ true)
starts_among cs [] starts = absurd (false≢true starts)
starts_among cs (o ∷ os) starts =
    ⊎_elim
    (λ here.
    let same : o ≡ take (length o) cs = (bytes_eq-Decides o (take (length o) cs)).0 here in
    let fits : length o ≤ length cs = omega (arith, simp length-take at (ap length same)) in
    (length o, fits, or_left (bytes_eq o (take (length o) cs)) (is_among os (take (length o) cs)) here))
    (λ later.
    let found = starts_among cs os later in
    (found.0, found.1, or_right (bytes_eq o (take found.0 cs)) (is_among os (take found.0 cs)) found.2))
    (or_cases (starts_with nat_eq cs o) (list_any (λ s. starts_with nat_eq cs s) os) starts)

among_starts : (cs : List ℕ) (n : ℕ) (spellings : List (List ℕ)) → n ≤ length cs → is_among spellings (take n cs) ≡ true → list_any (λ s. starts_with nat_eq cs s) spellings ≡ true
among_starts cs n [] fits among = absurd (false≢true among)
among_starts cs n (o ∷ os) fits among =
    ⊎_elim
    (λ here.
    let same : o ≡ take n cs = (bytes_eq-Decides o (take n cs)).0 here in
    let len : n ≡ length o = sym (ap length same ∙ length-take-le n cs fits) in
    or_left (starts_with nat_eq cs o) (list_any (λ s. starts_with nat_eq cs s) os) (subst (λ m. bytes_eq o (take m cs) ≡ true) len here))
    (λ later. or_right (starts_with nat_eq cs o) (list_any (λ s. starts_with nat_eq cs s) os) (among_starts cs n os fits later))
    (or_cases (bytes_eq o (take n cs)) (is_among os (take n cs)) among)

-- what stands at the front, by the codes there

first_two_inside : (cs : List ℕ) → is_among signs (get_or cs 0 0 ∷ get_or cs 1 0 ∷ []) ≡ true → (2 ≤ length cs) × (take 2 cs ≡ get_or cs 0 0 ∷ get_or cs 1 0 ∷ [])
first_two_inside [] among = absurd (no_zero (0 ∷ 0 ∷ []) among refl)
first_two_inside (x ∷ []) among = absurd (no_zero (x ∷ 0 ∷ []) among (ends_in_zero (nat_lt 0 x)))
  where
    ends_in_zero : (b : Bool) → (b && false) ≡ false
    ends_in_zero true = refl
    ends_in_zero false = refl
first_two_inside (x ∷ y ∷ cs) among = (omega arith, refl)

first_three_inside : (cs : List ℕ) → is_among signs (get_or cs 0 0 ∷ get_or cs 1 0 ∷ get_or cs 2 0 ∷ []) ≡ true → (3 ≤ length cs) × (take 3 cs ≡ get_or cs 0 0 ∷ get_or cs 1 0 ∷ get_or cs 2 0 ∷ [])
first_three_inside [] among = absurd (no_zero (0 ∷ 0 ∷ 0 ∷ []) among refl)
first_three_inside (x ∷ []) among = absurd (no_zero (x ∷ 0 ∷ 0 ∷ []) among (ends_in_zero (nat_lt 0 x)))
  where
    ends_in_zero : (b : Bool) → (b && false) ≡ false
    ends_in_zero true = refl
    ends_in_zero false = refl
first_three_inside (x ∷ y ∷ []) among = absurd (no_zero (x ∷ y ∷ 0 ∷ []) among (ends_in_zero (nat_lt 0 x) (nat_lt 0 y)))
  where
    ends_in_zero : (a b : Bool) → (a && (b && false)) ≡ false
    ends_in_zero true true = refl
    ends_in_zero true false = refl
    ends_in_zero false b = refl
first_three_inside (x ∷ y ∷ z ∷ cs) among = (omega arith, refl)

first_three : (cs : List ℕ) → 3 ≤ length cs → take 3 cs ≡ get_or cs 0 0 ∷ get_or cs 1 0 ∷ get_or cs 2 0 ∷ []
first_three [] fits = absurd (omega arith)
first_three (x ∷ []) fits = absurd (omega arith)
first_three (x ∷ y ∷ []) fits = absurd (omega arith)
first_three (x ∷ y ∷ z ∷ cs) fits = refl

-- no front of more than three characters is a sign
longest_at_most_three : (cs : List ℕ) (m : ℕ) → m ≤ length cs → is_among signs (take m cs) ≡ true → m ≤ 3
longest_at_most_three cs m fits among = subst (λ n. n ≤ 3) (length-take-le m cs fits) (sign_len (take m cs) among)

three_longest : (cs : List ℕ) → is_among signs (get_or cs 0 0 ∷ get_or cs 1 0 ∷ get_or cs 2 0 ∷ []) ≡ true → IsLongest IsSign cs 3
three_longest cs among =
    let inside = first_three_inside cs among in
    record {
      within = inside.0;
      spelled = subst (λ s. is_among signs s ≡ true) (sym inside.1) among;
      longest = λ m more fits other. let short : m ≤ 3 = longest_at_most_three cs m fits other in omega arith;
    }

two_longest : (cs : List ℕ) → is_among signs (get_or cs 0 0 ∷ get_or cs 1 0 ∷ get_or cs 2 0 ∷ []) ≡ false → is_among signs (get_or cs 0 0 ∷ get_or cs 1 0 ∷ []) ≡ true → IsLongest IsSign cs 2
two_longest cs not_three among =
    let inside = first_two_inside cs among in
    record {
      within = inside.0;
      spelled = subst (λ s. is_among signs s ≡ true) (sym inside.1) among;
      longest = λ m more fits other.
          let short : m ≤ 3 = longest_at_most_three cs m fits other in
          let three : m ≡ 3 = omega arith in
          both_ways _ not_three (subst (λ s. is_among signs s ≡ true) (first_three cs (subst (λ n. n ≤ length cs) three fits)) (subst (λ n. is_among signs (take n cs) ≡ true) three other));
    }

-- a sign of another length than two and three is one of one character
one_longest : (cs : List ℕ) → begins_sign cs ≡ true → is_among signs (get_or cs 0 0 ∷ get_or cs 1 0 ∷ get_or cs 2 0 ∷ []) ≡ false → is_among signs (get_or cs 0 0 ∷ get_or cs 1 0 ∷ []) ≡ false → IsLongest IsSign cs 1
one_longest cs begins not_three not_two =
    let found = starts_among cs signs begins in
    let one : (m : ℕ) → m ≤ length cs → is_among signs (take m cs) ≡ true → m ≡ 1 = λ m fits among.
    let short : m ≤ 3 = longest_at_most_three cs m fits among in
    let full : 0 < m = subst (λ n. 0 < n) (length-take-le m cs fits) (sign_not_empty (take m cs) among) in
    let no_three : m ≡ 3 → ⊥ = λ three. both_ways _ not_three (subst (λ s. is_among signs s ≡ true) (first_three cs (subst (λ n. n ≤ length cs) three fits)) (subst (λ n. is_among signs (take n cs) ≡ true) three among)) in
    let no_two : m ≡ 2 → ⊥ = λ two. both_ways _ not_two (subst (λ s. is_among signs s ≡ true) (take_two cs (subst (λ n. n ≤ length cs) two fits)) (subst (λ n. is_among signs (take n cs) ≡ true) two among)) in
    omega arith in
    let is_one = one found.0 found.1 found.2 in
    record {
      within = subst (λ n. n ≤ length cs) is_one found.1;
      spelled = subst (λ n. is_among signs (take n cs) ≡ true) is_one found.2;
      longest = λ m more fits other. let is_one_too = one m fits other in omega arith;
    }

-- no sign has a character that isn't ASCII

pub no_single : (c : ℕ) → 126 < c → meaning_in operators (c ∷ []) ≡ None
unfolding operators
no_single c h = search (tests, rules)

pub no_before_equal : (c : ℕ) → 126 < c → kind_if_sign (c ∷ 61 ∷ []) ≡ None
unfolding kind_if_sign operators foreign_signs
no_before_equal c h = search (tests, rules)

pub no_double : (c : ℕ) → 126 < c → kind_if_sign (c ∷ c ∷ []) ≡ None
unfolding kind_if_sign operators foreign_signs
no_double c h = search (tests, rules)

pub no_double_before_equal : (c : ℕ) → 126 < c → kind_if_sign (c ∷ c ∷ 61 ∷ []) ≡ None
unfolding kind_if_sign operators foreign_signs
no_double_before_equal c h = search (tests, rules)

pub no_pair : (a b : ℕ) → (b ≡ 61 → ⊥) → (b ≡ a → ⊥) → (b ≡ 62 → a ≡ 45 → ⊥) → kind_if_sign (a ∷ b ∷ []) ≡ None
unfolding kind_if_sign operators foreign_signs
no_pair a b e d n = search (tests, rules)

pub no_triple : (a b c : ℕ) → (b ≡ a → ⊥) → kind_if_sign (a ∷ b ∷ c ∷ []) ≡ None
unfolding kind_if_sign operators foreign_signs
no_triple a b c d = search (tests, rules)

pub no_same : (a c : ℕ) → (c ≡ 61 → ⊥) → (c ≡ 46 → a ≡ 46 → ⊥) → kind_if_sign (a ∷ a ∷ c ∷ []) ≡ None
unfolding kind_if_sign operators foreign_signs
no_same a c e n = search (tests, rules)

-- what the kind of a spelling says

kind_by_test : (is_sign : Bool) (own t : TokenKind) → (if is_sign then Some own else None) ≡ Some t → (is_sign ≡ true) × (t ≡ own)
kind_by_test true own t e = (refl, cc)
kind_by_test false own t e = absurd cc

pub kind_is_sign : (s : List ℕ) (t : TokenKind) → kind_if_sign s ≡ Some t → (is_among signs s ≡ true) × (t ≡ sign_kind (meaning_in operators s))
unfolding kind_if_sign
kind_is_sign s t e = kind_by_test (is_among signs s) (sign_kind (meaning_in operators s)) t e

no_kind_by_test : (is_sign : Bool) (own : TokenKind) → (if is_sign then Some own else None) ≡ None → is_sign ≡ false
no_kind_by_test true own e = absurd cc
no_kind_by_test false own e = refl

pub no_kind_no_sign : (s : List ℕ) → kind_if_sign s ≡ None → is_among signs s ≡ false
unfolding kind_if_sign
no_kind_no_sign s e = no_kind_by_test (is_among signs s) (sign_kind (meaning_in operators s)) e

-- whether a sign begins, by two codes

meaning_among : {A : Type 0} (rows : List (List ℕ × A)) (s : List ℕ) → is_some (meaning_in rows s) ≡ true → is_among (map (λ row. row.0) rows) s ≡ true
meaning_among [] s e = absurd (false≢true e)
meaning_among (row ∷ rows) s e = by_test (bytes_eq row.0 s) (meaning_among rows s) e
  where
    by_test : (b : Bool) → (is_some (meaning_in rows s) ≡ true → is_among (map (λ row. row.0) rows) s ≡ true) → is_some (if b then Some row.1 else meaning_in rows s) ≡ true → (b || is_among (map (λ row. row.0) rows) s) ≡ true
    by_test true later e = refl
    by_test false later e = later e

abbrev pub begins_by_codes : ℕ → ℕ → Bool
begins_by_codes a b = a == 47 || (is_some (meaning_in operators (a ∷ [])) || (a == 33 && b == 61))

begins_when_longer : (a b c : ℕ) → (b ≡ 61 → c ≡ 61) → begins_by_codes a b ≡ true → begins_by_codes a c ≡ true
begins_when_longer a b c same e = by_tests (a == 47) (is_some (meaning_in operators (a ∷ []))) (a == 33) (b == 61) (c == 61) (λ h. eq-eqb c 61 (same (eqb-true b 61 h))) e
  where
    by_tests : (p q r x y : Bool) → (x ≡ true → y ≡ true) → (p || (q || (r && x))) ≡ true → (p || (q || (r && y))) ≡ true
    by_tests true q r x y h e = refl
    by_tests false true r x y h e = refl
    by_tests false false true x y h e = h e
    by_tests false false false x y h e = absurd (false≢true e)

signs_begin_so : list_all (λ s. begins_by_codes (get_or s 0 0) (get_or s 1 0)) signs ≡ true
unfolding operators foreign_signs
signs_begin_so = refl

second_of_front : (cs : List ℕ) (n : ℕ) → get_or (take n cs) 1 0 ≡ 61 → get_or cs 1 0 ≡ 61
second_of_front cs n e =
    ⊎_elim
    (λ (inside : 1 < n). sym (get_or-take n cs 1 0 inside) ∙ e)
    (λ (past : n ≤ 1). let short : length (take n cs) ≤ 1 = omega (arith, length-take n cs) in absurd (omega (arith, sym (get_or_past (take n cs) 1 0 short) ∙ e)))
    (cases_lt 1 n)

pub front_begins : (cs : List ℕ) (n : ℕ) → n ≤ length cs → is_among signs (take n cs) ≡ true → begins_by_codes (get_or cs 0 0) (get_or cs 1 0) ≡ true
front_begins cs n fits among =
    let full : 0 < n = subst (λ m. 0 < m) (length-take-le n cs fits) (sign_not_empty (take n cs) among) in
    let test = among_all (λ s. begins_by_codes (get_or s 0 0) (get_or s 1 0)) signs (take n cs) signs_begin_so among in
    begins_when_longer (get_or cs 0 0) (get_or (take n cs) 1 0) (get_or cs 1 0) (second_of_front cs n) (subst (λ a. begins_by_codes a (get_or (take n cs) 1 0) ≡ true) (get_or-take n cs 0 0 full) test)

slash_is_sign : (a : ℕ) → a ≡ 47 → is_among signs (a ∷ []) ≡ true
unfolding operators foreign_signs
slash_is_sign a e = rw e

not_equal_is_sign : (a b : ℕ) → a ≡ 33 → b ≡ 61 → is_among signs (a ∷ b ∷ []) ≡ true
unfolding operators foreign_signs
not_equal_is_sign a b e f = rw (e, f)

codes_begin : (a b : ℕ) → begins_by_codes a b ≡ true → (is_among signs (a ∷ []) ≡ true) ⊎ (is_among signs (a ∷ b ∷ []) ≡ true)
codes_begin a b e =
    ⊎_elim
    (λ slash. inl (slash_is_sign a (eqb-true a 47 slash)))
    (λ other. ⊎_elim
    (λ known. inl (list_any-append (λ o. bytes_eq o (a ∷ [])) (map (λ row. row.0) operators) foreign_signs ∙ or_left _ _ (meaning_among operators (a ∷ []) known)))
    (λ both. let parts = and_parts (a == 33) (b == 61) both in inr (not_equal_is_sign a b (eqb-true a 33 parts.0) (eqb-true b 61 parts.1)))
    (or_cases (is_some (meaning_in operators (a ∷ []))) (a == 33 && b == 61) other))
    (or_cases (a == 47) (is_some (meaning_in operators (a ∷ [])) || (a == 33 && b == 61)) e)

none_in_zero : begins_by_codes 0 0 ≡ true → ⊥
unfolding operators
none_in_zero e = false≢true e

begins_from_codes : (cs : List ℕ) → begins_by_codes (get_or cs 0 0) (get_or cs 1 0) ≡ true → begins_sign cs ≡ true
begins_from_codes [] e = absurd (none_in_zero e)
begins_from_codes (x ∷ cs) e =
    ⊎_elim
    (λ one. among_starts (x ∷ cs) 1 signs (omega arith) one)
    (λ two. let inside = first_two_inside (x ∷ cs) two in among_starts (x ∷ cs) 2 signs inside.0 (subst (λ s. is_among signs s ≡ true) (sym inside.1) two))
    (codes_begin x (get_or (x ∷ cs) 1 0) e)

pub begins_sign_is : (cs : List ℕ) → begins_sign cs ≡ begins_by_codes (get_or cs 0 0) (get_or cs 1 0)
begins_sign_is cs =
    same_from_decides (begins_sign cs) (begins_by_codes (get_or cs 0 0) (get_or cs 1 0))
    ((λ e. e), (λ e. e))
    ((λ e. begins_from_codes cs e), (λ e. let found = starts_among cs signs e in front_begins cs found.0 found.1 found.2))

-- how a sign is read

first_codes : (cs : List ℕ) (from a b : ℕ) → a ≡ get_or cs from 0 → b ≡ get_or cs (from + 1) 0 → a ∷ b ∷ [] ≡ get_or (drop from cs) 0 0 ∷ get_or (drop from cs) 1 0 ∷ []
first_codes cs from a b e f =
    let same : get_or cs from 0 ≡ get_or (drop from cs) 0 0 = let n : from ≡ from + 0 = omega arith in ap (λ i. get_or cs i 0) n ∙ sym (get_or-drop from cs 0 0) in
    let second = get_or-drop from cs 1 0 in
    cc

first_three_codes : (cs : List ℕ) (from a b c : ℕ) → a ≡ get_or cs from 0 → b ≡ get_or cs (from + 1) 0 → c ≡ get_or cs (from + 2) 0 → a ∷ b ∷ c ∷ [] ≡ get_or (drop from cs) 0 0 ∷ get_or (drop from cs) 1 0 ∷ get_or (drop from cs) 2 0 ∷ []
first_three_codes cs from a b c e f g =
    let same : get_or cs from 0 ≡ get_or (drop from cs) 0 0 = let n : from ≡ from + 0 = omega arith in ap (λ i. get_or cs i 0) n ∙ sym (get_or-drop from cs 0 0) in
    let second = get_or-drop from cs 1 0 in
    let third = get_or-drop from cs 2 0 in
    cc

is_read : (cs : List ℕ) (from n : ℕ) (t : TokenKind) → 0 < n → IsLongest IsSign (drop from cs) n → IsSignKind (take n (drop from cs)) t → IsReadAs form.Sign cs from (record { kind = t; to = from + n })
is_read cs from n t full whole kind = record {
  ends = ends_at form.Sign cs from n full whole.within whole;
  kind = let e : from + n - from ≡ n = omega arith in subst (λ m. IsSignKind (take m (drop from cs)) t) (sym e) kind;
}

pub read_three : (cs : List ℕ) (from a b c : ℕ) (t : TokenKind) → a ≡ get_or cs from 0 → b ≡ get_or cs (from + 1) 0 → c ≡ get_or cs (from + 2) 0 → kind_if_sign (a ∷ b ∷ c ∷ []) ≡ Some t → IsReadAs form.Sign cs from (record { kind = t; to = from + 3 })
read_three cs from a b c t e f g k =
    let rest = drop from cs in
    let is = kind_is_sign (a ∷ b ∷ c ∷ []) t k in
    let codes = first_three_codes cs from a b c e f g in
    let among = subst (λ s. is_among signs s ≡ true) codes is.0 in
    is_read cs from 3 t (omega arith) (three_longest rest among) (is.1 ∙ ap (λ s. sign_kind (meaning_in operators s)) (codes ∙ sym (first_three_inside rest among).1))

pub read_two : (cs : List ℕ) (from a b c : ℕ) (t : TokenKind) → a ≡ get_or cs from 0 → b ≡ get_or cs (from + 1) 0 → c ≡ get_or cs (from + 2) 0 → kind_if_sign (a ∷ b ∷ c ∷ []) ≡ None → kind_if_sign (a ∷ b ∷ []) ≡ Some t → IsReadAs form.Sign cs from (record { kind = t; to = from + 2 })
read_two cs from a b c t e f g none k =
    let rest = drop from cs in
    let is = kind_is_sign (a ∷ b ∷ []) t k in
    let codes = first_codes cs from a b e f in
    let among = subst (λ s. is_among signs s ≡ true) codes is.0 in
    let not_three = subst (λ s. is_among signs s ≡ false) (first_three_codes cs from a b c e f g) (no_kind_no_sign (a ∷ b ∷ c ∷ []) none) in
    is_read cs from 2 t (omega arith) (two_longest rest not_three among) (is.1 ∙ ap (λ s. sign_kind (meaning_in operators s)) (codes ∙ sym (first_two_inside rest among).1))

pub read_one : (cs : List ℕ) (from a b c : ℕ) (t : TokenKind) → a ≡ get_or cs from 0 → b ≡ get_or cs (from + 1) 0 → c ≡ get_or cs (from + 2) 0 → form_of (drop from cs) ≡ form.Sign → kind_if_sign (a ∷ b ∷ c ∷ []) ≡ None → kind_if_sign (a ∷ b ∷ []) ≡ None → t ≡ sign_kind (meaning_in operators (a ∷ [])) → IsReadAs form.Sign cs from (record { kind = t; to = from + 1 })
read_one cs from a b c t e f g stands none none_two kind =
    let rest = drop from cs in
    let not_three = subst (λ s. is_among signs s ≡ false) (first_three_codes cs from a b c e f g) (no_kind_no_sign (a ∷ b ∷ c ∷ []) none) in
    let not_two = subst (λ s. is_among signs s ≡ false) (first_codes cs from a b e f) (no_kind_no_sign (a ∷ b ∷ []) none_two) in
    let whole = one_longest rest (sign_begins rest stands) not_three not_two in
    let n : from ≡ from + 0 = omega arith in
    let code : a ∷ [] ≡ get_or rest 0 0 ∷ [] = ap (λ x. x ∷ []) (e ∙ ap (λ i. get_or cs i 0) n ∙ sym (get_or-drop from cs 0 0)) in
    is_read cs from 1 t (omega arith) whole (kind ∙ ap (λ s. sign_kind (meaning_in operators s)) (code ∙ sym (take_one rest whole.within)))

pub ends_inside : (cs : List ℕ) (from : ℕ) (found : Found) → IsReadAs form.Sign cs from found → found.to ≤ length cs
ends_inside cs from found read = read.ends.within

begins_sign_at : (cs : List ℕ) (at : ℕ) → begins_sign (drop at cs) ≡ begins_by_codes (get_or cs at 0) (get_or cs (at + 1) 0)
begins_sign_at cs at =
    let n : at ≡ at + 0 = omega arith in
    rw (begins_sign_is (drop at cs), get_or-drop at cs 0 0, get_or-drop at cs 1 0, ← n)

begins_with_mark : (a b : ℕ) → a ≡ 33 → begins_by_codes a b ≡ (b == 61)
unfolding operators
begins_with_mark a b e = rw e

begins_otherwise : (a b : ℕ) → (a ≡ 33 → ⊥) → begins_by_codes a b ≡ (a == 47 || is_some (meaning_in operators (a ∷ [])))
begins_otherwise a b n = rw (ne_eqb a 33 n) (by_tests (a == 47) (is_some (meaning_in operators (a ∷ []))))
  where
    by_tests : (p q : Bool) → (p || (q || false)) ≡ (p || q)
    by_tests true q = refl
    by_tests false true = refl
    by_tests false false = refl

pub begins_as_mark : (cs : List ℕ) (at a b : ℕ) → a ≡ get_or cs at 0 → b ≡ get_or cs (at + 1) 0 → a ≡ 33 → begins_sign (drop at cs) ≡ (b == 61)
begins_as_mark cs at a b e f mark = begins_sign_at cs at ∙ begins_with_mark _ _ (sym e ∙ mark) ∙ ap (λ c. c == 61) (sym f)

begins_as_other : (cs : List ℕ) (at a : ℕ) → a ≡ get_or cs at 0 → (a ≡ 33 → ⊥) → begins_sign (drop at cs) ≡ (a == 47 || is_some (meaning_in operators (a ∷ [])))
begins_as_other cs at a e other = begins_sign_at cs at ∙ begins_otherwise _ _ (λ mark. other (e ∙ mark)) ∙ ap (λ c. c == 47 || is_some (meaning_in operators (c ∷ []))) (sym e)

pub begins_as_slash : (cs : List ℕ) (at a : ℕ) → a ≡ get_or cs at 0 → (a ≡ 33 → ⊥) → a ≡ 47 → begins_sign (drop at cs) ≡ true
begins_as_slash cs at a e other slash = begins_as_other cs at a e other ∙ or_left (a == 47) _ (eq-eqb a 47 slash)

pub begins_as_single : (cs : List ℕ) (at a : ℕ) → a ≡ get_or cs at 0 → (a ≡ 33 → ⊥) → (a ≡ 47 → ⊥) → begins_sign (drop at cs) ≡ is_some (meaning_in operators (a ∷ []))
begins_as_single cs at a e other no_slash = begins_as_other cs at a e other ∙ ap (λ b. b || is_some (meaning_in operators (a ∷ []))) (ne_eqb a 47 no_slash)

-- the laws of signs

pub sign_unique : (cs : List ℕ) (n : ℕ) (t u : TokenKind) → IsKind form.Sign cs n t → IsKind form.Sign cs n u → t ≡ u
sign_unique cs n t u a b = a ∙ sym b

pub sign_settled : (cs : List ℕ) (n : ℕ) → (t : TokenKind) × IsKind form.Sign cs n t
sign_settled cs n = (sign_kind (meaning_in operators (take n cs)), refl)

pub sign_clean : (cs : List ℕ) (n : ℕ) (t : TokenKind) (rule i : ℕ) → IsKind form.Sign cs n t → BreaksIn form.Sign cs n rule i → ⊥
sign_clean cs n t rule i is (bad_character stray is_two is_first bad) = cc
sign_clean cs n t rule i is (bad_word word is_two is_first bad) = cc
sign_clean cs n t rule i is (bad_number number is_two is_first bad) = cc
sign_clean cs n t rule i is (float_literal number is_eight is_first bad) = cc
sign_clean cs n t rule i is (literal_too_wide number is_nine is_first bad) = cc
sign_clean cs n t rule i is (bad_escape text is_two bad) = cc
sign_clean cs n t rule i is (string_not_ended text is_four is_first bad) = cc

pub sign_length : (cs : List ℕ) → form_of cs ≡ form.Sign → (n : ℕ) × (0 < n) × (n ≤ length cs) × HasLength form.Sign cs n
sign_length cs stands =
    ⊎_elim
    (λ three. let whole = three_longest cs three in (3, omega arith, whole.within, whole))
    (λ not_three. ⊎_elim
    (λ two. let whole = two_longest cs not_three two in (2, omega arith, whole.within, whole))
    (λ not_two. let whole = one_longest cs (sign_begins cs stands) not_three not_two in (1, omega arith, whole.within, whole))
    (cases_Bool (is_among signs (get_or cs 0 0 ∷ get_or cs 1 0 ∷ []))))
    (cases_Bool (is_among signs (get_or cs 0 0 ∷ get_or cs 1 0 ∷ get_or cs 2 0 ∷ [])))
