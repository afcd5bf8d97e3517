-- Prefixes of strings: they have at most two characters, and so a string shows by its first three.
use Rattle.std.proofs.Common.{◌≡◌, ℕ, zero, suc, ◌+◌, ◌<◌, ◌≤◌, ◌⊎◌, Bool, true, false, ◌&&◌, ◌||◌, List, [], ◌∷◌, length, take, drop, map, get_or, cond, refl, sym, ap, ◌∙◌, subst, inl, inr, ⊎_elim, arith}
use Rattle.std.specs.Prelude.{◌==◌, nat_le, nat_lt, codes}
use Rattle.std.specs.List.{list_all}
use Rattle.std.specs.Char.{to_ascii_lowercase}
use Rattle.std.proofs.lemmas.List.{length-map, length-take-le, get_or-take, get_or-drop, get_or_past}
use Rattle.std.proofs.lemmas.List.Sums.{prefix_len_is}
use Rattle.std.proofs.lemmas.Bool.{false≢true, and_parts, and_from, or_cases, or_left, or_right, cases_lt, eqb-true, leb-true}
use Rattle.std.proofs.lemmas.Bool.Decides.{same_from_decides}
use Rattle.unicode_ident.proofs.Computing.{unicode_ident}
use Rattle.px_lexer.specs.Spellings.{is_among}
use Rattle.px_lexer.specs.Words.{continues_word, word_len}
use Rattle.px_lexer.specs.Strings.{is_prefix, is_quote, opens_string}
use Rattle.px_lexer.proofs.SpellingLemmas.{among_all}

-- the first characters, by their codes

pub take_one : (cs : List ℕ) → 1 ≤ length cs → take 1 cs ≡ get_or cs 0 0 ∷ []
take_one [] fits = absurd (omega arith)
take_one (x ∷ cs) fits = refl

pub take_two : (cs : List ℕ) → 2 ≤ length cs → take 2 cs ≡ get_or cs 0 0 ∷ get_or cs 1 0 ∷ []
take_two [] fits = absurd (omega arith)
take_two (x ∷ []) fits = absurd (omega arith)
take_two (x ∷ y ∷ cs) fits = refl

-- quotes

quote_by_value : (q : ℕ) → is_quote q ≡ true → (q ≡ 39) ⊎ (q ≡ 34)
quote_by_value q e = ⊎_elim (λ single. inl (eqb-true q 39 single)) (λ double. inr (eqb-true q 34 double)) (or_cases (q == 39) (q == 34) e)

quotes_end_words : (continues_word 39 ≡ false) × (continues_word 34 ≡ false)
unfolding unicode_ident
quotes_end_words = (refl, refl)

pub quote_ends_word : (q : ℕ) → is_quote q ≡ true → continues_word q ≡ false
quote_ends_word q e = ⊎_elim (λ single. ap continues_word single ∙ quotes_end_words.0) (λ double. ap continues_word double ∙ quotes_end_words.1) (quote_by_value q e)

pub quote_inside : (cs : List ℕ) (n : ℕ) → is_quote (get_or cs n 0) ≡ true → n < length cs
quote_inside cs n e =
    ⊎_elim (λ inside. inside) (λ past. absurd (false≢true (sym (ap is_quote (get_or_past cs n 0 past)) ∙ e))) (cases_lt n (length cs))

-- the letters of prefixes

abbrev is_prefix_letter : ℕ → Bool
is_prefix_letter c = c == 98 || (c == 99 || (c == 102 || (c == 114 || c == 117)))

letters_continue_words : (continues_word 98 ≡ true) × (continues_word 66 ≡ true) × (continues_word 99 ≡ true) × (continues_word 67 ≡ true) × (continues_word 102 ≡ true) × (continues_word 70 ≡ true) × (continues_word 114 ≡ true) × (continues_word 82 ≡ true) × (continues_word 117 ≡ true) × (continues_word 85 ≡ true)
unfolding unicode_ident
letters_continue_words = (refl, refl, refl, refl, refl, refl, refl, refl, refl, refl)

-- a character whose small letter is k is k or the capital letter
by_lowercase : (c k : ℕ) → 96 < k → k < 123 → to_ascii_lowercase c ≡ k → (c ≡ k) ⊎ (c + 32 ≡ k)
by_lowercase c k low high e = by_tests (nat_lt c 65) (nat_lt c 91) e
  where
    by_tests : (a b : Bool) → cond a c (cond b (c + 32) c) ≡ k → (c ≡ k) ⊎ (c + 32 ≡ k)
    by_tests true b e = inl e
    by_tests false true e = inr e
    by_tests false false e = inl e

continues_if : (c k capital : ℕ) → 96 < k → k < 123 → capital + 32 ≡ k → continues_word k ≡ true → continues_word capital ≡ true → (to_ascii_lowercase c == k) ≡ true → continues_word c ≡ true
continues_if c k capital low high pair small_continues capital_continues e =
    ⊎_elim
    (λ (same : c ≡ k). ap continues_word same ∙ small_continues)
    (λ (other : c + 32 ≡ k). let is : c ≡ capital = omega arith in ap continues_word is ∙ capital_continues)
    (by_lowercase c k low high (eqb-true (to_ascii_lowercase c) k e))

letter_continues : (c : ℕ) → is_prefix_letter (to_ascii_lowercase c) ≡ true → continues_word c ≡ true
letter_continues c e =
    let s = to_ascii_lowercase c in
    let l = letters_continue_words in
    ⊎_elim (λ b. continues_if c 98 66 (omega arith) (omega arith) refl l.0 l.1 b)
    (λ e1. ⊎_elim (λ b. continues_if c 99 67 (omega arith) (omega arith) refl l.2 l.3 b)
    (λ e2. ⊎_elim (λ b. continues_if c 102 70 (omega arith) (omega arith) refl l.4 l.5 b)
    (λ e3. ⊎_elim (λ b. continues_if c 114 82 (omega arith) (omega arith) refl l.6 l.7 b)
    (λ e4. continues_if c 117 85 (omega arith) (omega arith) refl l.8 l.9 e4)
    (or_cases (s == 114) (s == 117) e3))
    (or_cases (s == 102) (s == 114 || s == 117) e2))
    (or_cases (s == 99) (s == 102 || (s == 114 || s == 117)) e1))
    (or_cases (s == 98) (s == 99 || (s == 102 || (s == 114 || s == 117))) e)

-- prefixes

-- what is tested of a prefix in small letters: its length, its letters, and that its first letter alone is one
abbrev is_small_prefix : List ℕ → Bool
is_small_prefix prefix = is_among ([] ∷ codes "r" ∷ codes "u" ∷ []) prefix || is_among (codes "b" ∷ codes "c" ∷ codes "f" ∷ codes "br" ∷ codes "rb" ∷ codes "fr" ∷ codes "rf" ∷ codes "ur" ∷ []) prefix

abbrev is_formed : List ℕ → Bool
is_formed prefix = nat_le (length prefix) 2 && (list_all is_prefix_letter prefix && is_small_prefix (take 1 prefix))

small_prefix_is_formed : (prefix : List ℕ) → is_small_prefix prefix ≡ true → is_formed prefix ≡ true
small_prefix_is_formed prefix e =
    ⊎_elim
    (λ own. among_all is_formed ([] ∷ codes "r" ∷ codes "u" ∷ []) prefix refl own)
    (λ foreign. among_all is_formed (codes "b" ∷ codes "c" ∷ codes "f" ∷ codes "br" ∷ codes "rb" ∷ codes "fr" ∷ codes "rf" ∷ codes "ur" ∷ []) prefix refl foreign)
    (or_cases (is_among ([] ∷ codes "r" ∷ codes "u" ∷ []) prefix) (is_among (codes "b" ∷ codes "c" ∷ codes "f" ∷ codes "br" ∷ codes "rb" ∷ codes "fr" ∷ codes "rf" ∷ codes "ur" ∷ []) prefix) e)

prefix_is_formed : (prefix : List ℕ) → is_prefix prefix ≡ true → is_formed (map to_ascii_lowercase prefix) ≡ true
prefix_is_formed prefix e = small_prefix_is_formed (map to_ascii_lowercase prefix) e

pub prefix_is_short : (prefix : List ℕ) → is_prefix prefix ≡ true → length prefix ≤ 2
prefix_is_short prefix e =
    let small = map to_ascii_lowercase prefix in
    subst (λ n. n ≤ 2) (length-map prefix to_ascii_lowercase) (leb-true (length small) 2 (and_parts (nat_le (length small) 2) (list_all is_prefix_letter small && is_small_prefix (take 1 small)) (prefix_is_formed prefix e)).0)

letters_continue : (cs : List ℕ) (k : ℕ) → list_all is_prefix_letter (map to_ascii_lowercase cs) ≡ true → k < length cs → continues_word (get_or cs k 0) ≡ true
letters_continue [] k e inside = absurd (omega arith)
letters_continue (c ∷ cs) zero e inside = letter_continues c (and_parts (is_prefix_letter (to_ascii_lowercase c)) (list_all is_prefix_letter (map to_ascii_lowercase cs)) e).0
letters_continue (c ∷ cs) (suc k) e inside = letters_continue cs k (and_parts (is_prefix_letter (to_ascii_lowercase c)) (list_all is_prefix_letter (map to_ascii_lowercase cs)) e).1 (omega arith)

prefix_continues : (prefix : List ℕ) (k : ℕ) → is_prefix prefix ≡ true → k < length prefix → continues_word (get_or prefix k 0) ≡ true
prefix_continues prefix k e inside =
    let small = map to_ascii_lowercase prefix in
    letters_continue prefix k (and_parts (list_all is_prefix_letter small) (is_small_prefix (take 1 small)) (and_parts (nat_le (length small) 2) (list_all is_prefix_letter small && is_small_prefix (take 1 small)) (prefix_is_formed prefix e)).1).0 inside

first_is_prefix : (a b : ℕ) → is_prefix (a ∷ b ∷ []) ≡ true → is_prefix (a ∷ []) ≡ true
first_is_prefix a b e =
    let small = map to_ascii_lowercase (a ∷ b ∷ []) in
    (and_parts (list_all is_prefix_letter small) (is_small_prefix (take 1 small)) (and_parts (nat_le (length small) 2) (list_all is_prefix_letter small && is_small_prefix (take 1 small)) (prefix_is_formed (a ∷ b ∷ []) e)).1).1

-- a prefix before a quote is the whole word there
pub word_len_at_quote : (cs : List ℕ) (n : ℕ) → is_prefix (take n cs) ≡ true → is_quote (get_or cs n 0) ≡ true → word_len cs ≡ n
word_len_at_quote cs n prefix quote =
    let inside = quote_inside cs n quote in
    let within : n ≤ length cs = omega arith in
    prefix_len_is continues_word cs n 0 within
    (λ k before. subst (λ c. continues_word c ≡ true) (get_or-take n cs k 0 before) (prefix_continues (take n cs) k prefix (subst (λ m. k < m) (sym (length-take-le n cs within)) before)))
    (λ _. quote_ends_word (get_or cs n 0) quote)

-- a string begins with n characters of a prefix and a quote
abbrev IsOpened : List ℕ → Type 0
IsOpened cs = (n : ℕ) × (n ≤ 2) × (is_prefix (take n cs) ≡ true) × (is_quote (get_or cs n 0) ≡ true)

opens_is_opened : (cs : List ℕ) → opens_string cs ≡ true → IsOpened cs
opens_is_opened cs e =
    let both = and_parts (is_prefix (take (word_len cs) cs)) (is_quote (get_or cs (word_len cs) 0)) e in
    let inside = quote_inside cs (word_len cs) both.1 in
    let short = subst (λ n. n ≤ 2) (length-take-le (word_len cs) cs (omega arith)) (prefix_is_short (take (word_len cs) cs) both.0) in
    (word_len cs, short, both.0, both.1)

pub opened_opens : (cs : List ℕ) (n : ℕ) → is_prefix (take n cs) ≡ true → is_quote (get_or cs n 0) ≡ true → opens_string cs ≡ true
opened_opens cs n prefix quote =
    rw (word_len_at_quote cs n prefix quote) (and_from (is_prefix (take n cs)) (is_quote (get_or cs n 0)) prefix quote)

abbrev pub opens_by_codes : ℕ → ℕ → ℕ → Bool
opens_by_codes a b c = is_quote a || (is_prefix (a ∷ []) && (is_quote b || (is_prefix (a ∷ b ∷ []) && is_quote c)))

opened_by_codes : (cs : List ℕ) → IsOpened cs → opens_by_codes (get_or cs 0 0) (get_or cs 1 0) (get_or cs 2 0) ≡ true
opened_by_codes cs (zero, short, prefix, quote) = or_left (is_quote (get_or cs 0 0)) _ quote
opened_by_codes cs (suc zero, short, prefix, quote) =
    let inside = quote_inside cs 1 quote in
    let first = subst (λ s. is_prefix s ≡ true) (take_one cs (omega arith)) prefix in
    or_right (is_quote (get_or cs 0 0)) _ (and_from (is_prefix (get_or cs 0 0 ∷ [])) _ first (or_left (is_quote (get_or cs 1 0)) _ quote))
opened_by_codes cs (suc (suc zero), short, prefix, quote) =
    let inside = quote_inside cs 2 quote in
    let two = subst (λ s. is_prefix s ≡ true) (take_two cs (omega arith)) prefix in
    let first = first_is_prefix (get_or cs 0 0) (get_or cs 1 0) two in
    or_right (is_quote (get_or cs 0 0)) _ (and_from (is_prefix (get_or cs 0 0 ∷ [])) _ first (or_right (is_quote (get_or cs 1 0)) _ (and_from (is_prefix (get_or cs 0 0 ∷ get_or cs 1 0 ∷ [])) _ two quote)))
opened_by_codes cs (suc (suc (suc n)), short, prefix, quote) = absurd (omega arith)

codes_open : (cs : List ℕ) → opens_by_codes (get_or cs 0 0) (get_or cs 1 0) (get_or cs 2 0) ≡ true → opens_string cs ≡ true
codes_open cs e =
    let a = get_or cs 0 0 in
    let b = get_or cs 1 0 in
    let c = get_or cs 2 0 in
    ⊎_elim
    (λ quote. opened_opens cs 0 refl quote)
    (λ later.
    let one = and_parts (is_prefix (a ∷ [])) (is_quote b || (is_prefix (a ∷ b ∷ []) && is_quote c)) later in
    ⊎_elim
    (λ quote. let inside = quote_inside cs 1 quote in opened_opens cs 1 (subst (λ s. is_prefix s ≡ true) (sym (take_one cs (omega arith))) one.0) quote)
    (λ last.
    let two = and_parts (is_prefix (a ∷ b ∷ [])) (is_quote c) last in
    let inside = quote_inside cs 2 two.1 in
    opened_opens cs 2 (subst (λ s. is_prefix s ≡ true) (sym (take_two cs (omega arith))) two.0) two.1)
    (or_cases (is_quote b) (is_prefix (a ∷ b ∷ []) && is_quote c) one.1))
    (or_cases (is_quote a) (is_prefix (a ∷ []) && (is_quote b || (is_prefix (a ∷ b ∷ []) && is_quote c))) e)

pub opens_string_is : (cs : List ℕ) → opens_string cs ≡ opens_by_codes (get_or cs 0 0) (get_or cs 1 0) (get_or cs 2 0)
opens_string_is cs =
    same_from_decides (opens_string cs) (opens_by_codes (get_or cs 0 0) (get_or cs 1 0) (get_or cs 2 0))
    ((λ e. e), (λ e. e))
    ((λ e. codes_open cs e), (λ e. opened_by_codes cs (opens_is_opened cs e)))

pub opens_string_at : (cs : List ℕ) (at : ℕ) → opens_string (drop at cs) ≡ opens_by_codes (get_or cs at 0) (get_or cs (at + 1) 0) (get_or cs (at + 2) 0)
opens_string_at cs at =
    let n : at ≡ at + 0 = omega arith in
    rw (opens_string_is (drop at cs), get_or-drop at cs 0 0, get_or-drop at cs 1 0, get_or-drop at cs 2 0, ← n)
