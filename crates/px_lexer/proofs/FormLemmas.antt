-- The form of a piece, and how many characters it has.
use Rattle.std.proofs.Common.{◌≡◌, ℕ, suc, ◌+◌, ◌-◌, ◌<◌, ◌≤◌, Bool, true, false, not, ◌&&◌, ◌||◌, List, [], ◌∷◌, length, drop, refl, sym, ap, ◌∙◌, subst, ⊎_elim, arith}
use Rattle.std.specs.Prelude.{◌==◌, nat_eq, nat_le, if◌then◌else◌, replicate, slice_index, IsTrue, IsFalse}
use Rattle.std.specs.List.{prefix_len, starts_with}
use Rattle.std.proofs.lemmas.List.{length-drop, drop-drop, get_or-drop, get_or_past}
use Rattle.std.proofs.lemmas.List.Sums.{prefix_len-le-length}
use Rattle.std.proofs.lemmas.Bool.{false≢true, both_ways, cases_lt, cases_order, and_parts, or_left, le-leb, eqb-true}
use Rattle.px_lexer.specs.declared.forms.Form.{Form}
use Rattle.px_lexer.specs.declared.forms.Form.TheVariants as form
use Rattle.px_lexer.specs.Spellings.{IsLongest}
use Rattle.px_lexer.specs.Strings.{is_prefix, is_quote, prefix_of, opens_string, IsBodyLen, closes, breaks_off, runs_out, stops, quotes_of, body_start, string_len}
use Rattle.px_lexer.proofs.SpellingLemmas.{starts_fits}
use Rattle.px_lexer.proofs.PrefixLemmas.{quote_inside}
use Rattle.px_lexer.specs.Places.{is_line_break, line_end_len}
use Rattle.px_lexer.specs.Words.{starts_word, continues_word, word_len}
use Rattle.px_lexer.specs.Signs.{begins_sign}
use Rattle.px_lexer.specs.Pieces.{form_of, is_blank, begins_number, joins_lines, is_content, HasLength}
use Rattle.px_lexer.specs.Readers.{EndsAt}

-- a piece has one length

pub longest_unique : (P : List ℕ → Type 0) (cs : List ℕ) (n m : ℕ) → IsLongest P cs n → IsLongest P cs m → n ≡ m
longest_unique P cs n m a b =
    ⊎_elim (λ (e : n ≡ m). e) (⊎_elim (λ (l : n < m). absurd (a.longest m l b.within b.spelled)) (λ (l : m < n). absurd (b.longest n l a.within a.spelled))) (cases_order n m)

pub body_len_unique : (cs : List ℕ) (n m : ℕ) → IsBodyLen cs n → IsBodyLen cs m → n ≡ m
body_len_unique cs n m a b =
    ⊎_elim (λ (e : n ≡ m). e) (⊎_elim (λ (l : n < m). absurd (both_ways _ (b.first n l) a.stopped)) (λ (l : m < n). absurd (both_ways _ (a.first m l) b.stopped))) (cases_order n m)

pub has_length_unique : (found : Form) (cs : List ℕ) (n m : ℕ) → HasLength found cs n → HasLength found cs m → n ≡ m
has_length_unique form.Blank cs n m a b = a ∙ sym b
has_length_unique form.LineEnd cs n m a b = a ∙ sym b
has_length_unique form.Join cs n m a b = a ∙ sym b
has_length_unique form.Comment cs n m a b = a ∙ sym b
has_length_unique form.Word cs n m a b = a ∙ sym b
has_length_unique form.Number cs n m a b = longest_unique _ cs n m a b
has_length_unique form.Text cs n m a b = a.2 ∙ ap (string_len cs) (body_len_unique cs a.0 b.0 a.1 b.1) ∙ sym b.2
has_length_unique form.Sign cs n m a b = longest_unique _ cs n m a b
has_length_unique form.Stray cs n m a b = a ∙ sym b

-- which tests a form passes

abbrev pub form_by_tests : Bool → Bool → Bool → Bool → Bool → Bool → Bool → Bool → Form
form_by_tests blank line_break join comment text word number sign =
    if blank then form.Blank
    else (if line_break then form.LineEnd
    else (if join then form.Join
    else (if comment then form.Comment
    else (if text then form.Text
    else (if word then form.Word
    else (if number then form.Number
    else (if sign then form.Sign else form.Stray)))))))

pub form_of_at : (cs : List ℕ) (at : ℕ) → form_of (drop at cs) ≡ form_by_tests (is_blank (slice_index cs at)) (is_line_break (slice_index cs at)) (joins_lines (drop at cs)) (slice_index cs at == 35) (opens_string (drop at cs)) (starts_word (slice_index cs at)) (begins_number (drop at cs)) (begins_sign (drop at cs))
unfolding form_of
form_of_at cs at =
    let n : at + 0 ≡ at = omega arith in
    ap (λ c. form_by_tests (is_blank c) (is_line_break c) (joins_lines (drop at cs)) (c == 35) (opens_string (drop at cs)) (starts_word c) (begins_number (drop at cs)) (begins_sign (drop at cs)))
    (get_or-drop at cs 0 0 ∙ ap (slice_index cs) n)

word_by_tests : (blank line_break join comment text word number sign : Bool) → blank ≡ false → line_break ≡ false → join ≡ false → comment ≡ false → text ≡ false → word ≡ true → form.Word ≡ form_by_tests blank line_break join comment text word number sign
word_by_tests blank line_break join comment text word number sign a b c d e f = rw (a, b, c, d, e, f)

number_by_tests : (blank line_break join comment text word number sign : Bool) → blank ≡ false → line_break ≡ false → join ≡ false → comment ≡ false → text ≡ false → word ≡ false → number ≡ true → form.Number ≡ form_by_tests blank line_break join comment text word number sign
number_by_tests blank line_break join comment text word number sign a b c d e f g = rw (a, b, c, d, e, f, g)

pub is_word : (cs : List ℕ) (at : ℕ) → is_blank (slice_index cs at) ≡ false → is_line_break (slice_index cs at) ≡ false → (joins_lines (drop at cs)) ≡ false → (slice_index cs at == 35) ≡ false → opens_string (drop at cs) ≡ false → starts_word (slice_index cs at) ≡ true → form.Word ≡ form_of (drop at cs)
is_word cs at a b c d e f = word_by_tests _ _ _ _ _ _ _ _ a b c d e f ∙ sym (form_of_at cs at)

pub is_number : (cs : List ℕ) (at : ℕ) → is_blank (slice_index cs at) ≡ false → is_line_break (slice_index cs at) ≡ false → (joins_lines (drop at cs)) ≡ false → (slice_index cs at == 35) ≡ false → opens_string (drop at cs) ≡ false → starts_word (slice_index cs at) ≡ false → begins_number (drop at cs) ≡ true → form.Number ≡ form_of (drop at cs)
is_number cs at a b c d e f g = number_by_tests _ _ _ _ _ _ _ _ a b c d e f g ∙ sym (form_of_at cs at)

-- the test of the form itself, and for a stray that a sign begins
abbrev Passes : Form → Bool → Bool → Bool → Bool → Bool → Bool → Bool → Bool → Type 0
Passes form.Blank blank line_break join comment text word number sign = IsTrue blank
Passes form.LineEnd blank line_break join comment text word number sign = IsTrue line_break
Passes form.Join blank line_break join comment text word number sign = IsTrue join
Passes form.Comment blank line_break join comment text word number sign = IsTrue comment
Passes form.Word blank line_break join comment text word number sign = IsTrue word
Passes form.Number blank line_break join comment text word number sign = IsTrue number
Passes form.Text blank line_break join comment text word number sign = IsTrue text
Passes form.Sign blank line_break join comment text word number sign = IsTrue sign
Passes form.Stray blank line_break join comment text word number sign = IsFalse sign

passes : (blank line_break join comment text word number sign : Bool) → Passes (form_by_tests blank line_break join comment text word number sign) blank line_break join comment text word number sign
passes true line_break join comment text word number sign = refl
passes false true join comment text word number sign = refl
passes false false true comment text word number sign = refl
passes false false false true text word number sign = refl
passes false false false false true word number sign = refl
passes false false false false false true number sign = refl
passes false false false false false false true sign = refl
passes false false false false false false false true = refl
passes false false false false false false false false = refl

FormPasses : Form → List ℕ → Type 0
FormPasses found cs =
    let c = slice_index cs 0 in
    Passes found (is_blank c) (is_line_break c) (joins_lines cs) (c == 35) (opens_string cs) (starts_word c) (begins_number cs) (begins_sign cs)

form_passes : (found : Form) (cs : List ℕ) → form_of cs ≡ found → FormPasses found cs
unfolding form_of FormPasses
form_passes found cs e =
    let c = slice_index cs 0 in
    subst (λ f. FormPasses f cs) e (passes (is_blank c) (is_line_break c) (joins_lines cs) (c == 35) (opens_string cs) (starts_word c) (begins_number cs) (begins_sign cs))

-- the tests that come before that of the form fail
abbrev Fails : Form → Bool → Bool → Bool → Type 0
Fails form.Word text word number = IsFalse text
Fails form.Number text word number = IsFalse text × IsFalse word
Fails form.Sign text word number = IsFalse text × IsFalse word × IsFalse number
Fails _ text word number = Unit {0}

fails : (blank line_break join comment text word number sign : Bool) → Fails (form_by_tests blank line_break join comment text word number sign) text word number
fails true line_break join comment text word number sign = tt
fails false true join comment text word number sign = tt
fails false false true comment text word number sign = tt
fails false false false true text word number sign = tt
fails false false false false true word number sign = tt
fails false false false false false true number sign = refl
fails false false false false false false true sign = (refl, refl)
fails false false false false false false false true = (refl, refl, refl)
fails false false false false false false false false = tt

form_fails : (found : Form) (cs : List ℕ) → form_of cs ≡ found → Fails found (opens_string cs) (starts_word (slice_index cs 0)) (begins_number cs)
unfolding form_of
form_fails found cs e =
    let c = slice_index cs 0 in
    subst (λ f. Fails f (opens_string cs) (starts_word c) (begins_number cs)) e (fails (is_blank c) (is_line_break c) (joins_lines cs) (c == 35) (opens_string cs) (starts_word c) (begins_number cs) (begins_sign cs))

pub word_fails : (cs : List ℕ) → form_of cs ≡ form.Word → IsFalse (opens_string cs)
word_fails cs e = form_fails form.Word cs e

pub number_fails : (cs : List ℕ) → form_of cs ≡ form.Number → IsFalse (opens_string cs) × IsFalse (starts_word (slice_index cs 0))
number_fails cs e = form_fails form.Number cs e

pub sign_fails : (cs : List ℕ) → form_of cs ≡ form.Sign → IsFalse (opens_string cs) × IsFalse (starts_word (slice_index cs 0)) × IsFalse (begins_number cs)
sign_fails cs e = form_fails form.Sign cs e

pub text_opens : (cs : List ℕ) → form_of cs ≡ form.Text → IsTrue (opens_string cs)
unfolding FormPasses
text_opens cs e = form_passes form.Text cs e

pub word_starts : (cs : List ℕ) → form_of cs ≡ form.Word → IsTrue (starts_word (slice_index cs 0))
unfolding FormPasses
word_starts cs e = form_passes form.Word cs e

pub number_begins : (cs : List ℕ) → form_of cs ≡ form.Number → IsTrue (begins_number cs)
unfolding FormPasses
number_begins cs e = form_passes form.Number cs e

pub sign_begins : (cs : List ℕ) → form_of cs ≡ form.Sign → IsTrue (begins_sign cs)
unfolding FormPasses
sign_begins cs e = form_passes form.Sign cs e

pub stray_is_none : (cs : List ℕ) → form_of cs ≡ form.Stray → IsFalse (begins_sign cs)
unfolding FormPasses
stray_is_none cs e = form_passes form.Stray cs e

pub line_end_breaks : (cs : List ℕ) → form_of cs ≡ form.LineEnd → IsTrue (is_line_break (slice_index cs 0))
unfolding FormPasses
line_end_breaks cs e = form_passes form.LineEnd cs e

pub join_breaks : (cs : List ℕ) → form_of cs ≡ form.Join → IsTrue (is_line_break (slice_index cs 1))
unfolding FormPasses
join_breaks cs e = (and_parts (slice_index cs 0 == 92) (is_line_break (slice_index cs 1)) (form_passes form.Join cs e)).1

pub comment_begins : (cs : List ℕ) → form_of cs ≡ form.Comment → slice_index cs 0 ≡ 35
unfolding FormPasses
comment_begins cs e = eqb-true (slice_index cs 0) 35 (form_passes form.Comment cs e)

pub blank_begins : (cs : List ℕ) → form_of cs ≡ form.Blank → IsTrue (is_blank (slice_index cs 0))
unfolding FormPasses
blank_begins cs e = form_passes form.Blank cs e

pub join_begins : (cs : List ℕ) → form_of cs ≡ form.Join → slice_index cs 0 ≡ 92
unfolding FormPasses
join_begins cs e = eqb-true (slice_index cs 0) 92 (and_parts (slice_index cs 0 == 92) (is_line_break (slice_index cs 1)) (form_passes form.Join cs e)).0

-- a piece behind some characters

pub ends_at : (found : Form) (cs : List ℕ) (from n : ℕ) → 0 < n → n ≤ length (drop from cs) → HasLength found (drop from cs) n → EndsAt found cs from (from + n)
ends_at found cs from n full within whole = record {
  forward = omega arith;
  within = omega (arith, length-drop from cs);
  whole = let e : from + n - from ≡ n = omega arith in subst (λ m. HasLength found (drop from cs) m) (sym e) whole;
}

-- line ends

line_end_inside : (cs : List ℕ) → 0 < length cs → line_end_len cs ≤ length cs
line_end_inside [] full = absurd (omega arith)
line_end_inside (x ∷ []) full = by_test (x == 13)
  where
    by_test : (b : Bool) → (if b && false then 2 else 1) ≤ 1
    by_test true = omega arith
    by_test false = omega arith
line_end_inside (x ∷ y ∷ cs) full = by_test (x == 13 && y == 10)
  where
    by_test : (b : Bool) → (if b then 2 else 1) ≤ suc (suc (length cs))
    by_test true = omega arith
    by_test false = omega arith

line_end_full : (cs : List ℕ) → 0 < line_end_len cs
line_end_full cs = by_test (slice_index cs 0 == 13 && slice_index cs 1 == 10)
  where
    by_test : (b : Bool) → 0 < (if b then 2 else 1)
    by_test true = omega arith
    by_test false = omega arith

line_break_inside : (cs : List ℕ) (i : ℕ) → IsTrue (is_line_break (slice_index cs i)) → i < length cs
line_break_inside cs i e =
    ⊎_elim (λ (inside : i < length cs). inside) (λ (past : length cs ≤ i). absurd (false≢true (sym (ap is_line_break (get_or_past cs i 0 past)) ∙ e))) (cases_lt i (length cs))

-- comments

-- how many characters stand before the first line end
abbrev pub comment_len : List ℕ → ℕ
comment_len cs = prefix_len (λ c. not (is_line_break c)) cs

comment_full : (cs : List ℕ) → slice_index cs 0 ≡ 35 → 0 < comment_len cs
comment_full [] e = absurd (omega arith)
comment_full (x ∷ cs) e = rw e (omega arith)

-- the length of a piece that is no content

pub gap_length : (found : Form) (cs : List ℕ) → found ≡ form_of cs → 0 < length cs → IsFalse (is_content found) → (n : ℕ) × (0 < n) × (n ≤ length cs) × HasLength found cs n
gap_length form.Blank cs stands full gap = (1, omega arith, omega arith, refl)
gap_length form.LineEnd cs stands full gap = (line_end_len cs, line_end_full cs, line_end_inside cs full, refl)
gap_length form.Join cs stands full gap =
    let inside = line_break_inside cs 1 (join_breaks cs (sym stands)) in
    let rest = line_end_inside (drop 1 cs) (omega (arith, length-drop 1 cs)) in
    (1 + line_end_len (drop 1 cs), omega arith, omega (arith, length-drop 1 cs), refl)
gap_length form.Comment cs stands full gap = (comment_len cs, comment_full cs (comment_begins cs (sym stands)), prefix_len-le-length (λ c. not (is_line_break c)) cs, refl)
gap_length form.Word cs stands full gap = absurd (false≢true (sym gap))
gap_length form.Number cs stands full gap = absurd (false≢true (sym gap))
gap_length form.Text cs stands full gap = absurd (false≢true (sym gap))
gap_length form.Sign cs stands full gap = absurd (false≢true (sym gap))
gap_length form.Stray cs stands full gap = absurd (false≢true (sym gap))

pub gap_ends : (found : Form) (cs : List ℕ) (from n : ℕ) → from < length cs → found ≡ form_of (drop from cs) → IsFalse (is_content found) → HasLength found (drop from cs) n → EndsAt found cs from (from + n)
gap_ends found cs from n inside stands gap whole =
    let some = gap_length found (drop from cs) stands (omega (arith, length-drop from cs)) gap in
    let same = has_length_unique found (drop from cs) some.0 n some.3 whole in
    ends_at found cs from n (subst (λ m. 0 < m) same some.1) (subst (λ m. m ≤ length (drop from cs)) same some.2) whole

pub join_ends : (found : Form) (cs : List ℕ) (from n : ℕ) → from < length cs → found ≡ form_of (drop from cs) → IsFalse (is_content found) → found ≡ form.Join → n ≡ line_end_len (drop (from + 1) cs) → EndsAt found cs from (from + 1 + n)
join_ends found cs from n inside stands gap joins len =
    let whole : 1 + n ≡ 1 + line_end_len (drop 1 (drop from cs)) = ap (λ m. 1 + m) (len ∙ ap line_end_len (sym (drop-drop 1 from cs))) in
    let sum : from + (1 + n) ≡ from + 1 + n = omega arith in
    subst (λ to. EndsAt found cs from to) sum (gap_ends found cs from (1 + n) inside stands gap (subst (λ f. HasLength f (drop from cs) (1 + n)) (sym joins) whole))

-- no piece goes on behind the last character

quotes_fit : (cs quote : List ℕ) (b : Bool) (three : List ℕ) → length quote ≤ length cs → starts_with nat_eq cs three ≡ b → length (if b then three else quote) ≤ length cs
quotes_fit cs quote true three fits starts = starts_fits cs three starts
quotes_fit cs quote false three fits starts = fits

body_starts_inside : (cs : List ℕ) → IsTrue (opens_string cs) → body_start cs ≤ length cs
body_starts_inside cs opens =
    let w = word_len cs in
    let quote = slice_index cs w in
    let inside = quote_inside cs w (and_parts (is_prefix (prefix_of cs)) (is_quote quote) opens).1 in
    let rest = length-drop w cs in
    let one : length (quote ∷ []) ≤ length (drop w cs) = omega arith in
    let fits = quotes_fit (drop w cs) (quote ∷ []) (starts_with nat_eq (drop w cs) (replicate 3 quote)) (replicate 3 quote) one refl in
    omega arith

body_within : (quotes body : List ℕ) (n : ℕ) → ((i : ℕ) → i < n → IsFalse (stops quotes body i)) → n ≤ length body
body_within quotes body n first =
    ⊎_elim
    (λ (past : length body < n). absurd (both_ways _ (first (length body) past) (by_last (closes quotes body (length body)) (breaks_off quotes body (length body)) (runs_out body (length body)) (or_left (nat_le (length body) (length body)) _ (le-leb (length body) (length body) (omega arith))))))
    (λ (inside : n ≤ length body). inside)
    (cases_lt (length body) n)
  where
    by_last : (a b c : Bool) → c ≡ true → (a || b || c) ≡ true
    by_last true b c e = refl
    by_last false true c e = refl
    by_last false false c e = e

closing_within : (quotes body : List ℕ) (n : ℕ) → n ≤ length body → n + (if closes quotes body n then length quotes else 0) ≤ length body
closing_within quotes body n inside = by_test (closes quotes body n) (λ e. starts_fits (drop n body) quotes (and_parts (starts_with nat_eq (drop n body) quotes) _ e).0)
  where
    by_test : (b : Bool) → (b ≡ true → length quotes ≤ length (drop n body)) → n + (if b then length quotes else 0) ≤ length body
    by_test true fits = omega (arith, fits refl, length-drop n body)
    by_test false fits = omega arith

string_within : (cs : List ℕ) (n : ℕ) → IsTrue (opens_string cs) → IsBodyLen cs n → string_len cs n ≤ length cs
string_within cs n opens whole =
    let start = body_starts_inside cs opens in
    let body = drop (body_start cs) cs in
    let inside = body_within (quotes_of cs) body n whole.first in
    let closed = closing_within (quotes_of cs) body n inside in
    let rest = length-drop (body_start cs) cs in
    sum_within (length cs) (body_start cs) (length body) n _ start rest closed
  where
    sum_within : (all start body n closing : ℕ) → start ≤ all → body ≡ all - start → n + closing ≤ body → start + n + closing ≤ all
    sum_within all start body n closing a b c = omega arith

pub length_within : (found : Form) (cs : List ℕ) (n : ℕ) → found ≡ form_of cs → 0 < length cs → HasLength found cs n → n ≤ length cs
length_within form.Blank cs n stands full whole = omega (arith, whole)
length_within form.LineEnd cs n stands full whole = let some = gap_length form.LineEnd cs stands full refl in subst (λ m. m ≤ length cs) (has_length_unique form.LineEnd cs some.0 n some.3 whole) some.2
length_within form.Join cs n stands full whole = let some = gap_length form.Join cs stands full refl in subst (λ m. m ≤ length cs) (has_length_unique form.Join cs some.0 n some.3 whole) some.2
length_within form.Comment cs n stands full whole = let some = gap_length form.Comment cs stands full refl in subst (λ m. m ≤ length cs) (has_length_unique form.Comment cs some.0 n some.3 whole) some.2
length_within form.Word cs n stands full whole = subst (λ m. m ≤ length cs) (sym whole) (prefix_len-le-length continues_word cs)
length_within form.Number cs n stands full whole = whole.within
length_within form.Text cs n stands full whole = subst (λ m. m ≤ length cs) (sym whole.2) (string_within cs whole.0 (text_opens cs (sym stands)) whole.1)
length_within form.Sign cs n stands full whole = whole.within
length_within form.Stray cs n stands full whole = omega (arith, whole)
