-- Fronts of some characters: what a word and a string are there.
use Rattle.std.proofs.Common.{◌≡◌, ℕ, zero, suc, ◌+◌, ◌-◌, ◌<◌, ◌≤◌, Bool, true, false, not, ◌&&◌, ◌||◌, List, [], ◌∷◌, length, take, drop, replicate, nat_eq, slice_index, refl, sym, ap, ap₂, ◌∙◌, subst, ⊎_elim, arith}
use Rattle.std.specs.Prelude.{◌==◌, nat_le, bytes_eq, if◌then◌else◌}
use Rattle.std.specs.List.{list_all, prefix_len, starts_with}
use Rattle.std.proofs.lemmas.Bool.{false≢true, and_parts, and_from, cases_lt, lt-leb, false_from_ne_true}
use Rattle.std.proofs.lemmas.List.{take-take, drop-take, length-take, length-take-le, length-drop, get_or-take}
use Rattle.std.proofs.Common.{one-add}
use Rattle.px_lexer.specs.Characters.{unreadable}
use Rattle.px_lexer.specs.Places.{begins_line_end}
use Rattle.px_lexer.specs.Words.{word_len}
use Rattle.px_lexer.specs.Strings.{is_prefix, is_quote, prefix_of, opens_string, quotes_of, body_start, is_escaped, closes, breaks_off, runs_out, stops, IsBodyLen, is_closed, string_len, IsClosedString}
use Rattle.px_lexer.specs.StringSteps.{quotes_by}
use Rattle.px_lexer.proofs.SpellingLemmas.{starts_fits}
use Rattle.px_lexer.proofs.PrefixLemmas.{quote_inside, word_len_at_quote, opened_opens}

-- Fronts of which each character passes a test

pub front_passes : (p : ℕ → Bool) (xs : List ℕ) → list_all p (take (prefix_len p xs) xs) ≡ true
front_passes p [] = refl
front_passes p (x ∷ xs) = by_test (p x) refl (front_passes p xs)
  where
    by_test : (b : Bool) → p x ≡ b → list_all p (take (prefix_len p xs) xs) ≡ true → list_all p (take (if b then 1 + prefix_len p xs else 0) (x ∷ xs)) ≡ true
    by_test true e later = rw one-add (and_from (p x) _ e later)
    by_test false e later = refl

pub front_short : (p : ℕ → Bool) (xs : List ℕ) (m : ℕ) → m ≤ length xs → list_all p (take m xs) ≡ true → m ≤ prefix_len p xs
front_short p [] m within e = within
front_short p (x ∷ xs) zero within e = omega arith
front_short p (x ∷ xs) (suc m) within e =
    let parts = and_parts (p x) (list_all p (take m xs)) e in
    let later = front_short p xs m (omega arith) parts.1 in
    rw parts.0 (omega arith)

-- What stands at the front of a front

same_start : (ys spelling : List ℕ) (k : ℕ) → length spelling ≤ k → starts_with nat_eq (take k ys) spelling ≡ starts_with nat_eq ys spelling
same_start ys spelling k fits = ap (bytes_eq spelling) (take-take (length spelling) k ys fits)

same_start_or_none : (ys spelling : List ℕ) (k : ℕ) → (starts_with nat_eq ys spelling ≡ true → length spelling ≤ k) → starts_with nat_eq (take k ys) spelling ≡ starts_with nat_eq ys spelling
same_start_or_none ys spelling k fits =
    ⊎_elim
    (λ (short : k < length spelling).
    let all : starts_with nat_eq ys spelling ≡ false = false_from_ne_true _ (λ e. omega (arith, fits e)) in
    let front : starts_with nat_eq (take k ys) spelling ≡ false = false_from_ne_true _ (λ e. omega (arith, starts_fits (take k ys) spelling e, length-take k ys)) in
    front ∙ sym all)
    (λ (long : length spelling ≤ k). same_start ys spelling k long)
    (cases_lt k (length spelling))

rest_of_front : (m k : ℕ) (cs : List ℕ) → k ≤ m → drop k (take m cs) ≡ take (m - k) (drop k cs)
rest_of_front m k cs le = let e : m ≡ k + (m - k) = omega arith in ap (λ n. drop k (take n cs)) e ∙ drop-take k (m - k) cs

-- Strings at the front

-- a prefix of n characters and a quote stand there
abbrev IsOpenedAt : List ℕ → ℕ → Type 0
IsOpenedAt cs n = (is_prefix (take n cs) ≡ true) × (is_quote (slice_index cs n) ≡ true)

opened_at : (cs : List ℕ) → opens_string cs ≡ true → IsOpenedAt cs (word_len cs)
opened_at cs e = and_parts (is_prefix (prefix_of cs)) (is_quote (slice_index cs (word_len cs))) e

front_opened : (cs : List ℕ) (m n : ℕ) → n < m → IsOpenedAt cs n → IsOpenedAt (take m cs) n
front_opened cs m n inside o = (
  subst (λ s. is_prefix s ≡ true) (sym (take-take n m cs (omega arith))) o.0,
  subst (λ c. is_quote c ≡ true) (sym (get_or-take m cs n 0 inside)) o.1,
)

all_opened : (cs : List ℕ) (m n : ℕ) → n < m → IsOpenedAt (take m cs) n → IsOpenedAt cs n
all_opened cs m n inside o = (
  subst (λ s. is_prefix s ≡ true) (take-take n m cs (omega arith)) o.0,
  subst (λ c. is_quote c ≡ true) (get_or-take m cs n 0 inside) o.1,
)

-- where a string begins a front, it begins the whole
pub front_opens : (cs : List ℕ) (m : ℕ) → opens_string (take m cs) ≡ true → opens_string cs ≡ true
front_opens cs m e =
    let xs = take m cs in
    let o = opened_at xs e in
    let inside = quote_inside xs (word_len xs) o.1 in
    let all = all_opened cs m (word_len xs) (omega (arith, inside, length-take m cs)) o in
    opened_opens cs (word_len xs) all.0 all.1

quotes_at : List ℕ → ℕ → List ℕ
quotes_at cs n = quotes_by (slice_index cs n) (starts_with nat_eq (drop n cs) (replicate 3 (slice_index cs n)))

quotes_fit : (xs : List ℕ) (m code : ℕ) (triple : Bool) → length (quotes_by code triple) ≤ m → triple ≡ true → 3 ≤ m
quotes_fit xs m code true fits e = fits
quotes_fit xs m code false fits e = absurd (false≢true e)

quotes_full : (code : ℕ) (triple : Bool) → 0 < length (quotes_by code triple)
quotes_full code true = omega arith
quotes_full code false = omega arith

same_quotes : (cs : List ℕ) (m n : ℕ) → n < m → n + length (quotes_at cs n) ≤ m → quotes_at (take m cs) n ≡ quotes_at cs n
unfolding quotes_at
same_quotes cs m n inside fits =
    let code = get_or-take m cs n 0 inside in
    let three = replicate 3 (slice_index cs n) in
    let triple : starts_with nat_eq (drop n (take m cs)) three ≡ starts_with nat_eq (drop n cs) three =
    ap (λ ys. starts_with nat_eq ys three) (rest_of_front m n cs (omega arith))
    ∙ same_start_or_none (drop n cs) three (m - n) (quotes_fit cs (m - n) (slice_index cs n) (starts_with nat_eq (drop n cs) three) (omega arith)) in
    ap (λ c. quotes_by c (starts_with nat_eq (drop n (take m cs)) (replicate 3 c))) code ∙ ap (quotes_by (slice_index cs n)) triple

-- a string begins the front as it begins the whole, where its opening quotes are inside
record BeginsFront (cs : List ℕ) (m : ℕ) : Type 0 where
  opens : opens_string (take m cs) ≡ true
  start : body_start (take m cs) ≡ body_start cs
  quotes : quotes_of (take m cs) ≡ quotes_of cs
  rest : drop (body_start (take m cs)) (take m cs) ≡ take (m - body_start cs) (drop (body_start cs) cs)

front_of : (cs : List ℕ) (m : ℕ) → opens_string cs ≡ true → body_start cs ≤ m → BeginsFront cs m
unfolding quotes_at
front_of cs m e fits =
    let n = word_len cs in
    let some : 0 < length (quotes_of cs) = quotes_full (slice_index cs n) (starts_with nat_eq (drop n cs) (replicate 3 (slice_index cs n))) in
    let o = front_opened cs m n (omega arith) (opened_at cs e) in
    let word : word_len (take m cs) ≡ n = word_len_at_quote (take m cs) n o.0 o.1 in
    let quotes : quotes_of (take m cs) ≡ quotes_of cs = ap (quotes_at (take m cs)) word ∙ same_quotes cs m n (omega arith) fits in
    let start : body_start (take m cs) ≡ body_start cs = ap₂ (λ (k : ℕ) (q : List ℕ). k + length q) word quotes in
    record {
      opens = opened_opens (take m cs) n o.0 o.1;
      start = start;
      quotes = quotes;
      rest = ap (λ k. drop k (take m cs)) start ∙ rest_of_front m (body_start cs) cs fits;
    }

-- Bodies of strings at the front

same_escaped : (body : List ℕ) (r i : ℕ) → i ≤ r → is_escaped (take r body) i ≡ is_escaped body i
unfolding is_escaped
same_escaped body r zero le = refl
same_escaped body r (suc i) le = ap₂ (λ (c : ℕ) (b : Bool). c == 92 && not b) (get_or-take r body i 0 (omega arith)) (same_escaped body r i (omega arith))

same_closes : (quotes body : List ℕ) (r i : ℕ) → i + length quotes ≤ r → closes quotes (take r body) i ≡ closes quotes body i
same_closes quotes body r i fits =
    let start : starts_with nat_eq (drop i (take r body)) quotes ≡ starts_with nat_eq (drop i body) quotes =
    ap (λ ys. starts_with nat_eq ys quotes) (rest_of_front r i body (omega arith)) ∙ same_start (drop i body) quotes (r - i) (omega arith) in
    ap₂ (λ (a b : Bool). a && not b) start (same_escaped body r i (omega arith))

same_line_end : (body : List ℕ) (r i : ℕ) → i < r → begins_line_end (take r body) i ≡ begins_line_end body i
same_line_end body r zero lt = rw (get_or-take r body 0 0 lt) refl
same_line_end body r (suc i) lt = rw (get_or-take r body (suc i) 0 lt, get_or-take r body i 0 (omega arith)) refl

same_stops : (quotes body : List ℕ) (r i : ℕ) → 0 < length quotes → i + length quotes ≤ r → r ≤ length body → stops quotes (take r body) i ≡ stops quotes body i
same_stops quotes body r i some fits within =
    let breaks : breaks_off quotes (take r body) i ≡ breaks_off quotes body i =
    ap₂ (λ (a b : Bool). length quotes == 1 && a && not b) (same_line_end body r i (omega arith)) (same_escaped body r i (omega arith)) in
    let front_inside : nat_le (length (take r body)) i ≡ false = lt-leb (length (take r body)) i (omega (arith, length-take-le r body within)) in
    let all_inside : nat_le (length body) i ≡ false = lt-leb (length body) i (omega arith) in
    let runs : runs_out (take r body) i ≡ runs_out body i =
    ap₂ (λ (a : Bool) (c : ℕ). a || c == unreadable) (front_inside ∙ sym all_inside) (get_or-take r body i 0 (omega arith)) in
    ap₂ (λ (a b : Bool). a || b) (ap₂ (λ (a b : Bool). a || b) (same_closes quotes body r i fits) breaks) runs

pub some_quotes : (cs : List ℕ) → 0 < length (quotes_of cs)
some_quotes cs = quotes_full (slice_index cs (word_len cs)) (starts_with nat_eq (drop (word_len cs) cs) (replicate 3 (slice_index cs (word_len cs))))

pub closed_len : (cs : List ℕ) (n : ℕ) → is_closed cs n ≡ true → string_len cs n ≡ body_start cs + n + length (quotes_of cs)
closed_len cs n e = ap (λ b. body_start cs + n + (if b then length (quotes_of cs) else 0)) e

-- a string that is closed is one by itself
pub string_alone : (cs : List ℕ) (n : ℕ) → opens_string cs ≡ true → IsBodyLen cs n → is_closed cs n ≡ true → string_len cs n ≤ length cs → IsClosedString (take (string_len cs n) cs)
string_alone cs n opens whole closed within =
    let m = string_len cs n in
    let xs = take m cs in
    let len = closed_len cs n closed in
    let f = front_of cs m opens (omega arith) in
    let size = length-drop (body_start cs) cs in
    let stops_there : (i : ℕ) → i ≤ n → stops (quotes_of xs) (drop (body_start xs) xs) i ≡ stops (quotes_of cs) (drop (body_start cs) cs) i =
    λ i le. ap₂ (λ (q body : List ℕ). stops q body i) f.quotes f.rest ∙ same_stops (quotes_of cs) (drop (body_start cs) cs) (m - body_start cs) i (some_quotes cs) (omega arith) (omega arith) in
    let closed_there : is_closed xs n ≡ true =
    ap₂ (λ (q body : List ℕ). closes q body n) f.quotes f.rest ∙ same_closes (quotes_of cs) (drop (body_start cs) cs) (m - body_start cs) n (omega arith) ∙ closed in
    record {
      opens = f.opens;
      body = n;
      ends = record { stopped = stops_there n (omega arith) ∙ whole.stopped; first = λ i lt. stops_there i (omega arith) ∙ whole.first i lt };
      closed = closed_there;
      whole = closed_len xs n closed_there ∙ ap₂ (λ (s : ℕ) (q : List ℕ). s + n + length q) f.start f.quotes ∙ sym len ∙ sym (length-take-le m cs within);
    }

-- and no longer front is one
pub string_longest : (cs : List ℕ) (n m : ℕ) → opens_string cs ≡ true → IsBodyLen cs n → is_closed cs n ≡ true → string_len cs n < m → m ≤ length cs → IsClosedString (take m cs) → ⊥
string_longest cs n m opens whole closed more within s =
    let xs = take m cs in
    let len = closed_len cs n closed in
    let f = front_of cs m opens (omega arith) in
    let size = length-drop (body_start cs) cs in
    let stops_there : stops (quotes_of xs) (drop (body_start xs) xs) n ≡ true =
    ap₂ (λ (q body : List ℕ). stops q body n) f.quotes f.rest ∙ same_stops (quotes_of cs) (drop (body_start cs) cs) (m - body_start cs) n (some_quotes cs) (omega arith) (omega arith) ∙ whole.stopped in
    let own : string_len xs s.body ≡ body_start cs + s.body + length (quotes_of cs) =
    closed_len xs s.body s.closed ∙ ap₂ (λ (k : ℕ) (q : List ℕ). k + s.body + length q) f.start f.quotes in
    ⊎_elim
    (λ (longer : n < s.body). false≢true (sym (s.ends.first n longer) ∙ stops_there))
    (λ (shorter : s.body ≤ n). omega (arith, s.whole, length-take-le m cs within))
    (cases_lt n s.body)
