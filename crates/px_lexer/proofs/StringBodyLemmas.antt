-- Bodies of strings, and where they end.
use Rattle.std.proofs.Common.{◌≡◌, ◌≢◌, ◌⊎◌, inl, inr, ⊎_elim, ℕ, Bool, true, false, not, List, [], ◌∷◌, ◌+◌, ◌-◌, ◌<◌, ◌≤◌, length, take, drop, slice_index, nat_le, nat_eq, ◌==◌, ◌||◌, refl, ap, sym, ◌∙◌, arith, add-one, add-zero, if◌then◌else◌, replicate, subst}
use Rattle.std.proofs.lemmas.Bool.{eq-eqb, eqb-true, ne_eqb, or_parts, or_cases, and_parts, leb-false, cases_lt, false≢true}
use Rattle.std.proofs.lemmas.List.{take_rest, get_or-drop, length-drop, drop-drop}
use Rattle.std.specs.List.{starts_with, slice_range}
use lib.Pointwise.{pointwise}
use Rattle.px_lexer.specs.declared.strings.Quotes.{Quotes}
use Rattle.px_lexer.specs.declared.strings.BodyEnd.{BodyEnd}
use Rattle.px_lexer.specs.Words.{word_len}
use Rattle.px_lexer.proofs.EscapeLemmas.{inside_by}
use Rattle.px_lexer.specs.StringSteps.{quotes_by, AreOpening, IsBodyEnd, IsOutline}
use Rattle.px_lexer.specs.Characters.{unreadable}
use Rattle.px_lexer.specs.Strings.{is_quote, is_prefix, prefix_of, opens_string, is_escaped, quotes_of, body_start, IsBodyLen, is_closed, string_len, stops, closes, breaks_off, runs_out}

pub escaped_behind : (body : List ℕ) (i : ℕ) → slice_index body i ≡ 92 → is_escaped body (i + 1) ≡ not (is_escaped body i)
unfolding is_escaped
escaped_behind body i e = rw (add-one, eq-eqb _ _ e) refl

pub not_escaped : (body : List ℕ) (i : ℕ) → slice_index body i ≢ 92 → is_escaped body (i + 1) ≡ false
unfolding is_escaped
not_escaped body i e = rw (add-one, ne_eqb _ _ e) refl

-- where a body stops, and where it does not

pub goes_on : (quotes body : List ℕ) (i : ℕ) → stops quotes body i ≡ false → (closes quotes body i ≡ false) × (breaks_off quotes body i ≡ false) × (runs_out body i ≡ false)
goes_on quotes body i h =
    let a = or_parts (closes quotes body i || breaks_off quotes body i) (runs_out body i) h in
    let b = or_parts (closes quotes body i) (breaks_off quotes body i) a.0 in
    (b.0, b.1, a.1)

pub goes_on-inside : (quotes body : List ℕ) (i : ℕ) → stops quotes body i ≡ false → i < length body
goes_on-inside quotes body i h = leb-false _ _ (or_parts (nat_le (length body) i) (slice_index body i == unreadable) (goes_on quotes body i h).2).0

-- The parts of a string

-- the body ends inside
pub body_within : (quotes rest : List ℕ) (end : BodyEnd) → IsBodyEnd quotes rest end → end.len ≤ length rest
body_within quotes rest end b = ⊎_elim
    (λ (h : length rest < end.len).
    let k = goes_on-inside quotes rest (length rest) (b.first (length rest) h) in
    absurd (omega arith))
    (λ (h : end.len ≤ length rest). h)
    (cases_lt (length rest) end.len)

-- quotes stand inside
pub stand_within : (needle xs : List ℕ) → pointwise nat_eq needle (take (length needle) xs) ≡ true → length needle ≤ length xs
stand_within [] xs h = omega arith
stand_within (c ∷ needle) [] h = absurd (let k : false ≡ true = h in false≢true k)
stand_within (c ∷ needle) (x ∷ xs) h =
    let k = stand_within needle xs (and_parts (nat_eq c x) (pointwise nat_eq needle (take (length needle) xs)) h).1 in
    omega arith

-- the closing quotes stand inside
pub closes_within : (quotes rest : List ℕ) (n : ℕ) → n ≤ length rest → closes quotes rest n ≡ true → n + length quotes ≤ length rest
closes_within quotes rest n inside h =
    let k = stand_within quotes (drop n rest) (and_parts (starts_with nat_eq (drop n rest) quotes) (not (is_escaped rest n)) h).0 in
    omega (arith, length-drop n rest)

quotes_by_code : (t : List ℕ) (code : ℕ) (triple : Bool) → code ≡ slice_index t (word_len t) → triple ≡ starts_with nat_eq (drop (word_len t) t) (replicate 3 (slice_index t (word_len t))) → quotes_of t ≡ quotes_by code triple
quotes_by_code t code triple c e = rw (c, e) refl

quotes_are : (t text : List ℕ) (quotes : Quotes) → text ≡ drop (word_len t) t → AreOpening text quotes → quotes_of t ≡ quotes_by quotes.code quotes.triple
quotes_are t text quotes e o =
    let f : slice_index (drop (word_len t) t) 0 ≡ slice_index t (word_len t) = rw (get_or-drop, add-zero) refl in
    let c : quotes.code ≡ slice_index t (word_len t) = o.code ∙ (ap (λ x. slice_index x 0) e ∙ f) in
    quotes_by_code t quotes.code quotes.triple c
    (o.triple ∙ (ap (λ x. starts_with nat_eq x (replicate 3 quotes.code)) e ∙ ap (λ x. starts_with nat_eq (drop (word_len t) t) (replicate 3 x)) c))

whole_from : (t quotes rest : List ℕ) (end : BodyEnd) → quotes_of t ≡ quotes → rest ≡ drop (body_start t) t → IsBodyEnd quotes rest end → IsBodyLen t end.len × (end.closed ≡ is_closed t end.len)
whole_from t quotes rest end q r b =
    let own : IsBodyEnd (quotes_of t) (drop (body_start t) t) end = subst (λ x. IsBodyEnd (quotes_of t) x end) r (subst (λ x. IsBodyEnd x rest end) (sym q) b) in
    (record { stopped = own.stopped; first = own.first }, own.closed)

len_from : (t : List ℕ) (n count : ℕ) (closed : Bool) → length (quotes_of t) ≡ count → closed ≡ is_closed t n → string_len t n ≡ body_start t + n + (if closed then count else 0)
len_from t n count closed l e = rw (e, ← l) refl

-- what stands behind an index
pub part_behind : (cs : List ℕ) (from : ℕ) → slice_range cs from (length cs) ≡ drop from cs
part_behind cs from = take_rest cs from

to_within : (to stop count len : ℕ) (closed : Bool) → stop ≤ len → (closed ≡ true → stop + count ≤ len) → to ≡ stop + (if closed then count else 0) → to ≤ len
to_within to stop count len true h k e = let l = k refl in omega arith
to_within to stop count len false h k e = omega arith

-- the parts of a string, as they are found
pub record IsFound (cs : List ℕ) (from opening start : ℕ) (quotes : Quotes) (end : BodyEnd) : Type 0 where
  pub inside : start + end.len ≤ length cs
  pub closed_inside : end.closed ≡ true → start + end.len + length (quotes_by quotes.code quotes.triple) ≤ length cs
  pub outline : (to : ℕ) → to ≡ start + end.len + (if end.closed then length (quotes_by quotes.code quotes.triple) else 0) → IsOutline cs from (record { opening = opening; start = start; body = end; to = to })

pub parts_found : (cs : List ℕ) (from opening start : ℕ) (text rest : List ℕ) (quotes : Quotes) (end : BodyEnd)
    → opening ≡ from + word_len (drop from cs) → opening ≤ length cs → text ≡ slice_range cs opening (length cs) → AreOpening text quotes
    → start ≡ opening + length (quotes_by quotes.code quotes.triple) → rest ≡ slice_range cs start (length cs)
    → IsBodyEnd (quotes_by quotes.code quotes.triple) rest end → IsFound cs from opening start quotes end
parts_found cs from opening start text rest quotes end opening_is inside text_is opens start_is rest_is body =
    let text_there : text ≡ drop (word_len (drop from cs)) (drop from cs) = text_is ∙ (part_behind cs opening ∙ rw (drop-drop (word_len (drop from cs)) from cs, opening_is) refl) in
    let q : quotes_of (drop from cs) ≡ quotes_by quotes.code quotes.triple = quotes_are (drop from cs) text quotes text_there opens in
    let l : length (quotes_of (drop from cs)) ≡ length (quotes_by quotes.code quotes.triple) = ap length q in
    let start_there : start ≡ from + body_start (drop from cs) = omega arith in
    let rest_there : rest ≡ drop (body_start (drop from cs)) (drop from cs) = rest_is ∙ (part_behind cs start ∙ rw (drop-drop (body_start (drop from cs)) from cs, start_there) refl) in
    let text_len : length text ≡ length cs - opening = rw (text_is, part_behind cs opening) (length-drop opening cs) in
    let rest_len : length rest ≡ length cs - start = rw (rest_is, part_behind cs start) (length-drop start cs) in
    let w = opens.within in
    let n = body_within (quotes_by quotes.code quotes.triple) rest end body in
    let room : end.closed ≡ true → start + end.len + length (quotes_by quotes.code quotes.triple) ≤ length cs = λ e.
    (let k = closes_within (quotes_by quotes.code quotes.triple) rest end.len n (sym body.closed ∙ e) in omega arith) in
    let own = whole_from (drop from cs) (quotes_by quotes.code quotes.triple) rest end q rest_there body in
    let all = len_from (drop from cs) end.len (length (quotes_by quotes.code quotes.triple)) end.closed l own.1 in
    let fits : start + end.len ≤ length cs = omega arith in
    record {
      inside = fits;
      closed_inside = room;
      outline = λ to to_is. record {
        opening = opening_is;
        start = start_there;
        whole = own.0;
        closed = own.1;
        to = to_is ∙ rw (all, start_there) (omega arith);
        within = to_within to (start + end.len) (length (quotes_by quotes.code quotes.triple)) (length cs) end.closed fits room to_is;
      };
    }

quote_is : (c : ℕ) → is_quote c ≡ true → (c ≡ 39) ⊎ (c ≡ 34)
quote_is c h = ⊎_elim (λ e. inl (eqb-true _ _ e)) (λ e. inr (eqb-true _ _ e)) (or_cases (c == 39) (c == 34) h)

pub quote_inside : (t : List ℕ) (i : ℕ) → is_quote (slice_index t i) ≡ true → i < length t
quote_inside t i h = ⊎_elim (λ e. inside_by t i 39 e (omega arith)) (λ e. inside_by t i 34 e (omega arith)) (quote_is (slice_index t i) h)

-- the opening quotes stand inside
pub opening_inside : (cs : List ℕ) (from : ℕ) → opens_string (drop from cs) ≡ true → from + word_len (drop from cs) < length cs
opening_inside cs from h =
    let q = (and_parts (is_prefix (prefix_of (drop from cs))) (is_quote (slice_index (drop from cs) (word_len (drop from cs)))) h).1 in
    let i = quote_inside (drop from cs) (word_len (drop from cs)) q in
    omega (arith, length-drop from cs)

pub outline_found : (cs : List ℕ) (from opening len count : ℕ) (text rest : List ℕ) (quotes : Quotes) (end : BodyEnd)
    → opens_string (drop from cs) ≡ true → opening ≡ from + word_len (drop from cs) → len ≡ length cs → text ≡ slice_range cs opening len
    → AreOpening text quotes → count ≡ length (quotes_by quotes.code quotes.triple) → rest ≡ slice_range cs (opening + count) len
    → IsBodyEnd (quotes_by quotes.code quotes.triple) rest end → IsFound cs from opening (opening + count) quotes end
outline_found cs from opening len count text rest quotes end opens opening_is len_is text_is open_are count_is rest_is body =
    let o = opening_inside cs from opens in
    parts_found cs from opening (opening + count) text rest quotes end opening_is (omega arith)
    (text_is ∙ ap (λ n. slice_range cs opening n) len_is) open_are (omega arith)
    (rest_is ∙ ap (λ n. slice_range cs (opening + count) n) len_is) body

-- a string begins with a quote
pub opening_is_quote : (cs : List ℕ) (from opening len : ℕ) (text : List ℕ) → opens_string (drop from cs) ≡ true → opening ≡ from + word_len (drop from cs) → len ≡ length cs → text ≡ slice_range cs opening len → is_quote (slice_index text 0) ≡ true
opening_is_quote cs from opening len text opens opening_is len_is text_is =
    let q = (and_parts (is_prefix (prefix_of (drop from cs))) (is_quote (slice_index (drop from cs) (word_len (drop from cs)))) opens).1 in
    let text_there : text ≡ drop opening cs = text_is ∙ (ap (λ n. slice_range cs opening n) len_is ∙ part_behind cs opening) in
    let e : slice_index (drop opening cs) 0 ≡ slice_index cs opening = rw (get_or-drop, add-zero) refl in
    let f : slice_index (drop from cs) (word_len (drop from cs)) ≡ slice_index cs opening = get_or-drop from cs (word_len (drop from cs)) 0 ∙ ap (λ i. slice_index cs i) (sym opening_is) in
    ap is_quote (ap (λ x. slice_index x 0) text_there ∙ (e ∙ sym f)) ∙ q
