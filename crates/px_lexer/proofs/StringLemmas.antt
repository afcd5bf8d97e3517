-- Laws of strings: what one is, it is alone; and each has a length, and is a token, breaks a rule or can't be read on.
use Rattle.std.proofs.Common.{◌≡◌, ◌≢◌, ◌⊎◌, inl, inr, ⊎_elim, ℕ, zero, suc, Bool, true, false, List, [], ◌∷◌, ◌++◌, ◌+◌, ◌-◌, ◌<◌, ◌≤◌, length, drop, slice_index, nat_le, nat_eq, ◌==◌, ◌||◌, refl, ap, sym, subst, ◌∙◌, arith, add-zero, add-suc, zero-add, IsTrue, IsFalse, Option, Some, None, if◌then◌else◌, replicate}
use Rattle.std.specs.List.{starts_with}
use Rattle.std.proofs.lemmas.List.{get_or-drop, length-drop, drop-drop}
use Rattle.std.proofs.lemmas.Bool.{false≢true, cases_lt, cases_eq, cases_Bool, and_parts, or_right, or_left, le-leb}
use Rattle.px_lexer.specs.declared.forms.Form.TheVariants as form
use Rattle.px_lexer.specs.declared.token_list.TokenKind.{TokenKind}
use Rattle.px_lexer.specs.Characters.{unreadable}
use Rattle.px_lexer.specs.Places.{is_line_break, line_end_len}
use Rattle.px_lexer.specs.Words.{word_len}
use Rattle.px_lexer.specs.Strings.{Escape, escape_of, opens_string, is_prefix, prefix_of, is_quote, is_raw, is_foreign_prefix, is_escaped, quotes_of, body_start, body_of, stops, closes, breaks_off, runs_out, IsBodyLen, is_closed, string_len, IsContent, SpellsContent, with_line_feeds, IsBadEscape}
use Rattle.px_lexer.specs.Strings.IsContent.{ends, character, line_end, escape}
use Rattle.px_lexer.specs.Pieces.{form_of, HasLength}
use Rattle.px_lexer.specs.Tokens.{IsKind, string_kind}
use Rattle.px_lexer.specs.Refusals.{BreaksIn, HasBadEscape, IsNotEnded}
use Rattle.px_lexer.specs.Refusals.BreaksIn.{bad_escape, string_not_ended}
use Rattle.px_lexer.proofs.StringContentLemmas.{IsReadTo, read_none, read_character, read_line_end, read_escape, read_all, escape_within, line_end_within, lone_escapes}
use Rattle.px_lexer.proofs.StringReadLemmas.{text_opens, text_breaks, same_body_len, whole_within, body_start_positive, closed_unescaped}
use Rattle.px_lexer.proofs.StringBodyLemmas.{quote_inside, closes_within, stand_within}
use Rattle.px_lexer.specs.StringSteps.{quotes_by}
use borrow.Author.Count.{below_more}

-- One content

no_break_in_nothing : IsTrue (is_line_break (slice_index [] 0)) → ⊥
no_break_in_nothing h = let k : false ≡ true = h in false≢true k

no_break_and_backslash : (c : ℕ) → IsTrue (is_line_break c) → c ≡ 92 → ⊥
no_break_and_backslash c h e = let k : false ≡ true = rw e at h in false≢true k

given_same : (e f : Escape) (c d whole other : List ℕ) → ◌≡◌ {A = Option Escape} (Some e) (Some f) → c ≡ d → whole ≡ e.given ++ c → other ≡ f.given ++ d → whole ≡ other
given_same e f c d whole other h k w o = let g : e ≡ f = cc in cc

taken_same : (e f : Escape) → ◌≡◌ {A = Option Escape} (Some e) (Some f) → f.taken ≡ e.taken
taken_same e f h = let g : e ≡ f = cc in cc

content_unique : {body c d : List ℕ} → IsContent body c → IsContent body d → c ≡ d
content_unique ends ends = refl
content_unique ends (line_end b k) = absurd (no_break_in_nothing b)
content_unique ends (escape f b g k w) = absurd (omega arith)
content_unique (character {c = c} n b h) (character m d k) = ap (λ x. c ∷ x) (content_unique h k)
content_unique (character n b h) (line_end d k) = absurd (false≢true (sym b ∙ d))
content_unique (character n b h) (escape f d g k w) = absurd (n d)
content_unique (line_end b h) ends = absurd (no_break_in_nothing b)
content_unique (line_end b h) (character m d k) = absurd (false≢true (sym d ∙ b))
content_unique (line_end b h) (line_end d k) = ap (λ x. 10 ∷ x) (content_unique h k)
content_unique (line_end b h) (escape f d g k w) = absurd (no_break_and_backslash _ b d)
content_unique (escape e b g h v) ends = absurd (omega arith)
content_unique (escape e b g h v) (character m d k) = absurd (m b)
content_unique (escape e b g h v) (line_end d k) = absurd (no_break_and_backslash _ d b)
content_unique (escape {body = cs} {content = content} {whole = whole} e b g h v) (escape {content = other_content} {whole = other} f d i k w) =
    let s : ◌≡◌ {A = Option Escape} (Some e) (Some f) = sym g ∙ i in
    let m : IsContent (drop e.taken cs) other_content = subst (λ n. IsContent (drop n cs) other_content) (taken_same e f s) k in
    given_same e f content other_content whole other s (content_unique h m) v w

spelled_unique : (raw : Bool) (body c d : List ℕ) → SpellsContent raw body c → SpellsContent raw body d → c ≡ d
spelled_unique true body c d h k = h ∙ sym k
spelled_unique false body c d h k = content_unique h k

pub string_unique : (cs : List ℕ) (n : ℕ) (t u : TokenKind) → IsKind form.Text cs n t → IsKind form.Text cs n u → t ≡ u
string_unique cs n t u a b =
    let l : b.body ≡ a.body = same_body_len cs b.body a.body b.whole a.whole in
    let s : SpellsContent (is_raw (prefix_of cs)) (body_of cs a.body) b.content = subst (λ x. SpellsContent (is_raw (prefix_of cs)) (body_of cs x) b.content) l b.spelled in
    let c : a.content ≡ b.content = spelled_unique (is_raw (prefix_of cs)) (body_of cs a.body) a.content b.content a.spelled s in
    a.kind ∙ (ap (string_kind (is_foreign_prefix (prefix_of cs))) c ∙ sym b.kind)

-- A content is there only where no escape is wrong

is_escaped-drop : (body : List ℕ) (k : ℕ) → is_escaped body k ≡ false → (j : ℕ) → is_escaped (drop k body) j ≡ is_escaped body (k + j)
unfolding is_escaped
is_escaped-drop body k e zero = rw (add-zero, e) refl
is_escaped-drop body k e (suc j) =
    let f : slice_index (drop k body) j ≡ slice_index body (k + j) = get_or-drop k body j 0 in
    let g : is_escaped (drop k body) j ≡ is_escaped body (k + j) = is_escaped-drop body k e j in
    rw (add-suc, f, g) refl

bad_behind : (body : List ℕ) (k i : ℕ) → is_escaped body k ≡ false → k ≤ i → IsBadEscape body i → IsBadEscape (drop k body) (i - k)
bad_behind body k i e h b =
    let i_is : k + (i - k) ≡ i = omega arith in
    let l = b.inside in
    record {
      inside = omega (arith, length-drop k body);
      backslash = get_or-drop k body (i - k) 0 ∙ (ap (λ x. slice_index body x) i_is ∙ b.backslash);
      begins = is_escaped-drop body k e (i - k) ∙ (ap (λ x. is_escaped body x) i_is ∙ b.begins);
      wrong = ap escape_of (drop-drop (i - k) k body ∙ ap (λ x. drop x body) i_is) ∙ b.wrong;
    }

-- no escape is wrong where none is in the first characters, nor behind them
good_by : (body : List ℕ) (k : ℕ) (done : List ℕ) → IsReadTo body k done → ((i : ℕ) → IsBadEscape (drop k body) i → ⊥) → (i : ℕ) → IsBadEscape body i → ⊥
good_by body k done r behind i b = ⊎_elim
    (λ (h : i < k). r.good i h b)
    (λ (h : k ≤ i). behind (i - k) (bad_behind body k i r.begins h b))
    (cases_lt i k)

escape_is_good : (body : List ℕ) (e : Escape) → slice_index body 0 ≡ 92 → escape_of body ≡ Some e → ((i : ℕ) → IsBadEscape (drop e.taken body) i → ⊥) → (i : ℕ) → IsBadEscape body i → ⊥
escape_is_good body e b h behind i bad = ⊎_elim
    (λ (l : 0 + 1 < length body).
    let r : IsReadTo body (0 + e.taken) ([] ++ e.given) = read_escape body 0 [] e (read_none body) l b h in
    let s : IsReadTo body e.taken ([] ++ e.given) = rw zero-add at r in
    good_by body e.taken ([] ++ e.given) s behind i bad)
    (λ (l : length body ≤ 0 + 1).
    let k = bad.inside in
    let i_is : i ≡ 0 = omega arith in
    let n : escape_of (drop 0 body) ≡ None = rw i_is at bad.wrong in
    let x : ◌≡◌ {A = Option Escape} None (Some e) = sym n ∙ h in
    absurd cc)
    (cases_lt (0 + 1) (length body))

line_end_is_good : (body : List ℕ) → IsTrue (is_line_break (slice_index body 0)) → ((i : ℕ) → IsBadEscape (drop (line_end_len body) body) i → ⊥) → (i : ℕ) → IsBadEscape body i → ⊥
line_end_is_good body b behind i bad =
    let l = bad.inside in
    let r : IsReadTo body (0 + line_end_len body) ([] ++ 10 ∷ []) = read_line_end body 0 (line_end_len body) [] (read_none body) (omega arith) b refl in
    let s : IsReadTo body (line_end_len body) ([] ++ 10 ∷ []) = rw zero-add at r in
    good_by body (line_end_len body) ([] ++ 10 ∷ []) s behind i bad

character_is_good : (c : ℕ) (body : List ℕ) → c ≢ 92 → IsFalse (is_line_break c) → ((i : ℕ) → IsBadEscape body i → ⊥) → (i : ℕ) → IsBadEscape (c ∷ body) i → ⊥
character_is_good c body n b behind i bad =
    let r : IsReadTo (c ∷ body) (0 + 1) ([] ++ c ∷ []) = read_character (c ∷ body) 0 c [] (read_none (c ∷ body)) (omega arith) refl n b in
    let s : IsReadTo (c ∷ body) 1 ([] ++ c ∷ []) = rw zero-add at r in
    good_by (c ∷ body) 1 ([] ++ c ∷ []) s behind i bad

content_good : {body content : List ℕ} → IsContent body content → (i : ℕ) → IsBadEscape body i → ⊥
content_good ends i bad = let l = bad.inside in omega arith
content_good (character {c = c} {body = body} n b h) i bad = character_is_good c body n b (content_good h) i bad
content_good (line_end {body = body} b h) i bad = line_end_is_good body b (content_good h) i bad
content_good (escape {body = body} e b g h w) i bad = escape_is_good body e b g (content_good h) i bad

spelled_good : (raw : Bool) (body content : List ℕ) → SpellsContent raw body content → raw ≡ false → (i : ℕ) → IsBadEscape body i → ⊥
spelled_good true body content h e i bad = false≢true (sym e)
spelled_good false body content h e i bad = content_good h i bad

pub string_clean : (cs : List ℕ) (n : ℕ) (t : TokenKind) (rule i : ℕ) → IsKind form.Text cs n t → BreaksIn form.Text cs n rule i → ⊥
string_clean cs n t rule i a b = ⊎_elim
    (λ (w : (rule ≡ 2) × HasBadEscape cs i).
    let l : w.1.body ≡ a.body = same_body_len cs w.1.body a.body w.1.whole a.whole in
    let bad : IsBadEscape (body_of cs a.body) w.1.index = subst (λ x. IsBadEscape (body_of cs x) w.1.index) l w.1.wrong in
    spelled_good (is_raw (prefix_of cs)) (body_of cs a.body) a.content a.spelled w.1.not_raw w.1.index bad)
    (λ (w : (rule ≡ 4) × (i ≡ 0) × IsNotEnded cs).
    let l : w.2.body ≡ a.body = same_body_len cs w.2.body a.body w.2.whole a.whole in
    let f : is_closed cs a.body ≡ false = subst (λ x. is_closed cs x ≡ false) l w.2.open_end in
    false≢true (sym f ∙ a.closed))
    (text_breaks cs n rule i b)

-- Each string has a length

-- the first place at which a test passes
first_place : (p : ℕ → Bool) (more at : ℕ) → p (at + more) ≡ true → ((i : ℕ) → i < at → p i ≡ false) → (n : ℕ) × (p n ≡ true) × ((i : ℕ) → i < n → p i ≡ false)
first_place p zero at h before = (at, ap p (sym (add-zero at)) ∙ h, before)
first_place p (suc more) at h before = ⊎_elim
    (λ (e : p at ≡ true). (at, e, before))
    (λ (e : p at ≡ false). first_place p more (at + 1) (ap p (step at more) ∙ h) (below_more (λ i. p i ≡ false) at before e))
    (cases_Bool (p at))
  where
    step : (at more : ℕ) → at + 1 + more ≡ at + suc more
    step at more = omega arith

stops_at_end : (quotes body : List ℕ) → stops quotes body (length body) ≡ true
stops_at_end quotes body = or_right (closes quotes body (length body) || breaks_off quotes body (length body)) (runs_out body (length body))
    (or_left (nat_le (length body) (length body)) (slice_index body (length body) == unreadable) (le-leb (length body) (length body) (omega arith)))

body_there : (cs : List ℕ) → (n : ℕ) × IsBodyLen cs n
body_there cs =
    let rest : List ℕ = drop (body_start cs) cs in
    let e : stops (quotes_of cs) (drop (body_start cs) cs) (0 + length (drop (body_start cs) cs)) ≡ true = ap (λ x. stops (quotes_of cs) (drop (body_start cs) cs) x) (zero-add (length (drop (body_start cs) cs))) ∙ stops_at_end (quotes_of cs) (drop (body_start cs) cs) in
    let f = first_place (λ x. stops (quotes_of cs) (drop (body_start cs) cs) x) (length (drop (body_start cs) cs)) 0 e (λ i h. absurd (omega arith)) in
    (f.0, record { stopped = f.1; first = f.2 })

quotes_within : (xs : List ℕ) (code : ℕ) (triple : Bool) → 0 < length xs → starts_with nat_eq xs (replicate 3 code) ≡ triple → length (quotes_by code triple) ≤ length xs
quotes_within xs code true l h = stand_within (replicate 3 code) xs h
quotes_within xs code false l h = omega arith

start_within : (cs : List ℕ) → opens_string cs ≡ true → body_start cs ≤ length cs
start_within cs h =
    let q = (and_parts (is_prefix (prefix_of cs)) (is_quote (slice_index cs (word_len cs))) h).1 in
    let i = quote_inside cs (word_len cs) q in
    let w : length (quotes_of cs) ≤ length (drop (word_len cs) cs) = quotes_within (drop (word_len cs) cs) (slice_index cs (word_len cs)) (starts_with nat_eq (drop (word_len cs) cs) (replicate 3 (slice_index cs (word_len cs)))) (omega (arith, length-drop (word_len cs) cs)) refl in
    omega (arith, length-drop (word_len cs) cs)

len_within : (start n count len : ℕ) (closed : Bool) → start + n ≤ len → (closed ≡ true → start + n + count ≤ len) → start + n + (if closed then count else 0) ≤ len
len_within start n count len true h k = k refl
len_within start n count len false h k = omega arith

pub string_length : (cs : List ℕ) → form_of cs ≡ form.Text → (n : ℕ) × (0 < n) × (n ≤ length cs) × HasLength form.Text cs n
string_length cs f =
    let s = start_within cs (text_opens cs f) in
    let b = body_there cs in
    let w = whole_within cs b.0 b.1 in
    let p = body_start_positive cs in
    let l : length (drop (body_start cs) cs) ≡ length cs - body_start cs = length-drop (body_start cs) cs in
    let inside : string_len cs b.0 ≤ length cs = len_within (body_start cs) b.0 (length (quotes_of cs)) (length cs) (is_closed cs b.0) (omega arith)
    (λ e. let k = closes_within (quotes_of cs) (drop (body_start cs) cs) b.0 w e in omega arith) in
    (string_len cs b.0, omega arith, inside, (b.0, b.1, refl))

-- A string is a token, or breaks a rule, or can't be read on

abbrev Settled : List ℕ → Type 0
Settled body = ((content : List ℕ) × IsContent body content) ⊎ ((i : ℕ) × IsBadEscape body i)

-- what is read up to an index settles the body, or can be read on
abbrev Step : List ℕ → ℕ → Type 0
Step body at = Settled body ⊎ ((next : ℕ) × (done : List ℕ) × (at < next) × IsReadTo body next done)

step_escape : (body : List ℕ) (at : ℕ) (done : List ℕ) → is_escaped body (length body) ≡ false → IsReadTo body at done → at < length body → slice_index body at ≡ 92 → Step body at
step_escape body at done end r inside b = ⊎_elim
    (λ (l : at + 1 < length body). by_escape l (escape_of (drop at body)) refl)
    (λ (l : length body ≤ at + 1). absurd (false≢true (sym end ∙ lone_escapes body at r.begins inside l b)))
    (cases_lt (at + 1) (length body))
  where
    by_escape : at + 1 < length body → (o : Option Escape) → escape_of (drop at body) ≡ o → Step body at
    by_escape l None e = inl (inr (at, record { inside = inside; backslash = b; begins = r.begins; wrong = e }))
    by_escape l (Some e) h = inr (at + e.taken, done ++ e.given, (let w = (escape_within body at e l h).1 in omega arith), read_escape body at done e r l b h)

step_on : (body : List ℕ) (at : ℕ) (done : List ℕ) → is_escaped body (length body) ≡ false → IsReadTo body at done → at < length body → Step body at
step_on body at done end r inside = ⊎_elim
    (λ (e : slice_index body at ≡ 92). step_escape body at done end r inside e)
    (λ (e : slice_index body at ≡ 92 → ⊥). ⊎_elim
    (λ (b : is_line_break (slice_index body at) ≡ true).
    inr (at + line_end_len (drop at body), done ++ 10 ∷ [], (let w = (line_end_within body at (line_end_len (drop at body)) inside b refl).1 in omega arith), read_line_end body at (line_end_len (drop at body)) done r inside b refl))
    (λ (b : is_line_break (slice_index body at) ≡ false).
    inr (at + 1, done ++ slice_index body at ∷ [], omega arith, read_character body at (slice_index body at) done r inside refl e b))
    (cases_Bool (is_line_break (slice_index body at))))
    (cases_eq (slice_index body at) 92)

step_from : (body : List ℕ) (at : ℕ) (done : List ℕ) → is_escaped body (length body) ≡ false → IsReadTo body at done → Step body at
step_from body at done end r = ⊎_elim
    (λ (h : at < length body). step_on body at done end r h)
    (λ (h : length body ≤ at). inl (inl (done, read_all body at done r h)))
    (cases_lt at (length body))

walk : (body : List ℕ) → is_escaped body (length body) ≡ false → (more at : ℕ) (done : List ℕ) → IsReadTo body at done → length body ≤ at + more → Settled body
walk body end zero at done r h = inl (done, read_all body at done r (omega arith))
walk body end (suc more) at done r h = ⊎_elim
    (λ (s : Settled body). s)
    (λ (w : (next : ℕ) × (done : List ℕ) × (at < next) × IsReadTo body next done). walk body end more w.0 w.1 w.3 (omega (arith, w.2)))
    (step_from body at done end r)

settled : (body : List ℕ) → is_escaped body (length body) ≡ false → Settled body
settled body end = walk body end (length body) 0 [] (read_none body) (omega arith)

closed_settled : (cs : List ℕ) (n body : ℕ) (raw : Bool) → raw ≡ is_raw (prefix_of cs) → IsBodyLen cs body → is_closed cs body ≡ true → ((t : TokenKind) × IsKind form.Text cs n t) ⊎ ((rule : ℕ) × (i : ℕ) × BreaksIn form.Text cs n rule i)
closed_settled cs n body true e w h = inl (
  string_kind (is_foreign_prefix (prefix_of cs)) (with_line_feeds (body_of cs body)),
  record { body = body; whole = w; closed = h; content = with_line_feeds (body_of cs body); spelled = subst (λ raw. SpellsContent raw (body_of cs body) (with_line_feeds (body_of cs body))) e refl; kind = refl },
)
closed_settled cs n body false e w h = ⊎_elim
    (λ (s : (content : List ℕ) × IsContent (body_of cs body) content). inl (
      string_kind (is_foreign_prefix (prefix_of cs)) s.0,
      record { body = body; whole = w; closed = h; content = s.0; spelled = subst (λ raw. SpellsContent raw (body_of cs body) s.0) e s.1; kind = refl },
    ))
    (λ (s : (i : ℕ) × IsBadEscape (body_of cs body) i). inr (
      2,
      body_start cs + s.0,
      bad_escape refl refl (record { body = body; whole = w; not_raw = sym e; index = s.0; placed = refl; wrong = s.1 }),
    ))
    (settled (body_of cs body) (closed_unescaped cs body w h))

open_settled : (cs : List ℕ) (n body : ℕ) → IsBodyLen cs body → n ≡ string_len cs body → is_closed cs body ≡ false → ((rule : ℕ) × (i : ℕ) × BreaksIn form.Text cs n rule i) ⊎ (slice_index cs n ≡ unreadable)
open_settled cs n body w e h =
    let n_is : n ≡ body_start cs + body = e ∙ rw h (add-zero (body_start cs + body)) in
    ⊎_elim
    (λ (u : slice_index cs (body_start cs + body) ≡ unreadable). inr (ap (λ i. slice_index cs i) n_is ∙ u))
    (λ (u : slice_index cs (body_start cs + body) ≡ unreadable → ⊥). inl (4, 0, string_not_ended refl refl refl (record { body = body; whole = w; open_end = h; readable = u })))
    (cases_eq (slice_index cs (body_start cs + body)) unreadable)

pub string_settled : (cs : List ℕ) (n : ℕ) → HasLength form.Text cs n → ((t : TokenKind) × IsKind form.Text cs n t) ⊎ ((rule : ℕ) × (i : ℕ) × BreaksIn form.Text cs n rule i) ⊎ (slice_index cs n ≡ unreadable)
string_settled cs n l = ⊎_elim
    (λ (h : is_closed cs l.0 ≡ true). ⊎_elim
    (λ (t : (t : TokenKind) × IsKind form.Text cs n t). inl t)
    (λ (b : (rule : ℕ) × (i : ℕ) × BreaksIn form.Text cs n rule i). inr (inl b))
    (closed_settled cs n l.0 (is_raw (prefix_of cs)) refl l.1 h))
    (λ (h : is_closed cs l.0 ≡ false). inr (open_settled cs n l.0 l.1 l.2 h))
    (cases_Bool (is_closed cs l.0))
