-- What is told of a string by its parts.
use Rattle.std.proofs.Common.{◌≡◌, ◌≢◌, ◌⊎◌, inl, inr, ⊎_elim, ℕ, zero, suc, Bool, true, false, not, List, ◌+◌, ◌-◌, ◌<◌, ◌≤◌, length, get_or, take, drop, slice_index, nat_eq, nat_le, ◌==◌, refl, ap, sym, subst, ◌∙◌, arith, add-zero, replicate, Contains, if◌then◌else◌}
use Rattle.std.specs.List.{starts_with, slice_range}
use Rattle.std.proofs.lemmas.List.{get_or-drop, get_or-take, get_or_default, drop-drop, length-take}
use Rattle.std.proofs.lemmas.Bool.{cases_lt, false≢true, and_parts, or_parts, eqb-false, cases_order, not-true}
use Rattle.px_lexer.specs.declared.forms.Form.TheVariants as form
use Rattle.px_lexer.specs.declared.strings.Outline.{Outline}
use Rattle.px_lexer.specs.declared.token_list.TokenKind.{TokenKind}
use Rattle.px_lexer.specs.declared.string_content.Content.{Content}
use Rattle.px_lexer.specs.declared.string_content.Content.TheVariants.{Spelled, Wrong}
use Rattle.px_lexer.specs.Characters.{unreadable}
use Rattle.px_lexer.specs.Words.{word_len}
use Rattle.px_lexer.specs.Strings.{opens_string, is_prefix, is_quote, is_raw, is_foreign_prefix, prefix_of, quotes_of, body_start, body_of, is_escaped, IsBodyLen, is_closed, SpellsContent, IsBadEscape}
use Rattle.px_lexer.specs.Pieces.{form_of}
use Rattle.px_lexer.specs.Tokens.{string_kind}
use Rattle.px_lexer.specs.Refusals.{BreaksIn, HasBadEscape, IsNotEnded}
use Rattle.px_lexer.specs.Refusals.BreaksIn.{bad_character, bad_word, bad_number, float_literal, literal_too_wide, bad_escape, string_not_ended}
use Rattle.px_lexer.specs.Readers.{EndsAt, IsReadAs, IsFirstBreach, IsCutOff}
use Rattle.px_lexer.specs.StringSteps.{quotes_by, IsOutline, IsContentRead, AreGoodBefore}
use Rattle.px_lexer.proofs.EscapeLemmas.{inside_by}
use Rattle.px_lexer.proofs.StringBodyLemmas.{goes_on, body_within}

text_alone : (b₁ b₂ b₃ b₄ b₅ b₆ b₇ b₈ : Bool) → (if b₁ then form.Blank else (if b₂ then form.LineEnd else (if b₃ then form.Join else (if b₄ then form.Comment else (if b₅ then form.Text else (if b₆ then form.Word else (if b₇ then form.Number else (if b₈ then form.Sign else form.Stray)))))))) ≡ form.Text → b₅ ≡ true
text_alone true b₂ b₃ b₄ b₅ b₆ b₇ b₈ h = absurd (let k : form.Blank ≡ form.Text = h in cc)
text_alone false true b₃ b₄ b₅ b₆ b₇ b₈ h = absurd (let k : form.LineEnd ≡ form.Text = h in cc)
text_alone false false true b₄ b₅ b₆ b₇ b₈ h = absurd (let k : form.Join ≡ form.Text = h in cc)
text_alone false false false true b₅ b₆ b₇ b₈ h = absurd (let k : form.Comment ≡ form.Text = h in cc)
text_alone false false false false true b₆ b₇ b₈ h = refl
text_alone false false false false false true b₇ b₈ h = absurd (let k : form.Word ≡ form.Text = h in cc)
text_alone false false false false false false true b₈ h = absurd (let k : form.Number ≡ form.Text = h in cc)
text_alone false false false false false false false true h = absurd (let k : form.Sign ≡ form.Text = h in cc)
text_alone false false false false false false false false h = absurd (let k : form.Stray ≡ form.Text = h in cc)

-- a piece that is a string begins as one
pub text_opens : (t : List ℕ) → form_of t ≡ form.Text → opens_string t ≡ true
unfolding form_of
text_opens t h = text_alone _ _ _ _ (opens_string t) _ _ _ h

-- rules that a string breaks
pub text_breaks : (t : List ℕ) (n rule i : ℕ) → BreaksIn form.Text t n rule i → ((rule ≡ 2) × HasBadEscape t i) ⊎ ((rule ≡ 4) × (i ≡ 0) × IsNotEnded t)
text_breaks t n rule i (bad_character f r p b) = absurd (let k : form.Text ≡ form.Stray = f in cc)
text_breaks t n rule i (bad_word f r p b) = absurd (let k : form.Text ≡ form.Word = f in cc)
text_breaks t n rule i (bad_number f r p b) = absurd (let k : form.Text ≡ form.Number = f in cc)
text_breaks t n rule i (float_literal f r p b) = absurd (let k : form.Text ≡ form.Number = f in cc)
text_breaks t n rule i (literal_too_wide f r p b) = absurd (let k : form.Text ≡ form.Number = f in cc)
text_breaks t n rule i (bad_escape f r b) = inl (r, b)
text_breaks t n rule i (string_not_ended f r p b) = inr (r, p, b)

-- a body has one length
pub same_body_len : (t : List ℕ) (m n : ℕ) → IsBodyLen t m → IsBodyLen t n → m ≡ n
same_body_len t m n a b = ⊎_elim
    (λ (e : m ≡ n). e)
    (λ (o : (m < n) ⊎ (n < m)). ⊎_elim
    (λ (h : m < n). absurd (false≢true (sym (b.first m h) ∙ a.stopped)))
    (λ (h : n < m). absurd (false≢true (sym (a.first n h) ∙ b.stopped))) o)
    (cases_order m n)

quotes_by_count : (code : ℕ) (triple : Bool) → 0 < length (quotes_by code triple)
quotes_by_count code true = omega arith
quotes_by_count code false = omega arith

pub body_start_positive : (t : List ℕ) → 0 < body_start t
body_start_positive t =
    let k : 0 < length (quotes_of t) = quotes_by_count (slice_index t (word_len t)) (starts_with nat_eq (drop (word_len t) t) (replicate 3 (slice_index t (word_len t)))) in
    omega arith

body_before_end : (start len closing at to from : ℕ) → at ≡ from + start → to ≡ from + (start + len + closing) → at + len ≤ to
body_before_end start len closing at to from a t = omega (arith, a, t)

-- An escape in the body comes behind the index 0
pub bad_escape_behind : (t : List ℕ) (i : ℕ) → HasBadEscape t i → 0 < i
bad_escape_behind t i b = let k = body_start_positive t in let p = b.placed in omega arith

-- a body is within what stands behind the opening quotes
pub whole_within : (t : List ℕ) (n : ℕ) → IsBodyLen t n → n ≤ length (drop (body_start t) t)
whole_within t n w = body_within (quotes_of t) (drop (body_start t) t) (record { len = n; closed = is_closed t n }) (record { stopped = w.stopped; first = w.first; closed = refl })

pub length-body : (t : List ℕ) (n : ℕ) → IsBodyLen t n → length (body_of t n) ≡ n
length-body t n w = let k = whole_within t n w in omega (arith, length-take n (drop (body_start t) t))

is_escaped-take : (n : ℕ) (rest : List ℕ) (i : ℕ) → i ≤ n → is_escaped (take n rest) i ≡ is_escaped rest i
unfolding is_escaped
is_escaped-take n rest zero h = refl
is_escaped-take n rest (suc i) h =
    let l : i < n = omega arith in
    let e : slice_index (take n rest) i ≡ slice_index rest i = get_or-take n rest i 0 l in
    let f : is_escaped (take n rest) i ≡ is_escaped rest i = is_escaped-take n rest i (omega arith) in
    rw (e, f) refl

-- behind the body of a string that is closed nothing is escaped
pub closed_unescaped : (t : List ℕ) (n : ℕ) → IsBodyLen t n → is_closed t n ≡ true → is_escaped (body_of t n) (length (body_of t n)) ≡ false
closed_unescaped t n w h =
    let rest : List ℕ = drop (body_start t) t in
    let e : is_escaped (drop (body_start t) t) n ≡ false = not-true _ (and_parts (starts_with nat_eq (drop n (drop (body_start t) t)) (quotes_of t)) (not (is_escaped (drop (body_start t) t) n)) h).1 in
    rw (length-body t n w) (is_escaped-take n (drop (body_start t) t) n (omega arith) ∙ e)

-- each character of a body can be read
pub body_readable : (t : List ℕ) (n : ℕ) → IsBodyLen t n → Contains (body_of t n) unreadable → ⊥
body_readable t n w c =
    let l : c.0 < n = omega (arith, length-take n (drop (body_start t) t)) in
    let k = whole_within t n w in
    let e : get_or (drop (body_start t) t) c.0 unreadable ≡ unreadable = sym (get_or-take n (drop (body_start t) t) c.0 unreadable l) ∙ c.2 in
    let f : slice_index (drop (body_start t) t) c.0 ≡ unreadable = get_or_default (drop (body_start t) t) c.0 0 unreadable (omega arith) ∙ e in
    let r = (goes_on (quotes_of t) (drop (body_start t) t) c.0 (w.first c.0 l)).2 in
    let u : (slice_index (drop (body_start t) t) c.0 == unreadable) ≡ false = (or_parts (nat_le (length (drop (body_start t) t)) c.0) (slice_index (drop (body_start t) t) c.0 == unreadable) r).1 in
    eqb-false _ _ u f

module _ (cs : List ℕ) (from : ℕ) (outline : Outline) (o : IsOutline cs from outline) where
  pub ends_there : EndsAt form.Text cs from outline.to
  ends_there =
      let k = body_start_positive (drop from cs) in
      record {
        forward = omega (arith, o.to);
        within = o.within;
        whole = (outline.body.len, o.whole, omega (arith, o.to));
      }

  pub prefix_there : slice_range cs from outline.opening ≡ prefix_of (drop from cs)
  prefix_there =
      let e : outline.opening - from ≡ word_len (drop from cs) = omega (arith, o.opening) in
      ap (λ n. take n (drop from cs)) e

  start_there : drop outline.start cs ≡ drop (body_start (drop from cs)) (drop from cs)
  start_there = rw (drop-drop (body_start (drop from cs)) from cs, o.start) refl

  pub body_there : slice_range cs outline.start (outline.start + outline.body.len) ≡ body_of (drop from cs) outline.body.len
  body_there =
      let e : outline.start + outline.body.len - outline.start ≡ outline.body.len = omega arith in
      ap (λ n. take n (drop outline.start cs)) e ∙ ap (λ x. take outline.body.len x) start_there

  code_there : slice_index (drop from cs) (body_start (drop from cs) + outline.body.len) ≡ slice_index cs (outline.start + outline.body.len)
  code_there =
      let e : from + (body_start (drop from cs) + outline.body.len) ≡ outline.start + outline.body.len = omega (arith, o.start) in
      get_or-drop from cs (body_start (drop from cs) + outline.body.len) 0 ∙ ap (λ i. slice_index cs i) e

  not_ended_there : outline.body.closed ≡ false → slice_index cs (outline.start + outline.body.len) ≢ unreadable → IsNotEnded (drop from cs)
  not_ended_there e r = record {
    body = outline.body.len;
    whole = o.whole;
    open_end = sym o.closed ∙ e;
    readable = λ u. r (sym code_there ∙ u);
  }

  pub breaks_off_first : outline.body.closed ≡ false → slice_index cs (outline.start + outline.body.len) ≢ unreadable → IsFirstBreach form.Text cs from outline.to (record { rule = 4; at = from })
  breaks_off_first e r = record {
    index = 0;
    placed = sym (add-zero from);
    broken = string_not_ended refl refl refl (not_ended_there e r);
    first = λ rule i b. ⊎_elim
        (λ (w : (rule ≡ 2) × HasBadEscape (drop from cs) i). inl (bad_escape_behind (drop from cs) i w.1))
        (λ (w : (rule ≡ 4) × (i ≡ 0) × IsNotEnded (drop from cs)). inr (sym w.1, omega (arith, w.0)))
        (text_breaks (drop from cs) (outline.to - from) rule i b);
  }

  -- the string is closed, or ends where the text can't be read
  abbrev pub IsOver : Type 0
  IsOver = (outline.body.closed ≡ true) ⊎ (slice_index cs (outline.start + outline.body.len) ≡ unreadable)

  never_breaks_off : IsOver → IsNotEnded (drop from cs) → ⊥
  never_breaks_off over w =
      let n : w.body ≡ outline.body.len = same_body_len (drop from cs) w.body outline.body.len w.whole o.whole in
      let c : is_closed (drop from cs) outline.body.len ≡ false = subst (λ x. is_closed (drop from cs) x ≡ false) n w.open_end in
      let r : slice_index (drop from cs) (body_start (drop from cs) + outline.body.len) ≢ unreadable = subst (λ x. slice_index (drop from cs) (body_start (drop from cs) + x) ≢ unreadable) n w.readable in
      ⊎_elim (λ (e : outline.body.closed ≡ true). absurd (false≢true (sym c ∙ (sym o.closed ∙ e)))) (λ (u : slice_index cs (outline.start + outline.body.len) ≡ unreadable). r (code_there ∙ u)) over

  escape_there : (i : ℕ) → HasBadEscape (drop from cs) i → (index : ℕ) × (i ≡ body_start (drop from cs) + index) × IsBadEscape (body_of (drop from cs) outline.body.len) index × (is_raw (prefix_of (drop from cs)) ≡ false)
  escape_there i w =
      let n : w.body ≡ outline.body.len = same_body_len (drop from cs) w.body outline.body.len w.whole o.whole in
      (w.index, w.placed, subst (λ x. IsBadEscape (body_of (drop from cs) x) w.index) n w.wrong, w.not_raw)

  pub wrong_first : (index : ℕ) → IsOver → is_raw (prefix_of (drop from cs)) ≡ false → IsBadEscape (body_of (drop from cs) outline.body.len) index → AreGoodBefore (body_of (drop from cs) outline.body.len) index → IsFirstBreach form.Text cs from outline.to (record { rule = 2; at = outline.start + index })
  wrong_first index over raw wrong before = record {
    index = body_start (drop from cs) + index;
    placed = omega (arith, o.start);
    broken = bad_escape refl refl (record { body = outline.body.len; whole = o.whole; not_raw = raw; index = index; placed = refl; wrong = wrong });
    first = λ rule i b. ⊎_elim
        (λ (w : (rule ≡ 2) × HasBadEscape (drop from cs) i).
        let e = escape_there i w.1 in
        ⊎_elim
        (λ (l : e.0 < index). absurd (before e.0 l e.2))
        (λ (l : index ≤ e.0). ⊎_elim
        (λ (m : index < e.0). inl (omega (arith, e.1)))
        (λ (m : e.0 ≤ index). inr (omega (arith, e.1), omega (arith, w.0)))
        (cases_lt index e.0))
        (cases_lt e.0 index))
        (λ (w : (rule ≡ 4) × (i ≡ 0) × IsNotEnded (drop from cs)). absurd (never_breaks_off over w.2))
        (text_breaks (drop from cs) (outline.to - from) rule i b);
  }

  -- what is read of the body says that no escape in it is wrong
  none_wrong : (raw : Bool) (content : List ℕ) → IsContentRead raw (body_of (drop from cs) outline.body.len) (Spelled content) → raw ≡ false → (i : ℕ) → IsBadEscape (body_of (drop from cs) outline.body.len) i → ⊥
  none_wrong true content r e i = absurd (false≢true (sym e))
  none_wrong false content r e i = r.0 i

  pub cut_off : (content : List ℕ) → outline.body.closed ≡ false → IsOver → IsContentRead (is_raw (prefix_of (drop from cs))) (body_of (drop from cs) outline.body.len) (Spelled content) → IsCutOff form.Text cs from outline.to (record { rule = 1; at = outline.start + outline.body.len })
  cut_off content open_end over r =
      let u : slice_index cs (outline.start + outline.body.len) ≡ unreadable = ⊎_elim (λ (e : outline.body.closed ≡ true). absurd (false≢true (sym open_end ∙ e))) (λ u. u) over in
      record {
        rule = refl;
        unreadable = (inside_by cs (outline.start + outline.body.len) unreadable u (omega arith), u);
        behind = omega (arith, o.start);
        near = body_before_end (body_start (drop from cs)) outline.body.len (if is_closed (drop from cs) outline.body.len then length (quotes_of (drop from cs)) else 0) outline.start outline.to from o.start o.to;
        clean = λ rule i b. ⊎_elim
            (λ (w : (rule ≡ 2) × HasBadEscape (drop from cs) i).
            let e = escape_there i w.1 in
            none_wrong (is_raw (prefix_of (drop from cs))) content r e.3 e.0 e.2)
            (λ (w : (rule ≡ 4) × (i ≡ 0) × IsNotEnded (drop from cs)). never_breaks_off over w.2)
            (text_breaks (drop from cs) (outline.to - from) rule i b);
      }

  pub prefix_may_stand : opens_string (drop from cs) ≡ true → (prefix : List ℕ) → prefix ≡ slice_range cs from outline.opening → is_prefix prefix ≡ true
  prefix_may_stand h prefix e =
      let k = (and_parts (is_prefix (prefix_of (drop from cs))) (is_quote (slice_index (drop from cs) (word_len (drop from cs)))) h).0 in
      subst (λ x. is_prefix x ≡ true) (sym (e ∙ prefix_there)) k

  pub readable_there : (body : List ℕ) → body ≡ slice_range cs outline.start (outline.start + outline.body.len) → Contains body unreadable → ⊥
  readable_there body e c = body_readable (drop from cs) outline.body.len o.whole (subst (λ x. Contains x unreadable) (e ∙ body_there) c)

  pub read_there : (raw : Bool) (prefix body : List ℕ) (found same : Content) → raw ≡ is_raw prefix → prefix ≡ slice_range cs from outline.opening → body ≡ slice_range cs outline.start (outline.start + outline.body.len) → found ≡ same → IsContentRead raw body found → IsContentRead (is_raw (prefix_of (drop from cs))) (body_of (drop from cs) outline.body.len) same
  read_there raw prefix body found same r p b f c =
      subst (λ x. IsContentRead (is_raw (prefix_of (drop from cs))) (body_of (drop from cs) outline.body.len) x) f
      (subst (λ x. IsContentRead (is_raw (prefix_of (drop from cs))) x found) (b ∙ body_there)
      (subst (λ x. IsContentRead x body found) (r ∙ ap is_raw (p ∙ prefix_there)) c))

  spelled_there : (raw : Bool) (content : List ℕ) → outline.body.closed ≡ true → IsContentRead raw (body_of (drop from cs) outline.body.len) (Spelled content) → SpellsContent raw (body_of (drop from cs) outline.body.len) content
  spelled_there true content e r = r
  spelled_there false content e r = r.1 (closed_unescaped (drop from cs) outline.body.len o.whole (sym o.closed ∙ e))

  pub wrong_there : (raw : Bool) (index : ℕ) → IsContentRead raw (body_of (drop from cs) outline.body.len) (Wrong index) → (raw ≡ false) × IsBadEscape (body_of (drop from cs) outline.body.len) index × AreGoodBefore (body_of (drop from cs) outline.body.len) index
  wrong_there true index r = absurd r
  wrong_there false index r = (refl, r.0, r.1)

  pub read_as : (content : List ℕ) (kind : TokenKind) (prefix : List ℕ) (foreign : Bool) → outline.body.closed ≡ true → prefix ≡ slice_range cs from outline.opening → foreign ≡ is_foreign_prefix prefix → kind ≡ string_kind foreign content
      → IsContentRead (is_raw (prefix_of (drop from cs))) (body_of (drop from cs) outline.body.len) (Spelled content) → IsReadAs form.Text cs from (record { kind = kind; to = outline.to })
  read_as content kind prefix foreign e p f k r = record {
    ends = ends_there;
    kind = record {
      body = outline.body.len;
      whole = o.whole;
      closed = sym o.closed ∙ e;
      content = content;
      spelled = spelled_there (is_raw (prefix_of (drop from cs))) content e r;
      kind = k ∙ ap (λ x. string_kind x content) (f ∙ ap is_foreign_prefix (p ∙ prefix_there));
    };
  }
