-- The refusal of a piece with content is the first of the text.
use Rattle.std.proofs.Common.{◌≡◌, ℕ, zero, suc, ◌+◌, ◌-◌, ◌<◌, ◌≤◌, ◌⊎◌, inl, inr, true, false, ◌||◌, List, [], ◌∷◌, ◌++◌, drop, take, length, Option, Some, None, refl, sym, ap, subst, ◌∙◌, arith}
use Rattle.std.specs.Prelude.{IsTrue, slice_index}
use Rattle.std.proofs.lemmas.Bool.{cases_lt}
use Rattle.std.proofs.lemmas.List.{get_or-drop}
use Rattle.unicode_ident.proofs.Computing.{unicode_ident}
use Rattle.px_base.specs.Findings.{IsFirst}
use Rattle.px_lexer.specs.Places.{refusal_at}
use Rattle.px_lexer.specs.declared.forms.Form.{Form}
use Rattle.px_lexer.specs.declared.forms.Form.TheVariants as form
use Rattle.px_lexer.specs.declared.readings.Breach.{Breach}
use Rattle.px_lexer.specs.declared.token_list.TokenKind.{TokenKind}
use Rattle.px_lexer.specs.declared.reader.Reader.{Reader}
use Rattle.px_lexer.specs.Characters.{unreadable, characters}
use Rattle.px_lexer.specs.Signs.{operators, foreign_signs}
use Rattle.px_lexer.specs.Strings.{body_start, body_of}
use Rattle.px_lexer.specs.Pieces.{Piece, IsPiece, form_of, is_content}
use Rattle.px_lexer.specs.Lines.{Line, has_content, start_of, level_from, indented_to, level_of, indentation_end, levels_of, last_level, open_levels}
use Rattle.px_lexer.specs.Tokens.{IsKind}
use Rattle.px_lexer.specs.Refusals.{BreaksIn, bad_character, bad_word, bad_number, float_literal, literal_too_wide, bad_escape, string_not_ended, IsMisindented, BreaksCharacters}
use Rattle.px_lexer.specs.Readers.{EndsAt, IsNotAfter, IsFirstBreach, IsCutOff}
use Rattle.px_lexer.specs.Reached.{IsIndentationFinding, IsEarlier, IsReached}
use Rattle.px_lexer.proofs.CharacterLemmas.{unreadable_last}
use Rattle.px_lexer.proofs.Cuts.{between_forward, between_append, start_at}
use Rattle.px_lexer.proofs.Breaks.{is_first, IsFirstBreak, content_cases, has_content-append}
use Rattle.px_lexer.proofs.Lexed.{or_left, or_right}
use Rattle.px_lexer.proofs.PieceLaws.{kind_clean}
use Rattle.px_lexer.proofs.Findings.{not_after_trans, breaks_inside}
use Rattle.px_lexer.proofs.FirstLaws.{CantBeRead, OwnBreaks, BreaksIndented, StepBreaks, content_ends_no_line, end_before_content, first_of_step}
use Rattle.px_lexer.proofs.Reaching.{piece_at, piece_stands, levels_before}

-- What can be read

no_zero : 0 ≡ unreadable → ⊥
no_zero e = omega (arith, e)

stray_unread : (c : ℕ) (cs : List ℕ) → c ≡ unreadable → form_of (c ∷ cs) ≡ form.Stray
unfolding form_of unicode_ident operators foreign_signs
stray_unread c cs e = subst (λ x. form_of (x ∷ cs) ≡ form.Stray) (sym e) refl

pub unread_is_stray : (cs : List ℕ) → slice_index cs 0 ≡ unreadable → form_of cs ≡ form.Stray
unread_is_stray [] e = absurd (no_zero e)
unread_is_stray (c ∷ cs) e = stray_unread c cs e

abbrev IsStray : Form → Type 0
IsStray form.Blank = ⊥
IsStray form.LineEnd = ⊥
IsStray form.Join = ⊥
IsStray form.Comment = ⊥
IsStray form.Word = ⊥
IsStray form.Number = ⊥
IsStray form.Text = ⊥
IsStray form.Sign = ⊥
IsStray form.Stray = Unit {0}

stray_of : (found : Form) (cs : List ℕ) (i : ℕ) → found ≡ form_of cs → i ≡ 0 → slice_index cs i ≡ unreadable → IsStray found
stray_of found cs i e first cut = subst IsStray (sym (e ∙ unread_is_stray cs (subst (λ k. slice_index cs k ≡ unreadable) first cut))) tt

taken_at : (xs : List ℕ) (n k : ℕ) → k < length (take n xs) → slice_index (take n xs) k ≡ slice_index xs k
taken_at [] zero k lt = refl
taken_at [] (suc n) k lt = refl
taken_at (x ∷ xs) zero k lt = absurd (omega (arith, lt))
taken_at (x ∷ xs) (suc n) zero lt = refl
taken_at (x ∷ xs) (suc n) (suc k) lt = taken_at xs n k (omega (arith, lt))

-- a rule of a piece is broken at a character that can be read
pub break_readable : (found : Form) (cs : List ℕ) (n rule i : ℕ) → found ≡ form_of cs → BreaksIn found cs n rule i → slice_index cs i ≡ unreadable → ⊥
break_readable found cs n rule i e (bad_character f r p b) cut = b (subst (λ k. slice_index cs k ≡ unreadable) p cut)
break_readable found cs n rule i e (bad_word f r p b) cut = subst IsStray f (stray_of found cs i e p cut)
break_readable found cs n rule i e (bad_number f r p b) cut = subst IsStray f (stray_of found cs i e p cut)
break_readable found cs n rule i e (float_literal f r p b) cut = subst IsStray f (stray_of found cs i e p cut)
break_readable found cs n rule i e (literal_too_wide f r p b) cut = subst IsStray f (stray_of found cs i e p cut)
break_readable found cs n rule i e (string_not_ended f r p b) cut = subst IsStray f (stray_of found cs i e p cut)
break_readable found cs n rule i e (bad_escape f r b) cut =
    let there : slice_index (body_of cs b.body) b.index ≡ slice_index cs i =
    taken_at (drop (body_start cs) cs) b.body b.index b.wrong.inside ∙ get_or-drop (body_start cs) cs b.index 0 ∙ ap (slice_index cs) (sym b.placed) in
    absurd (omega (arith, b.wrong.backslash, there, cut))

-- a token begins with a character that can be read
pub kind_readable : (found : Form) (cs : List ℕ) (n : ℕ) (t : TokenKind) → found ≡ form_of cs → IsKind found cs n t → slice_index cs 0 ≡ unreadable → ⊥
kind_readable found cs n t e k cut = by_form found (stray_of found cs 0 e refl cut) k
  where
    by_form : (f : Form) → IsStray f → IsKind f cs n t → ⊥
    by_form form.Blank s k = s
    by_form form.LineEnd s k = s
    by_form form.Join s k = s
    by_form form.Comment s k = s
    by_form form.Word s k = s
    by_form form.Number s k = s
    by_form form.Text s k = s
    by_form form.Sign s k = s
    by_form form.Stray s k = k

-- Where the line begins

pub first_start : (text : List ℕ) (r : Reader) (found : Form) (to : ℕ) (x : IsReached text r) → IsPiece (characters text) (piece_at found r.at.index to) → IsTrue (is_content found)
    → start_of (x.rest ++ piece_at found r.at.index to ∷ []) ≡ r.start.index
first_start text r found to x is_q content =
    let q = piece_at found r.at.index to in
    let some : has_content (x.rest ++ q ∷ []) ≡ true = has_content-append x.rest (q ∷ []) ∙ or_right (has_content x.rest) (is_content found || false) (or_left (is_content found) false content) in
    start_at (characters text) r.start.index to (x.rest ++ q ∷ []) some (between_append (characters text) r.start.index r.at.index to x.rest (q ∷ []) x.held.line_rest (refl, is_q, refl))

-- what is known of the indentation of the line when a piece with content is read
pub record IsTold (text : List ℕ) (r : Reader) (m : Option Breach) : Type 0 where
  pub started : r.started ≡ true → m ≡ None
  pub finding : (levels : List ℕ) → r.levels.items ≡ open_levels levels → r.last_level ≡ last_level levels → r.started ≡ false → IsIndentationFinding (characters text) levels r.start.index m

-- what the finding says in terms of the pieces
pub indented_finding : (text : List ℕ) (r : Reader) (m : Option Breach) (x : IsReached text r) → IsTold text r m → has_content x.rest ≡ false → IsIndentationFinding (characters text) (levels_of (characters text) x.lines) r.start.index m
indented_finding text r m x told none =
    told.finding (levels_of (characters text) x.lines)
    (x.held.levels ∙ ap open_levels (levels_before (characters text) x.lines x.rest none))
    (x.held.last_level ∙ ap last_level (levels_before (characters text) x.lines x.rest none))
    (x.held.started ∙ none)

abbrev IsSome : Option Breach → Type 0
IsSome None = ⊥
IsSome (Some b) = Unit {0}

-- a breach of the indentation breaks a rule of the line, before all others of its line
record IsLineBreach (text : List ℕ) (levels : List ℕ) (rest : List Piece) (q : Piece) (b : Breach) : Type 0 where
  none : has_content rest ≡ false
  holds : BreaksIndented (characters text) levels rest (rest ++ q ∷ []) b.rule b.at
  first : (other j : ℕ) → BreaksIndented (characters text) levels rest (rest ++ q ∷ []) other j → IsNotAfter b.rule b.at other j

line_breach : (text : List ℕ) (r : Reader) (found : Form) (to : ℕ) (b : Breach) (x : IsReached text r) → IsTold text r (Some b) → IsPiece (characters text) (piece_at found r.at.index to) → IsTrue (is_content found)
    → IsLineBreach text (levels_of (characters text) x.lines) x.rest (piece_at found r.at.index to) b
line_breach text r found to b x told is_q content = elim (content_cases (has_content x.rest)) [
  | inl some ↦ absurd (subst IsSome (told.started (x.held.started ∙ some)) tt)
  | inr none ↦ (
      let cs = characters text in
      let levels = levels_of cs x.lines in
      let pieces : List Piece = x.rest ++ piece_at found r.at.index to ∷ [] in
      let f = indented_finding text r (Some b) x told none in
      let s : start_of pieces ≡ r.start.index = first_start text r found to x is_q content in
      let at : b.at ≡ indentation_end cs pieces = f.0 ∙ ap (indented_to cs) (sym s) in
      record {
        none = none;
        holds = (none, at, subst (λ i. IsMisindented cs levels (level_of cs pieces) b.rule i) at (subst (λ start. IsMisindented cs levels (level_from cs start) b.rule b.at) (sym s) f.1));
        first = λ other j c. inr (
          at ∙ sym c.1,
          f.2 other (subst (λ start. IsMisindented cs levels (level_from cs start) other b.at) s (subst (λ i. IsMisindented cs levels (level_of cs pieces) other i) (sym at) c.2)),
        );
      }
      )
]

no_line_breach : (text : List ℕ) (r : Reader) (found : Form) (to : ℕ) (x : IsReached text r) → IsTold text r None → IsPiece (characters text) (piece_at found r.at.index to) → IsTrue (is_content found)
    → (other j : ℕ) → BreaksIndented (characters text) (levels_of (characters text) x.lines) x.rest (x.rest ++ piece_at found r.at.index to ∷ []) other j → ⊥
no_line_breach text r found to x told is_q content other j c =
    let cs = characters text in
    let levels = levels_of cs x.lines in
    let pieces : List Piece = x.rest ++ piece_at found r.at.index to ∷ [] in
    let s : start_of pieces ≡ r.start.index = first_start text r found to x is_q content in
    indented_finding text r None x told c.0 other (subst (λ start. IsMisindented cs levels (level_from cs start) other (indented_to cs start)) s c.2)

-- a broken rule, and where the reader may tell its place from
pub record IsRefused (text : List ℕ) (r : Reader) (b : Breach) : Type 0 where
  pub first : IsFirstBreak (characters text) b.rule b.at
  pub forward : r.start.index ≤ b.at
  pub within : b.at ≤ length (characters text)

at_first : (cs : List ℕ) (from k : ℕ) → slice_index (drop from cs) k ≡ slice_index cs (from + k)
at_first cs from k = get_or-drop from cs k 0

line_end_by : (text : List ℕ) (r : Reader) (found : Form) (to : ℕ) (b : Breach) (x : IsReached text r) → IsPiece (characters text) (piece_at found r.at.index to) → IsTrue (is_content found)
    → IsLineBreach text (levels_of (characters text) x.lines) x.rest (piece_at found r.at.index to) b → (r.start.index ≤ b.at) × (b.at ≤ r.at.index)
line_end_by text r found to b x is_q content l =
    let cs = characters text in
    let pieces : List Piece = x.rest ++ piece_at found r.at.index to ∷ [] in
    let s : start_of pieces ≡ r.start.index = first_start text r found to x is_q content in
    (omega (arith, l.holds.1, s), omega (arith, l.holds.1, end_before_content cs x.lines x.rest (piece_at found r.at.index to) x.lexed.cut is_q content))

-- a token whose line breaks a rule by its indentation
pub misindented_first : (text : List ℕ) (r : Reader) (found : Form) (to : ℕ) (t : TokenKind) (b : Breach) (x : IsReached text r) → IsTold text r (Some b)
    → found ≡ form_of (drop r.at.index (characters text)) → EndsAt found (characters text) r.at.index to → IsTrue (is_content found) → IsKind found (drop r.at.index (characters text)) (to - r.at.index) t
    → IsRefused text r b
misindented_first text r found to t b x told e ends content k =
    let cs = characters text in
    let from = r.at.index in
    let q = piece_at found from to in
    let is_q : IsPiece cs q = piece_stands found cs from to e ends in
    let l = line_breach text r found to b x told is_q content in
    let by = line_end_by text r found to b x is_q content l in
    record {
      first = first_of_step cs x.lines x.rest q x.lexed.cut is_q x.lexed.clean content (content_ends_no_line found content) b.rule b.at (inr (inr l.holds)) (all e k ends l by.1) (omega (arith, by.1, ends.forward));
      forward = by.0;
      within = omega (arith, by.1, ends.forward, ends.within);
    }
  where
    all : found ≡ form_of (drop r.at.index (characters text)) → IsKind found (drop r.at.index (characters text)) (to - r.at.index) t → EndsAt found (characters text) r.at.index to
        → IsLineBreach text (levels_of (characters text) x.lines) x.rest (piece_at found r.at.index to) b → b.at ≤ r.at.index
        → (other j : ℕ) → StepBreaks (characters text) x.lines x.rest (piece_at found r.at.index to) other j → IsNotAfter b.rule b.at other j
    all e k ends l le other j (inl c) = elim (cases_lt r.at.index j) [
      | inl behind ↦ inl (omega (arith, le, behind))
      | inr not_behind ↦ (
          let last = unreadable_last text j c.1.0 c.1.1 in
          let same : j ≡ r.at.index + 0 = omega (arith, not_behind, last, ends.forward, ends.within) in
          absurd (kind_readable found (drop r.at.index (characters text)) (to - r.at.index) t e k (at_first (characters text) r.at.index 0 ∙ subst (λ i. slice_index (characters text) i ≡ unreadable) same c.1.1))
          )
    ]
    all e k ends l le other j (inr (inl c)) = absurd (kind_clean found (drop r.at.index (characters text)) (to - r.at.index) t other c.0 k c.2)
    all e k ends l le other j (inr (inr c)) = l.first other j c

-- a piece that breaks a rule, or that is cut off, by itself
record IsOwnBreach (text : List ℕ) (r : Reader) (found : Form) (to : ℕ) (b : Breach) : Type 0 where
  holds : CantBeRead (characters text) b.rule b.at ⊎ OwnBreaks (characters text) (piece_at found r.at.index to) b.rule b.at
  unread : (other j : ℕ) → CantBeRead (characters text) other j → IsNotAfter b.rule b.at other j
  own : (other j : ℕ) → OwnBreaks (characters text) (piece_at found r.at.index to) other j → IsNotAfter b.rule b.at other j
  behind : r.at.index ≤ b.at
  near : b.at ≤ to

shifted : (rule index other i from at j : ℕ) → at ≡ from + index → j ≡ from + i → IsNotAfter rule index other i → IsNotAfter rule at other j
shifted rule index other i from at j a b (inl less) = inl (omega (arith, a, b, less))
shifted rule index other i from at j a b (inr same) = inr (omega (arith, a, b, same.0), same.1)

first_breach : (text : List ℕ) (r : Reader) (found : Form) (to : ℕ) (b : Breach) → found ≡ form_of (drop r.at.index (characters text)) → EndsAt found (characters text) r.at.index to
    → IsFirstBreach found (characters text) r.at.index to b → IsOwnBreach text r found to b
first_breach text r found to b e ends f =
    let inside = breaks_inside found (drop r.at.index (characters text)) (to - r.at.index) b.rule f.index ends.whole (omega (arith, ends.forward)) f.broken in
    record {
      holds = inr (f.index, f.placed, f.broken);
      unread = λ other j c. unread inside other j c;
      own = λ other j c. shifted b.rule f.index other c.0 r.at.index b.at j f.placed c.1 (f.first other c.0 c.2);
      behind = omega (arith, f.placed);
      near = omega (arith, f.placed, inside, ends.forward);
    }
  where
    unread : f.index < to - r.at.index → (other j : ℕ) → CantBeRead (characters text) other j → IsNotAfter b.rule b.at other j
    unread inside other j c = elim (cases_lt b.at j) [
      | inl less ↦ inl less
      | inr not_less ↦ (
          let last = unreadable_last text j c.1.0 c.1.1 in
          let same : j ≡ r.at.index + f.index = omega (arith, not_less, last, f.placed, inside, ends.forward, ends.within) in
          absurd (break_readable found (drop r.at.index (characters text)) (to - r.at.index) b.rule f.index e f.broken (at_first (characters text) r.at.index f.index ∙ subst (λ i. slice_index (characters text) i ≡ unreadable) same c.1.1))
          )
    ]

cut_breach : (text : List ℕ) (r : Reader) (found : Form) (to : ℕ) (b : Breach) → IsCutOff found (characters text) r.at.index to b → IsOwnBreach text r found to b
cut_breach text r found to b f = record {
  holds = inl (f.rule, f.unreadable);
  unread = λ other j c. inr (omega (arith, unreadable_last text b.at f.unreadable.0 f.unreadable.1, unreadable_last text j c.1.0 c.1.1), omega (arith, f.rule, c.0));
  own = λ other j c. absurd (f.clean other c.0 c.2);
  behind = f.behind;
  near = f.near;
}

own_breach : (text : List ℕ) (r : Reader) (found : Form) (to : ℕ) (b : Breach) → found ≡ form_of (drop r.at.index (characters text)) → EndsAt found (characters text) r.at.index to
    → IsFirstBreach found (characters text) r.at.index to b ⊎ IsCutOff found (characters text) r.at.index to b → IsOwnBreach text r found to b
own_breach text r found to b e ends (inl f) = first_breach text r found to b e ends f
own_breach text r found to b e ends (inr f) = cut_breach text r found to b f

in_step : (cs : List ℕ) (lines : List Line) (rest : List Piece) (q : Piece) (rule i : ℕ) → CantBeRead cs rule i ⊎ OwnBreaks cs q rule i → StepBreaks cs lines rest q rule i
in_step cs lines rest q rule i (inl c) = inl c
in_step cs lines rest q rule i (inr c) = inr (inl c)

-- a piece that breaks a rule, beside what its line breaks
pub breach_first : (text : List ℕ) (r : Reader) (found : Form) (to : ℕ) (m : Option Breach) (b first : Breach) (x : IsReached text r) → IsTold text r m
    → found ≡ form_of (drop r.at.index (characters text)) → EndsAt found (characters text) r.at.index to → IsTrue (is_content found)
    → IsFirstBreach found (characters text) r.at.index to b ⊎ IsCutOff found (characters text) r.at.index to b → IsEarlier m b first → IsRefused text r first
breach_first text r found to None b first x told e ends content f early =
    let cs = characters text in
    let q = piece_at found r.at.index to in
    let is_q : IsPiece cs q = piece_stands found cs r.at.index to e ends in
    let o = own_breach text r found to b e ends f in
    let start = between_forward cs r.start.index r.at.index x.rest x.held.line_rest in
    subst (λ (c : Breach). IsRefused text r c) (sym early) (record {
      first = first_of_step cs x.lines x.rest q x.lexed.cut is_q x.lexed.clean content (content_ends_no_line found content) b.rule b.at (in_step cs x.lines x.rest q b.rule b.at o.holds)
          (all o (no_line_breach text r found to x told is_q content)) o.near;
      forward = omega (arith, start, o.behind);
      within = omega (arith, o.near, ends.within);
    })
  where
    all : IsOwnBreach text r found to b → ((other j : ℕ) → BreaksIndented (characters text) (levels_of (characters text) x.lines) x.rest (x.rest ++ piece_at found r.at.index to ∷ []) other j → ⊥)
        → (other j : ℕ) → StepBreaks (characters text) x.lines x.rest (piece_at found r.at.index to) other j → IsNotAfter b.rule b.at other j
    all o none other j (inl c) = o.unread other j c
    all o none other j (inr (inl c)) = o.own other j c
    all o none other j (inr (inr c)) = absurd (none other j c)
breach_first text r found to (Some a) b first x told e ends content f early =
    let cs = characters text in
    let q = piece_at found r.at.index to in
    let is_q : IsPiece cs q = piece_stands found cs r.at.index to e ends in
    let o = own_breach text r found to b e ends f in
    let l = line_breach text r found to a x told is_q content in
    let by = line_end_by text r found to a x is_q content l in
    elim early [
      | inl of_line ↦ subst (λ (c : Breach). IsRefused text r c) (sym of_line.0) (record {
        first = first_of_step cs x.lines x.rest q x.lexed.cut is_q x.lexed.clean content (content_ends_no_line found content) a.rule a.at (inr (inr l.holds)) (line_first o l of_line.1) (omega (arith, by.1, ends.forward));
        forward = by.0;
        within = omega (arith, by.1, ends.forward, ends.within);
      })
      | inr of_piece ↦ subst (λ (c : Breach). IsRefused text r c) (sym of_piece.0) (record {
        first = first_of_step cs x.lines x.rest q x.lexed.cut is_q x.lexed.clean content (content_ends_no_line found content) b.rule b.at (in_step cs x.lines x.rest q b.rule b.at o.holds) (piece_first o l of_piece.1) o.near;
        forward = omega (arith, by.0, by.1, o.behind);
        within = omega (arith, o.near, ends.within);
      })
    ]
  where
    line_first : IsOwnBreach text r found to b → IsLineBreach text (levels_of (characters text) x.lines) x.rest (piece_at found r.at.index to) a → IsNotAfter a.rule a.at b.rule b.at
        → (other j : ℕ) → StepBreaks (characters text) x.lines x.rest (piece_at found r.at.index to) other j → IsNotAfter a.rule a.at other j
    line_first o l le other j (inl c) = not_after_trans a.rule a.at b.rule b.at other j le (o.unread other j c)
    line_first o l le other j (inr (inl c)) = not_after_trans a.rule a.at b.rule b.at other j le (o.own other j c)
    line_first o l le other j (inr (inr c)) = l.first other j c

    piece_first : IsOwnBreach text r found to b → IsLineBreach text (levels_of (characters text) x.lines) x.rest (piece_at found r.at.index to) a → IsNotAfter b.rule b.at a.rule a.at
        → (other j : ℕ) → StepBreaks (characters text) x.lines x.rest (piece_at found r.at.index to) other j → IsNotAfter b.rule b.at other j
    piece_first o l le other j (inl c) = o.unread other j c
    piece_first o l le other j (inr (inl c)) = o.own other j c
    piece_first o l le other j (inr (inr c)) = not_after_trans b.rule b.at a.rule a.at other j le (l.first other j c)

-- By the characters of a source

pub told_in : (text cs : List ℕ) (r : Reader) (m : Option Breach) → cs ≡ characters text → (r.started ≡ true → m ≡ None)
    → ((levels : List ℕ) → r.levels.items ≡ open_levels levels → r.last_level ≡ last_level levels → r.started ≡ false → IsIndentationFinding cs levels r.start.index m) → IsTold text r m
told_in text cs r m whole started finding = record {
  started = started;
  finding = λ levels a b f. subst (λ xs. IsIndentationFinding xs levels r.start.index m) whole (finding levels a b f);
}

pub first_in : (text cs : List ℕ) (r : Reader) (b : Breach) → cs ≡ characters text → IsRefused text r b → IsFirst (BreaksCharacters cs) (Some (refusal_at cs b.rule b.at))
first_in text cs r b whole refused = subst (λ xs. IsFirst (BreaksCharacters xs) (Some (refusal_at xs b.rule b.at))) (sym whole) (is_first (characters text) b.rule b.at refused.first)

pub misindented_in : (text cs : List ℕ) (r : Reader) (found : Form) (to : ℕ) (t : TokenKind) (b : Breach) → cs ≡ characters text → IsReached text r → IsTold text r (Some b)
    → found ≡ form_of (drop r.at.index cs) → EndsAt found cs r.at.index to → IsTrue (is_content found) → IsKind found (drop r.at.index cs) (to - r.at.index) t → IsRefused text r b
misindented_in text cs r found to t b whole x told e ends content k =
    misindented_first text r found to t b x told (subst (λ xs. found ≡ form_of (drop r.at.index xs)) whole e) (subst (λ xs. EndsAt found xs r.at.index to) whole ends) content
    (subst (λ xs. IsKind found (drop r.at.index xs) (to - r.at.index) t) whole k)

pub breach_in : (text cs : List ℕ) (r : Reader) (found : Form) (to : ℕ) (m : Option Breach) (b first : Breach) → cs ≡ characters text → IsReached text r → IsTold text r m
    → found ≡ form_of (drop r.at.index cs) → EndsAt found cs r.at.index to → IsTrue (is_content found)
    → IsFirstBreach found cs r.at.index to b ⊎ IsCutOff found cs r.at.index to b → IsEarlier m b first → IsRefused text r first
breach_in text cs r found to m b first whole x told e ends content f early =
    breach_first text r found to m b first x told (subst (λ xs. found ≡ form_of (drop r.at.index xs)) whole e) (subst (λ xs. EndsAt found xs r.at.index to) whole ends) content
    (subst (λ xs. IsFirstBreach found xs r.at.index to b ⊎ IsCutOff found xs r.at.index to b) whole f) early
