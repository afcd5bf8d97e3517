-- What one more piece does to a text that is read up to it.
use Rattle.std.proofs.Common.{◌≡◌, ℕ, ◌-◌, ◌<◌, ◌⊎◌, inl, inr, Bool, true, false, ◌||◌, List, [], ◌∷◌, ◌++◌, flat_map, drop, refl, sym, ap, subst, ◌∙◌, append_assoc}
use Rattle.std.specs.Prelude.{◌≢◌, IsTrue, IsFalse, MatchBool, filter, slice_index, if◌then◌else◌}
use Rattle.std.specs.List.{AllZip}
use Rattle.std.proofs.lemmas.Bool.{false≢true}
use Rattle.std.proofs.lemmas.List.{append-nil}
use Rattle.std.proofs.lemmas.List.Elements.{filter-append, All-push}
use Rattle.std.proofs.lemmas.Grind.{flat_map-append}
use Rattle.px_lexer.specs.declared.forms.Form.{Form}
use Rattle.px_lexer.specs.declared.token_list.Token.{Token}
use Rattle.px_lexer.specs.Characters.{characters}
use Rattle.px_lexer.specs.Pieces.{Piece, IsPiece, AreBetween, is_content, is_line_end}
use Rattle.px_lexer.specs.Lines.{Line, IsLine, AreLines, GoesOn, pieces_of, has_content, start_of, level_from, indented_to, level_of, own_level, levels_of, indentation_end, depth_after, Lands, IsIndented}
use Rattle.px_lexer.specs.Tokens.{IsTokenOf, newline_at, indentation_tokens, tokens_before_line, AreOfLine, AreOfLines}
use Rattle.px_lexer.specs.Refusals.{BreaksIn, bad_character, bad_word, bad_number, float_literal, literal_too_wide, bad_escape, string_not_ended, IsMisindented, form_feed, tab, no_level}
use Rattle.px_lexer.specs.Reached.{IsClean, AreOfBegun, AreOfFront, IsLexed}
use Rattle.px_lexer.proofs.Cuts.{SplitCases, same, shorter, longer, split_cases, between_append}
use Rattle.px_lexer.proofs.Breaks.{start_kept, content_cases, has_content-append, clean_behind}

-- Lines that go on

too_long : {A : Type 0} (xs : List A) (x y : A) (us vs : List A) → xs ++ x ∷ [] ≡ (xs ++ x ∷ us) ++ y ∷ vs → ⊥
too_long [] x y [] vs e = no_cons e
  where
    no_cons : x ∷ [] ≡ x ∷ y ∷ vs → ⊥
    no_cons p = cc
too_long [] x y (u ∷ us) vs e = no_cons e
  where
    no_cons : x ∷ [] ≡ x ∷ u ∷ (us ++ y ∷ vs) → ⊥
    no_cons p = cc
too_long {A} (z ∷ xs) x y us vs e = too_long xs x y us vs (let t : xs ++ x ∷ [] ≡ (xs ++ x ∷ us) ++ y ∷ vs = cc in t)

pub goes_on_more : (cs : List ℕ) (rest : List Piece) (q : Piece) → GoesOn cs rest → (IsTrue (is_line_end q.form) → 0 < depth_after cs 0 rest) → GoesOn cs (rest ++ q ∷ [])
goes_on_more cs rest q g inside before after piece e ends = by_cases (split_cases rest before q piece [] after e)
  where
    by_cases : SplitCases rest before q piece [] after → 0 < depth_after cs 0 before
    by_cases (same p r s) = subst (λ ps. 0 < depth_after cs 0 ps) p (inside (subst (λ (x : Piece). IsTrue (is_line_end x.form)) (sym r) ends))
    by_cases (shorter ws p) = absurd (too_long rest q piece ws after (e ∙ ap (λ ps. ps ++ piece ∷ after) p))
    by_cases (longer ws p) = g before ws piece p ends

pub goes_on_none : (cs : List ℕ) → GoesOn cs []
goes_on_none cs [] after piece e ends = absurd (let t : ⊥ = cc in t)
goes_on_none cs (b ∷ before) after piece e ends = absurd (let t : ⊥ = cc in t)

pub cut_more : (cs : List ℕ) (lines : List Line) (rest : List Piece) (q : Piece) → AreLines cs lines rest q.from → IsPiece cs q → (IsTrue (is_line_end q.form) → 0 < depth_after cs 0 rest) → AreLines cs lines (rest ++ q ∷ []) q.to
cut_more cs lines rest q a is_q inside = record {
  pieces = subst (λ ps. AreBetween cs 0 ps q.to) (append_assoc (flat_map pieces_of lines) rest (q ∷ []))
      (between_append cs 0 q.from q.to (flat_map pieces_of lines ++ rest) (q ∷ []) a.pieces (refl, is_q, refl));
  ended = a.ended;
  goes_on = goes_on_more cs rest q a.goes_on inside;
}

pub flat_one : (lines : List Line) (rest : List Piece) (q : Piece) → (flat_map pieces_of lines ++ rest) ++ q ∷ [] ≡ flat_map pieces_of (lines ++ record { pieces = rest; ending = q } ∷ []) ++ []
flat_one lines rest q =
    append_assoc (flat_map pieces_of lines) rest (q ∷ [])
    ∙ ap (λ ps. flat_map pieces_of lines ++ ps) (sym (append-nil (rest ++ q ∷ [])))
    ∙ sym (flat_map-append pieces_of lines (record { pieces = rest; ending = q } ∷ []))
    ∙ sym (append-nil (flat_map pieces_of (lines ++ record { pieces = rest; ending = q } ∷ [])))

cut_line : (cs : List ℕ) (lines : List Line) (rest : List Piece) (q : Piece) → AreLines cs lines rest q.from → IsPiece cs q → IsTrue (is_line_end q.form) → depth_after cs 0 rest ≡ 0
    → AreLines cs (lines ++ record { pieces = rest; ending = q } ∷ []) [] q.to
cut_line cs lines rest q a is_q ends outside = record {
  pieces = subst (λ ps. AreBetween cs 0 ps q.to) (flat_one lines rest q)
      (between_append cs 0 q.from q.to (flat_map pieces_of lines ++ rest) (q ∷ []) a.pieces (refl, is_q, refl));
  ended = All-push (IsLine cs) lines (record { pieces = rest; ending = q }) a.ended (record { goes_on = a.goes_on; ended = ends; outside = outside });
  goes_on = goes_on_none cs;
}

-- What breaks nothing

pub gap_breaks_nothing : (found : Form) (cs : List ℕ) (n rule i : ℕ) → IsFalse (is_content found) → BreaksIn found cs n rule i → ⊥
gap_breaks_nothing found cs n rule i gap (bad_character f r p b) = absurd (false≢true (sym gap ∙ ap is_content f))
gap_breaks_nothing found cs n rule i gap (bad_word f r p b) = absurd (false≢true (sym gap ∙ ap is_content f))
gap_breaks_nothing found cs n rule i gap (bad_number f r p b) = absurd (false≢true (sym gap ∙ ap is_content f))
gap_breaks_nothing found cs n rule i gap (float_literal f r p b) = absurd (false≢true (sym gap ∙ ap is_content f))
gap_breaks_nothing found cs n rule i gap (literal_too_wide f r p b) = absurd (false≢true (sym gap ∙ ap is_content f))
gap_breaks_nothing found cs n rule i gap (bad_escape f r b) = absurd (false≢true (sym gap ∙ ap is_content f))
gap_breaks_nothing found cs n rule i gap (string_not_ended f r p b) = absurd (false≢true (sym gap ∙ ap is_content f))

gap_clean : (cs : List ℕ) (lines : List Line) (rest : List Piece) (q : Piece) → AreLines cs lines rest q.from → IsPiece cs q → IsClean cs q.from → IsFalse (is_content q.form) → IsClean cs q.to
gap_clean cs lines rest q a is_q clean gap =
    clean_behind cs lines rest q a is_q clean (λ rule i b. gap_breaks_nothing q.form (drop q.from cs) (q.to - q.from) rule i gap b) (λ content none rule m. absurd (false≢true (sym gap ∙ content)))

-- a line that is indented rightly breaks nothing by it
pub indented_breaks_nothing : (cs levels : List ℕ) (ps : List Piece) (rule : ℕ) → IsIndented cs levels ps → IsMisindented cs levels (level_of cs ps) rule (indentation_end cs ps) → ⊥
indented_breaks_nothing cs levels ps rule i (form_feed r e) = i.no_feed e
indented_breaks_nothing cs levels ps rule i (tab r e) = i.no_tab e
indented_breaks_nothing cs levels ps rule i (no_level r e) = e i.lands

-- a line that breaks nothing by its indentation is indented rightly, where it can be said whether its level is open
pub indented_of_clean : (cs levels : List ℕ) (ps : List Piece) → (Lands levels (level_of cs ps)) ⊎ (Lands levels (level_of cs ps) → ⊥)
    → ((rule : ℕ) → IsMisindented cs levels (level_of cs ps) rule (indentation_end cs ps) → ⊥) → IsIndented cs levels ps
indented_of_clean cs levels ps (inl l) clean = record { lands = l; no_tab = λ e. clean 3 (tab refl e); no_feed = λ e. clean 2 (form_feed refl e) }
indented_of_clean cs levels ps (inr n) clean = absurd (clean 3 (no_level refl n))

-- Tokens of a line that isn't ended

pub front_with : (text levels : List ℕ) (pieces : List Piece) (tokens : List Token) → has_content pieces ≡ true → AreOfBegun text levels pieces tokens → AreOfFront text levels pieces tokens
front_with text levels pieces tokens e b = subst (λ t. MatchBool t (AreOfBegun text levels pieces tokens) (tokens ≡ [])) (sym e) b

pub front_without : (text levels : List ℕ) (pieces : List Piece) (tokens : List Token) → has_content pieces ≡ false → tokens ≡ [] → AreOfFront text levels pieces tokens
front_without text levels pieces tokens e b = subst (λ t. MatchBool t (AreOfBegun text levels pieces tokens) (tokens ≡ [])) (sym e) b

pub begun_of : (text levels : List ℕ) (pieces : List Piece) (tokens : List Token) → has_content pieces ≡ true → AreOfFront text levels pieces tokens → AreOfBegun text levels pieces tokens
begun_of text levels pieces tokens e b = subst (λ t. MatchBool t (AreOfBegun text levels pieces tokens) (tokens ≡ [])) e b

pub none_of : (text levels : List ℕ) (pieces : List Piece) (tokens : List Token) → has_content pieces ≡ false → AreOfFront text levels pieces tokens → tokens ≡ []
none_of text levels pieces tokens e b = subst (λ t. MatchBool t (AreOfBegun text levels pieces tokens) (tokens ≡ [])) e b

pub or_left : (b c : Bool) → b ≡ true → (b || c) ≡ true
or_left true c e = refl
or_left false c e = absurd (false≢true e)

pub or_right : (b c : Bool) → c ≡ true → (b || c) ≡ true
or_right true c e = refl
or_right false c e = e

or_neither : (b c : Bool) → b ≡ false → c ≡ false → (b || c) ≡ false
or_neither true c e f = e
or_neither false c e f = f

indented_from : (cs levels : List ℕ) (ps qs : List Piece) → start_of ps ≡ start_of qs → IsIndented cs levels ps → IsIndented cs levels qs
indented_from cs levels ps qs e i = record {
  lands = subst (λ start. Lands levels (level_from cs start)) e i.lands;
  no_tab = subst (λ start. slice_index cs (indented_to cs start) ≢ 9) e i.no_tab;
  no_feed = subst (λ start. slice_index cs (indented_to cs start) ≢ 12) e i.no_feed;
}

-- the changes of level at the start of a line hang on its first piece alone
before_line_kept : (text levels : List ℕ) (ps qs : List Piece) → start_of ps ≡ start_of qs → tokens_before_line text levels ps ≡ tokens_before_line text levels qs
before_line_kept text levels ps qs e = ap (λ start. indentation_tokens text levels (level_from (characters text) start) (indented_to (characters text) start)) e

-- A piece that gives nothing

without_gap : (ps : List Piece) (q : Piece) → is_content q.form ≡ false → filter (λ (p : Piece). is_content p.form) (ps ++ q ∷ []) ≡ filter (λ (p : Piece). is_content p.form) ps
without_gap ps q e = filter-append (λ (p : Piece). is_content p.form) ps (q ∷ []) ∙ rw e (append-nil _)

front_gap : (text levels : List ℕ) (rest : List Piece) (q : Piece) (tokens : List Token) → is_content q.form ≡ false → AreOfFront text levels rest tokens → AreOfFront text levels (rest ++ q ∷ []) tokens
front_gap text levels rest q tokens e f = elim (content_cases (has_content rest)) [
  | inl some ↦ (
      let b = begun_of text levels rest tokens some f in
      let start : start_of rest ≡ start_of (rest ++ q ∷ []) = sym (start_kept rest (q ∷ []) some) in
      front_with text levels (rest ++ q ∷ []) tokens (has_content-append rest (q ∷ []) ∙ or_left _ _ some) (record {
        indented = indented_from (characters text) levels rest (rest ++ q ∷ []) start b.indented;
        spelled = b.spelled;
        each = subst (λ ps. AllZip (IsTokenOf text) ps b.spelled) (sym (without_gap rest q e)) b.each;
        all = b.all ∙ ap (λ ts. ts ++ b.spelled) (before_line_kept text levels rest (rest ++ q ∷ []) start);
      })
      )
  | inr none ↦ front_without text levels (rest ++ q ∷ []) tokens (has_content-append rest (q ∷ []) ∙ or_neither _ _ none (or_neither _ _ e refl)) (none_of text levels rest tokens none f)
]

pub lexed_gap : (text : List ℕ) (lines : List Line) (rest : List Piece) (of_lines of_rest : List Token) (q : Piece) → IsLexed text q.from lines rest of_lines of_rest → IsPiece (characters text) q
    → IsFalse (is_content q.form) → (IsTrue (is_line_end q.form) → 0 < depth_after (characters text) 0 rest) → IsLexed text q.to lines (rest ++ q ∷ []) of_lines of_rest
lexed_gap text lines rest of_lines of_rest q x is_q gap inside = record {
  cut = cut_more (characters text) lines rest q x.cut is_q inside;
  ended = x.ended;
  begun = front_gap text (levels_of (characters text) lines) rest q of_rest gap x.begun;
  clean = gap_clean (characters text) lines rest q x.cut is_q x.clean gap;
}

-- The end of a line

-- the tokens that the end of a line adds
abbrev pub line_end_tokens : List ℕ → List Piece → Piece → List Token
line_end_tokens text rest q = if has_content rest then newline_at text q ∷ [] else []

line_of_front : (text levels : List ℕ) (rest : List Piece) (q : Piece) (tokens : List Token) → AreOfFront text levels rest tokens → AreOfLine text levels rest (newline_at text q) (tokens ++ line_end_tokens text rest q)
line_of_front text levels rest q tokens f = elim (content_cases (has_content rest)) [
  | inl some ↦ (
      let b = begun_of text levels rest tokens some f in
      rw some (record {
        indented = b.indented;
        spelled = b.spelled;
        each = b.each;
        all = ap (λ ts. ts ++ newline_at text q ∷ []) b.all;
      })
      )
  | inr none ↦ rw none (append-nil tokens ∙ none_of text levels rest tokens none f)
]

lines_more : (text levels : List ℕ) (lines : List Line) (line : Line) (tokens own : List Token) → AreOfLines text levels lines tokens
    → AreOfLine text (levels ++ levels_of (characters text) lines) line.pieces (newline_at text line.ending) own → AreOfLines text levels (lines ++ line ∷ []) (tokens ++ own)
lines_more text levels [] line tokens own a o =
    (own, [], ap (λ ts. ts ++ own) a ∙ sym (append-nil own), subst (λ ls. AreOfLine text ls line.pieces (newline_at text line.ending) own) (append-nil levels) o, refl)
lines_more text levels (l ∷ ls) line tokens own a o =
    let there = subst (λ xs. AreOfLine text xs line.pieces (newline_at text line.ending) own) (sym (append_assoc levels (own_level (characters text) l.pieces) (levels_of (characters text) ls))) o in
    (a.0, a.1 ++ own, ap (λ ts. ts ++ own) a.2 ∙ append_assoc a.0 a.1 own, a.3, lines_more text (levels ++ own_level (characters text) l.pieces) ls line a.1 own a.4 there)

pub lexed_line : (text : List ℕ) (lines : List Line) (rest : List Piece) (of_lines of_rest : List Token) (q : Piece) → IsLexed text q.from lines rest of_lines of_rest → IsPiece (characters text) q
    → IsFalse (is_content q.form) → IsTrue (is_line_end q.form) → depth_after (characters text) 0 rest ≡ 0
    → IsLexed text q.to (lines ++ record { pieces = rest; ending = q } ∷ []) [] (of_lines ++ (of_rest ++ line_end_tokens text rest q)) []
lexed_line text lines rest of_lines of_rest q x is_q gap ends outside = record {
  cut = cut_line (characters text) lines rest q x.cut is_q ends outside;
  ended = lines_more text [] lines (record { pieces = rest; ending = q }) of_lines (of_rest ++ line_end_tokens text rest q) x.ended
      (line_of_front text (levels_of (characters text) lines) rest q of_rest x.begun);
  begun = refl;
  clean = gap_clean (characters text) lines rest q x.cut is_q x.clean gap;
}

-- A token

zip_more : {A B : Type 0} (R : A → B → Type 0) (xs : List A) (ys : List B) (x : A) (y : B) → AllZip R xs ys → R x y → AllZip R (xs ++ x ∷ []) (ys ++ y ∷ [])
zip_more R [] [] x y z r = (r, tt)
zip_more R [] (b ∷ ys) x y z r = absurd z
zip_more R (a ∷ xs) [] x y z r = absurd z
zip_more R (a ∷ xs) (b ∷ ys) x y z r = (z.0, zip_more R xs ys x y z.1 r)

nothing_in : (ps : List Piece) → has_content ps ≡ false → filter (λ (p : Piece). is_content p.form) ps ≡ []
nothing_in [] e = refl
nothing_in (p ∷ ps) e = by_cases (is_content p.form) e (nothing_in ps)
  where
    by_cases : (b : Bool) → (b || has_content ps) ≡ false → (has_content ps ≡ false → filter (λ (r : Piece). is_content r.form) ps ≡ []) → (if b then p ∷ filter (λ (r : Piece). is_content r.form) ps else filter (λ (r : Piece). is_content r.form) ps) ≡ []
    by_cases true e rec = absurd (false≢true (sym e))
    by_cases false e rec = rec e

with_token : (ps : List Piece) (q : Piece) → is_content q.form ≡ true → filter (λ (p : Piece). is_content p.form) (ps ++ q ∷ []) ≡ filter (λ (p : Piece). is_content p.form) ps ++ q ∷ []
with_token ps q e = filter-append (λ (p : Piece). is_content p.form) ps (q ∷ []) ∙ rw e refl

-- what a token adds to the tokens of its line: the changes of level where it is the first, and itself
abbrev pub token_with_changes : List ℕ → List ℕ → List Piece → Piece → Token → List Token
token_with_changes text levels rest q token = (if has_content rest then [] else tokens_before_line text levels (rest ++ q ∷ [])) ++ token ∷ []

front_token : (text levels : List ℕ) (rest : List Piece) (q : Piece) (token : Token) (tokens : List Token) → is_content q.form ≡ true → IsTokenOf text q token
    → (IsFalse (has_content rest) → IsIndented (characters text) levels (rest ++ q ∷ [])) → AreOfFront text levels rest tokens
    → AreOfFront text levels (rest ++ q ∷ []) (tokens ++ token_with_changes text levels rest q token)
front_token text levels rest q token tokens e t i f = elim (content_cases (has_content rest)) [
  | inl some ↦ (
      let b = begun_of text levels rest tokens some f in
      let start : start_of rest ≡ start_of (rest ++ q ∷ []) = sym (start_kept rest (q ∷ []) some) in
      rw some (front_with text levels (rest ++ q ∷ []) (tokens ++ token ∷ []) (has_content-append rest (q ∷ []) ∙ or_left _ _ some) (record {
        indented = indented_from (characters text) levels rest (rest ++ q ∷ []) start b.indented;
        spelled = b.spelled ++ token ∷ [];
        each = subst (λ ps. AllZip (IsTokenOf text) ps (b.spelled ++ token ∷ [])) (sym (with_token rest q e)) (zip_more (IsTokenOf text) _ b.spelled q token b.each t);
        all = ap (λ ts. ts ++ token ∷ []) b.all ∙ append_assoc (tokens_before_line text levels rest) b.spelled (token ∷ []) ∙ ap (λ ts. ts ++ (b.spelled ++ token ∷ [])) (before_line_kept text levels rest (rest ++ q ∷ []) start);
      }))
      )
  | inr none ↦ (
      let empty = none_of text levels rest tokens none f in
      rw none (front_with text levels (rest ++ q ∷ []) (tokens ++ (tokens_before_line text levels (rest ++ q ∷ []) ++ token ∷ [])) (has_content-append rest (q ∷ []) ∙ or_right _ _ (or_left _ _ e)) (record {
        indented = i none;
        spelled = token ∷ [];
        each = subst (λ ps. AllZip (IsTokenOf text) ps (token ∷ [])) (sym (with_token rest q e ∙ ap (λ ps. ps ++ q ∷ []) (nothing_in rest none))) (t, tt);
        all = ap (λ ts. ts ++ (tokens_before_line text levels (rest ++ q ∷ []) ++ token ∷ [])) empty;
      }))
      )
]

pub lexed_token : (text : List ℕ) (lines : List Line) (rest : List Piece) (of_lines of_rest : List Token) (q : Piece) (token : Token) → IsLexed text q.from lines rest of_lines of_rest
    → IsPiece (characters text) q → IsTrue (is_content q.form) → IsFalse (is_line_end q.form) → IsTokenOf text q token
    → ((rule i : ℕ) → BreaksIn q.form (drop q.from (characters text)) (q.to - q.from) rule i → ⊥)
    → (IsFalse (has_content rest) → IsIndented (characters text) (levels_of (characters text) lines) (rest ++ q ∷ []))
    → IsLexed text q.to lines (rest ++ q ∷ []) of_lines (of_rest ++ token_with_changes text (levels_of (characters text) lines) rest q token)
lexed_token text lines rest of_lines of_rest q token x is_q content no_end t clean indented = record {
  cut = cut_more (characters text) lines rest q x.cut is_q (λ ends. absurd (false≢true (sym no_end ∙ ends)));
  ended = x.ended;
  begun = front_token text (levels_of (characters text) lines) rest q token of_rest content t indented x.begun;
  clean = clean_behind (characters text) lines rest q x.cut is_q x.clean clean
      (λ c none rule m. indented_breaks_nothing (characters text) (levels_of (characters text) lines) (rest ++ q ∷ []) rule (indented none) m);
}
