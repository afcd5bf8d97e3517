-- Which rule a text breaks first, when all before a piece is clean.
use Rattle.std.proofs.Common.{◌≡◌, ℕ, ◌+◌, ◌-◌, ◌<◌, ◌≤◌, ◌⊎◌, inl, inr, Bool, true, false, ◌||◌, List, [], ◌∷◌, ◌++◌, flat_map, drop, Some, refl, sym, ap, subst, ◌∙◌, arith, append_assoc}
use Rattle.std.proofs.lemmas.Bool.{false≢true, cases_lt}
use Rattle.std.proofs.lemmas.List.Folds.{list_any-append}
use Rattle.std.specs.Prelude.{IsTrue, IsFalse}
use Rattle.px_base.specs.Findings.{comes_first, IsFirst}
use Rattle.px_base.specs.declared.refusals.Refusal.{Refusal}
use Rattle.px_lexer.specs.declared.forms.Form.{Form}
use Rattle.px_lexer.specs.Places.{refusal_at}
use Rattle.px_lexer.specs.Pieces.{Piece, IsPiece, AreBetween, is_content}
use Rattle.px_lexer.specs.Lines.{Line, AreLines, pieces_of, has_content, start_of, level_from, indented_to, level_of, levels_of, indentation_end}
use Rattle.px_lexer.specs.Refusals.{IsNotReadable, BreaksIn, bad_character, bad_word, bad_number, float_literal, literal_too_wide, bad_escape, string_not_ended, BreaksInPiece, BreaksInLine, IsMisindented, form_feed, tab, no_level, BreaksAt, not_utf8, in_piece, in_line, BreaksCharacters}
use Rattle.px_lexer.specs.Readers.{IsNotAfter}
use Rattle.px_lexer.specs.Reached.{IsClean}
use Rattle.px_lexer.proofs.Cuts.{piece_cases, StandsTo, ends_before, has_it, begins_behind, stands_to, between_split, between_forward}
use Rattle.px_lexer.proofs.PlaceLemmas.{comes_first_by_place}

-- Where a line begins

start_front : (rest : List Piece) (q : Piece) (more : List Piece) → start_of (rest ++ q ∷ more) ≡ start_of (rest ++ q ∷ [])
start_front [] q more = refl
start_front (p ∷ ps) q more = refl

pub start_kept : (rest more : List Piece) → IsTrue (has_content rest) → start_of (rest ++ more) ≡ start_of rest
start_kept [] more t = absurd (false≢true t)
start_kept (p ∷ ps) more t = refl

-- What a line breaks, whatever follows its first content

misindented_kept : (cs : List ℕ) (levels : List ℕ) (ps qs : List Piece) (rule i : ℕ) → start_of ps ≡ start_of qs → IsMisindented cs levels (level_of cs ps) rule i → IsMisindented cs levels (level_of cs qs) rule i
misindented_kept cs levels ps qs rule i e m = subst (λ start. IsMisindented cs levels (level_from cs start) rule i) e m

end_kept : (cs : List ℕ) (ps qs : List Piece) → start_of ps ≡ start_of qs → indentation_end cs ps ≡ indentation_end cs qs
end_kept cs ps qs e = ap (λ start. indented_to cs start) e

-- a broken rule of a text that is clean up to a piece: an end that can't be read, one of the piece, one of its line by its first
-- content, or one behind the piece
pub data BreakCases (cs : List ℕ) (lines : List Line) (rest : List Piece) (q : Piece) (other j : ℕ) : Type 0 where
  unreadable : other ≡ 1 → IsNotReadable cs j → BreakCases cs lines rest q other j
  in_it : (index : ℕ) → BreaksIn q.form (drop q.from cs) (q.to - q.from) other index → j ≡ q.from + index → BreakCases cs lines rest q other j
  in_its_line : IsFalse (has_content rest) → j ≡ indentation_end cs (rest ++ q ∷ []) → IsMisindented cs (levels_of cs lines) (level_of cs (rest ++ q ∷ [])) other j → BreakCases cs lines rest q other j
  later : q.to ≤ j → BreakCases cs lines rest q other j

-- a line that had content when the text was clean breaks nothing
line_clean : (cs : List ℕ) (lines : List Line) (rest pieces more : List Piece) (to rule i : ℕ) → AreLines cs lines rest to → IsClean cs to → IsTrue (has_content rest) → pieces ≡ rest ++ more
    → i ≡ indentation_end cs pieces → IsMisindented cs (levels_of cs lines) (level_of cs pieces) rule i → ⊥
line_clean cs lines rest pieces more to rule i a clean content e placed broken =
    let start : start_of pieces ≡ start_of rest = ap start_of e ∙ start_kept rest more content in
    clean.lines rule i (record {
      before = lines;
      pieces = rest;
      to = to;
      cut = a;
      content = content;
      placed = placed ∙ end_kept cs pieces rest start;
      broken = misindented_kept cs (levels_of cs lines) pieces rest rule i start broken;
    }) (omega (arith))

pub content_cases : (b : Bool) → (b ≡ true) ⊎ (b ≡ false)
content_cases true = inl refl
content_cases false = inr refl

pub break_cases : (cs : List ℕ) (lines : List Line) (rest : List Piece) (q : Piece) → AreLines cs lines rest q.from → IsPiece cs q → IsClean cs q.from
    → (other j : ℕ) → BreaksAt cs other j → BreakCases cs lines rest q other j
break_cases cs lines rest q a is_q clean other j (not_utf8 one there) = unreadable one there
break_cases cs lines rest q a is_q clean other j (in_piece b) = elim (piece_cases cs (flat_map pieces_of lines ++ rest) b.before b.piece q a.pieces is_q b.reached b.stands) [
  | inl le ↦ absurd (clean.pieces other j b le)
  | inr apart ↦ elim apart [
    | inl same ↦ in_it b.index (subst (λ (p : Piece). BreaksIn p.form (drop p.from cs) (p.to - p.from) other b.index) same b.broken) (b.placed ∙ ap (λ (p : Piece). p.from + b.index) same)
    | inr behind ↦ later (omega (arith, behind, b.placed))
  ]
]
break_cases cs lines rest q a is_q clean other j (in_line b) = by_place (stands_to cs lines b.before rest b.pieces q b.to a is_q b.cut b.content)
  where
    by_place : StandsTo lines b.before rest b.pieces q b.to → BreakCases cs lines rest q other j
    by_place (ends_before le) = absurd (clean.lines other j b le)
    by_place (begins_behind le) = later (omega (arith, le, b.placed))
    by_place (has_it more e p) =
        let broken : IsMisindented cs (levels_of cs lines) (level_of cs b.pieces) other j = subst (λ ls. IsMisindented cs (levels_of cs ls) (level_of cs b.pieces) other j) e b.broken in
        let start : start_of b.pieces ≡ start_of (rest ++ q ∷ []) = ap start_of p ∙ start_front rest q more in
        elim (content_cases (has_content rest)) [
          | inl content ↦ absurd (line_clean cs lines rest b.pieces (q ∷ more) q.from other j a clean content p b.placed broken)
          | inr none ↦ in_its_line none (b.placed ∙ end_kept cs b.pieces (rest ++ q ∷ []) start) (misindented_kept cs (levels_of cs lines) b.pieces (rest ++ q ∷ []) other j start broken)
        ]

-- The first broken rule

-- the rule is broken there, and none before it
pub record IsFirstBreak (cs : List ℕ) (rule i : ℕ) : Type 0 where
  pub broken : BreaksAt cs rule i
  pub first : (other j : ℕ) → BreaksAt cs other j → IsNotAfter rule i other j

pub is_first : (cs : List ℕ) (rule i : ℕ) → IsFirstBreak cs rule i → IsFirst (BreaksCharacters cs) (Some (refusal_at cs rule i))
is_first cs rule i f = (
  (i, f.broken, refl),
  λ (r : Refusal) b. subst (λ (x : Refusal). IsTrue (comes_first (refusal_at cs rule i) x)) (sym b.2) (comes_first_by_place cs rule i r.number b.0 (f.first r.number b.0 b.1)),
)

piece_number : (form : Form) (cs : List ℕ) (n other i : ℕ) → BreaksIn form cs n other i → 1 ≤ other
piece_number form cs n other i (bad_character f r p b) = omega (arith, r)
piece_number form cs n other i (bad_word f r p b) = omega (arith, r)
piece_number form cs n other i (bad_number f r p b) = omega (arith, r)
piece_number form cs n other i (float_literal f r p b) = omega (arith, r)
piece_number form cs n other i (literal_too_wide f r p b) = omega (arith, r)
piece_number form cs n other i (bad_escape f r b) = omega (arith, r)
piece_number form cs n other i (string_not_ended f r p b) = omega (arith, r)

line_number : (cs : List ℕ) (levels : List ℕ) (level other i : ℕ) → IsMisindented cs levels level other i → 1 ≤ other
line_number cs levels level other i (form_feed r b) = omega (arith, r)
line_number cs levels level other i (tab r b) = omega (arith, r)
line_number cs levels level other i (no_level r b) = omega (arith, r)

break_number : (cs : List ℕ) (other j : ℕ) → BreaksAt cs other j → 1 ≤ other
break_number cs other j (not_utf8 r b) = omega (arith, r)
break_number cs other j (in_piece b) = piece_number b.piece.form (drop b.piece.from cs) (b.piece.to - b.piece.from) other b.index b.broken
break_number cs other j (in_line b) = line_number cs (levels_of cs b.before) (level_of cs b.pieces) other j b.broken

before_later : (rule i to other j : ℕ) → (i < to) ⊎ ((rule ≤ 1) × (i ≤ to)) → to ≤ j → 1 ≤ other → IsNotAfter rule i other j
before_later rule i to other j (inl lt) le one = inl (omega (arith, lt, le))
before_later rule i to other j (inr at) le one = elim (cases_lt i j) [
  | inl lt ↦ inl lt
  | inr ge ↦ inr (omega (arith, ge, at.1, le), omega (arith, at.0, one))
]

-- what is first among the rules that the piece, its line and the end of the text break is first of all
pub first_break : (cs : List ℕ) (lines : List Line) (rest : List Piece) (q : Piece) → AreLines cs lines rest q.from → IsPiece cs q → IsClean cs q.from
    → (rule i : ℕ) → BreaksAt cs rule i
    → ((j : ℕ) → IsNotReadable cs j → IsNotAfter rule i 1 j)
    → ((other index : ℕ) → BreaksIn q.form (drop q.from cs) (q.to - q.from) other index → IsNotAfter rule i other (q.from + index))
    → (IsFalse (has_content rest) → (other : ℕ) → IsMisindented cs (levels_of cs lines) (level_of cs (rest ++ q ∷ [])) other (indentation_end cs (rest ++ q ∷ [])) → IsNotAfter rule i other (indentation_end cs (rest ++ q ∷ [])))
    → (i < q.to) ⊎ ((rule ≤ 1) × (i ≤ q.to))
    → IsFirstBreak cs rule i
first_break cs lines rest q a is_q clean rule i broken cut own line by = record { broken = broken; first = λ other j b. by_cases other j b (break_cases cs lines rest q a is_q clean other j b) }
  where
    by_cases : (other j : ℕ) → BreaksAt cs other j → BreakCases cs lines rest q other j → IsNotAfter rule i other j
    by_cases other j b (unreadable one there) = subst (λ n. IsNotAfter rule i n j) (sym one) (cut j there)
    by_cases other j b (in_it index inside placed) = subst (λ k. IsNotAfter rule i other k) (sym placed) (own other index inside)
    by_cases other j b (in_its_line none placed m) =
        subst (λ k. IsNotAfter rule i other k) (sym placed) (line none other (subst (λ k. IsMisindented cs (levels_of cs lines) (level_of cs (rest ++ q ∷ [])) other k) placed m))
    by_cases other j b (later le) = before_later rule i q.to other j by le (break_number cs other j b)

-- Clean texts

no_more : (cs : List ℕ) (from to : ℕ) (ps : List Piece) (q : Piece) (more : List Piece) → AreBetween cs from (ps ++ q ∷ more) to → to ≤ q.to → more ≡ []
no_more cs from to ps q [] a le = refl
no_more cs from to ps q (r ∷ rs) a le =
    let s = between_split cs from to ps (q ∷ r ∷ rs) a in
    let later = between_forward cs r.to to rs s.back.2.2 in
    absurd (omega (arith, later, s.back.2.0, s.back.2.1.forward, le))

start_before : (cs : List ℕ) (from to : ℕ) (ps : List Piece) → IsTrue (has_content ps) → AreBetween cs from ps to → start_of ps < to
start_before cs from to [] t a = absurd (false≢true t)
start_before cs from to (p ∷ ps) t a = omega (arith, a.1.forward, between_forward cs p.to to ps a.2)

second_holds : (b c : Bool) → b ≡ false → (b || c) ≡ true → c ≡ true
second_holds true c e t = absurd (false≢true (sym e))
second_holds false c e t = t

or_false : (b : Bool) → (b || false) ≡ true → b ≡ true
or_false true t = refl
or_false false t = t

pub has_content-append : (ps qs : List Piece) → has_content (ps ++ qs) ≡ (has_content ps || has_content qs)
has_content-append ps qs = list_any-append (λ (p : Piece). is_content p.form) ps qs

own_content : (rest : List Piece) (q : Piece) → IsFalse (has_content rest) → IsTrue (has_content (rest ++ q ∷ [])) → IsTrue (is_content q.form)
own_content rest q none content = or_false (is_content q.form) (second_holds (has_content rest) (has_content (q ∷ [])) none (sym (has_content-append rest (q ∷ [])) ∙ content))

-- a piece that breaks nothing, and begins no line that breaks something, leaves the text clean
pub clean_behind : (cs : List ℕ) (lines : List Line) (rest : List Piece) (q : Piece) → AreLines cs lines rest q.from → IsPiece cs q → IsClean cs q.from
    → ((rule i : ℕ) → BreaksIn q.form (drop q.from cs) (q.to - q.from) rule i → ⊥)
    → (IsTrue (is_content q.form) → IsFalse (has_content rest) → (rule : ℕ) → IsMisindented cs (levels_of cs lines) (level_of cs (rest ++ q ∷ [])) rule (indentation_end cs (rest ++ q ∷ [])) → ⊥)
    → IsClean cs q.to
clean_behind cs lines rest q a is_q clean own line = record { pieces = pieces; lines = in_lines }
  where
    pieces : (rule i : ℕ) (b : BreaksInPiece cs rule i) → b.piece.to ≤ q.to → ⊥
    pieces rule i b le = elim (piece_cases cs (flat_map pieces_of lines ++ rest) b.before b.piece q a.pieces is_q b.reached b.stands) [
      | inl before ↦ clean.pieces rule i b before
      | inr apart ↦ elim apart [
        | inl same ↦ own rule b.index (subst (λ (p : Piece). BreaksIn p.form (drop p.from cs) (p.to - p.from) rule b.index) same b.broken)
        | inr behind ↦ absurd (omega (arith, behind, b.stands.forward, le))
      ]
    ]

    in_lines : (rule i : ℕ) (b : BreaksInLine cs rule i) → b.to ≤ q.to → ⊥
    in_lines rule i b le = by_place (stands_to cs lines b.before rest b.pieces q b.to a is_q b.cut b.content)
      where
        by_place : StandsTo lines b.before rest b.pieces q b.to → ⊥
        by_place (ends_before before) = clean.lines rule i b before
        by_place (begins_behind behind) =
            let s = between_split cs 0 b.to (flat_map pieces_of b.before) b.pieces b.cut.pieces in
            absurd (omega (arith, behind, le, start_before cs s.mid b.to b.pieces b.content s.back))
        by_place (has_it more e p) =
            let whole : AreBetween cs 0 ((flat_map pieces_of b.before ++ rest) ++ q ∷ more) b.to =
            subst (λ ps. AreBetween cs 0 ps b.to) (ap (λ ps. flat_map pieces_of b.before ++ ps) p ∙ sym (append_assoc (flat_map pieces_of b.before) rest (q ∷ more))) b.cut.pieces in
            let only : b.pieces ≡ rest ++ q ∷ [] = p ∙ ap (λ ps. rest ++ q ∷ ps) (no_more cs 0 b.to (flat_map pieces_of b.before ++ rest) q more whole le) in
            let broken : IsMisindented cs (levels_of cs lines) (level_of cs b.pieces) rule i = subst (λ ls. IsMisindented cs (levels_of cs ls) (level_of cs b.pieces) rule i) e b.broken in
            elim (content_cases (has_content rest)) [
              | inl content ↦ line_clean cs lines rest b.pieces (q ∷ []) q.from rule i a clean content only b.placed broken
              | inr none ↦ (
                  let start = ap start_of only in
                  let there = misindented_kept cs (levels_of cs lines) b.pieces (rest ++ q ∷ []) rule i start broken in
                  let at = b.placed ∙ end_kept cs b.pieces (rest ++ q ∷ []) start in
                  line (own_content rest q none (subst (λ ps. IsTrue (has_content ps)) only b.content)) none rule (subst (λ k. IsMisindented cs (levels_of cs lines) (level_of cs (rest ++ q ∷ [])) rule k) at there)
                  )
            ]
