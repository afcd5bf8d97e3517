-- A text has tokens, or a rule that it breaks first.
use Rattle.std.proofs.Common.{◌≡◌, ◌≢◌, ℕ, zero, suc, ◌+◌, ◌-◌, ◌<◌, ◌≤◌, ◌⊎◌, inl, inr, Bool, true, false, List, [], ◌∷◌, ◌++◌, flat_map, drop, length, Some, refl, sym, ap, subst, ◌∙◌, arith}
use Rattle.std.specs.Prelude.{IsTrue, IsFalse, MatchBool, slice_index_or, slice_index, if◌then◌else◌, ◌==◌, Contains}
use Rattle.std.specs.List.{prefix_len}
use Rattle.std.proofs.lemmas.Bool.{false≢true, cases_lt, cases_eq, lt-ltb, le-ltb, eqb-true, or_left, or_right}
use Rattle.std.proofs.lemmas.List.{append-nil, get_or-drop}
use Rattle.std.proofs.lemmas.List.Sums.{prefix_len_passes}
use Rattle.std.proofs.lemmas.List.Elements.{All-nil, Contains-append_right}
use Rattle.px_base.specs.Findings.{comes_first, IsFirst}
use Rattle.px_base.specs.declared.refusals.Refusal.{Refusal}
use Rattle.px_lexer.specs.declared.forms.Form.{Form}
use Rattle.px_lexer.specs.declared.forms.Form.TheVariants as form
use Rattle.px_lexer.specs.declared.token_list.Token.{Token}
use Rattle.px_lexer.specs.declared.token_list.Comment.{Comment}
use Rattle.px_lexer.specs.declared.token_list.TokenKind.{TokenKind}
use Rattle.px_lexer.specs.declared.token_list.TokenKind.TheVariants as kind
use Rattle.px_lexer.specs.Characters.{unreadable, characters}
use Rattle.px_lexer.specs.Places.{refusal_at}
use Rattle.px_lexer.specs.Pieces.{Piece, IsPiece, AreBetween, form_of, is_blank, is_content, is_line_end}
use Rattle.px_lexer.specs.Lines.{Line, IsLine, AreLines, pieces_of, has_content, start_of, feeds_from, indented_to, level_of, own_level, levels_of, last_level, open_levels, indentation_end, depth_after, Lands, IsIndented}
use Rattle.px_lexer.specs.Tokens.{size_limit, IsKind, token_at, token_behind, end_of_text, AreOfLine, leading_comments, IsTokens}
use Rattle.px_lexer.specs.Refusals.{IsNotReadable, BreaksIn, BreaksInLine, IsMisindented, form_feed, tab, no_level, BreaksAt, not_utf8, in_piece, in_line, BreaksCharacters, BreaksText, too_large}
use Rattle.px_lexer.specs.Readers.{IsNotAfter}
use Rattle.px_lexer.specs.Reached.{IsClean, AreOfFront, IsLexed}
use Rattle.px_lexer.specs.Laws.{TokensAreThere, TokensOrRefusal}
use Rattle.px_lexer.proofs.CharacterLemmas.{unreadable_last}
use Rattle.px_lexer.proofs.Cuts.{between_split, between_forward}
use Rattle.px_lexer.proofs.Breaks.{content_cases, has_content-append, IsFirstBreak, is_first, first_break}
use Rattle.px_lexer.proofs.Lexed.{goes_on_none, cut_more, indented_of_clean, begun_of, none_of, lexed_gap, lexed_line, lexed_token}
use Rattle.px_lexer.proofs.PieceLaws.{StandsAt, there_is_a_piece, piece_within, between_within, kind_clean}
use Rattle.px_lexer.proofs.TextLaws.{tokens_break_nothing}
use Rattle.px_lexer.proofs.Findings.{Finding, nowhere, first_at, either, not_after_place, piece_finding, settled, breaks_inside}

-- Where the indentation of a line ends

-- the characters that an indentation takes end before the first that is none of them
run_ends_before : (cs : List ℕ) (c from at : ℕ) → from ≤ at → slice_index cs at ≢ c → from + prefix_len (λ d. d == c) (drop from cs) ≤ at
run_ends_before cs c from at le other = elim (cases_lt at (from + prefix_len (λ d. d == c) (drop from cs))) [
  | inr within ↦ within
  | inl past ↦ (
      let passes = prefix_len_passes (λ d. d == c) (drop from cs) (at - from) 0 (omega (arith, past, le)) in
      let there : slice_index (drop from cs) (at - from) ≡ slice_index cs at = get_or-drop from cs (at - from) 0 ∙ ap (slice_index cs) (let t : from + (at - from) ≡ at = omega (arith, le) in t) in
      absurd (other (sym there ∙ eqb-true _ c passes))
      )
]

pub indentation_before : (cs : List ℕ) (start at : ℕ) → start ≤ at → slice_index cs at ≢ 12 → slice_index cs at ≢ 32 → indented_to cs start ≤ at
indentation_before cs start at le no_feed no_space =
    run_ends_before cs 32 (start + feeds_from cs start) at (run_ends_before cs 12 start at le no_feed) no_space

blank_is_no_content : (cs : List ℕ) → IsTrue (is_blank (slice_index cs 0)) → IsFalse (is_content (form_of cs))
unfolding form_of
blank_is_no_content cs e = rw e refl

content_is_no : (cs : List ℕ) (q : Piece) (c : ℕ) → IsPiece cs q → IsTrue (is_content q.form) → IsTrue (is_blank c) → slice_index cs q.from ≢ c
content_is_no cs q c is_q content blank e =
    let here : slice_index (drop q.from cs) 0 ≡ c = get_or-drop q.from cs 0 0 ∙ ap (slice_index cs) (let t : q.from + 0 ≡ q.from = omega arith in t) ∙ e in
    let gap = blank_is_no_content (drop q.from cs) (subst (λ d. IsTrue (is_blank d)) (sym here) blank) in
    false≢true (sym gap ∙ ap is_content (sym is_q.formed) ∙ content)

content_more : (rest : List Piece) (q : Piece) → IsTrue (is_content q.form) → IsTrue (has_content (rest ++ q ∷ []))
content_more rest q content = has_content-append rest (q ∷ []) ∙ or_right (has_content rest) _ (or_left (is_content q.form) false content)

-- the indentation of a line ends by the first piece of it that is content
pub end_before_content : (cs : List ℕ) (lines : List Line) (rest : List Piece) (q : Piece) → AreLines cs lines rest q.from → IsPiece cs q → IsTrue (is_content q.form) → indentation_end cs (rest ++ q ∷ []) ≤ q.from
end_before_content cs lines rest q a is_q content =
    let s = between_split cs 0 q.from (flat_map pieces_of lines) rest a.pieces in
    let start = start_kept_at rest s.mid s.back in
    rw start (indentation_before cs s.mid q.from (between_forward cs s.mid q.from rest s.back) (content_is_no cs q 12 is_q content refl) (content_is_no cs q 32 is_q content refl))
  where
    start_kept_at : (ps : List Piece) (mid : ℕ) → AreBetween cs mid ps q.from → start_of (ps ++ q ∷ []) ≡ mid
    start_kept_at [] mid b = sym b
    start_kept_at (p ∷ ps) mid b = b.0

-- The first rule that an indentation breaks

contains_or_not : (xs : List ℕ) (x : ℕ) → Contains xs x ⊎ (Contains xs x → ⊥)
contains_or_not [] x = inr (λ c. omega (arith, c.1))
contains_or_not (y ∷ ys) x = by_cases (cases_eq y x) (contains_or_not ys x)
  where
    by_cases : (y ≡ x) ⊎ (y ≡ x → ⊥) → Contains ys x ⊎ (Contains ys x → ⊥) → Contains (y ∷ ys) x ⊎ (Contains (y ∷ ys) x → ⊥)
    by_cases (inl e) later = inl (0, omega arith, e)
    by_cases (inr n) (inl c) = inl (Contains-append_right (y ∷ []) ys x c)
    by_cases (inr n) (inr none) = inr (λ c. in_neither c.0 c.1 c.2)
      where
        in_neither : (k : ℕ) → k < length (y ∷ ys) → slice_index_or (y ∷ ys) k x ≡ x → ⊥
        in_neither zero inside e = n e
        in_neither (suc k) inside e = none (k, omega (arith, inside), e)

pub lands_or_not : (levels : List ℕ) (level : ℕ) → Lands levels level ⊎ (Lands levels level → ⊥)
lands_or_not levels level = elim (cases_lt (last_level levels) level) [
  | inl deeper ↦ inl (inl deeper)
  | inr le ↦ elim (cases_eq level 0) [
    | inl zero_level ↦ inl (inr (inl zero_level))
    | inr some ↦ elim (contains_or_not (open_levels levels) level) [
      | inl opened ↦ inl (inr (inr opened))
      | inr closed ↦ inr (neither le some closed)
    ]
  ]
]
  where
    neither : level ≤ last_level levels → (level ≡ 0 → ⊥) → (Contains (open_levels levels) level → ⊥) → Lands levels level → ⊥
    neither le some closed (inl deeper) = omega (arith, le, deeper)
    neither le some closed (inr (inl zero_level)) = some zero_level
    neither le some closed (inr (inr opened)) = closed opened

-- the rule is broken at the end of the indentation of a line that begins with a piece that is content
abbrev pub BreaksIndented : List ℕ → List ℕ → List Piece → List Piece → ℕ → ℕ → Type 0
BreaksIndented cs levels rest pieces rule i = IsFalse (has_content rest) × (i ≡ indentation_end cs pieces) × IsMisindented cs levels (level_of cs pieces) rule (indentation_end cs pieces)

misindented_rule : (cs levels : List ℕ) (level rule i : ℕ) → IsMisindented cs levels level rule i → 2 ≤ rule
misindented_rule cs levels level rule i (form_feed r e) = omega (arith, r)
misindented_rule cs levels level rule i (tab r e) = omega (arith, r)
misindented_rule cs levels level rule i (no_level r e) = omega (arith, r)

misindented_without_feed : (cs levels : List ℕ) (level rule i : ℕ) → (slice_index cs i ≡ 12 → ⊥) → IsMisindented cs levels level rule i → 3 ≤ rule
misindented_without_feed cs levels level rule i none (form_feed r e) = absurd (none e)
misindented_without_feed cs levels level rule i none (tab r e) = omega (arith, r)
misindented_without_feed cs levels level rule i none (no_level r e) = omega (arith, r)

not_misindented : (cs levels : List ℕ) (level rule i : ℕ) → (slice_index cs i ≡ 12 → ⊥) → (slice_index cs i ≡ 9 → ⊥) → Lands levels level → IsMisindented cs levels level rule i → ⊥
not_misindented cs levels level rule i feed tabbed lands (form_feed r e) = feed e
not_misindented cs levels level rule i feed tabbed lands (tab r e) = tabbed e
not_misindented cs levels level rule i feed tabbed lands (no_level r e) = e lands

indentation_finding : (cs levels : List ℕ) (rest pieces : List Piece) → Finding (BreaksIndented cs levels rest pieces)
indentation_finding cs levels rest pieces = elim (content_cases (has_content rest)) [
  | inl some ↦ nowhere (λ rule i b. false≢true (sym b.0 ∙ some))
  | inr none ↦ begins none (indentation_end cs pieces) (level_of cs pieces)
      (cases_eq (slice_index cs (indentation_end cs pieces)) 12) (cases_eq (slice_index cs (indentation_end cs pieces)) 9) (lands_or_not levels (level_of cs pieces))
]
  where
    begins : has_content rest ≡ false → (at level : ℕ) → (slice_index cs at ≡ 12) ⊎ (slice_index cs at ≡ 12 → ⊥) → (slice_index cs at ≡ 9) ⊎ (slice_index cs at ≡ 9 → ⊥)
        → Lands levels level ⊎ (Lands levels level → ⊥) → Finding (λ rule i. IsFalse (has_content rest) × (i ≡ at) × IsMisindented cs levels level rule at)
    begins none at level (inl feed) tabbed lands =
        first_at 2 at (none, refl, form_feed refl feed) (λ other j b. inr (sym b.1, misindented_rule cs levels level other at b.2))
    begins none at level (inr feed) (inl tabbed) lands =
        first_at 3 at (none, refl, tab refl tabbed) (λ other j b. inr (sym b.1, misindented_without_feed cs levels level other at feed b.2))
    begins none at level (inr feed) (inr tabbed) (inl lands) = nowhere (λ rule i b. not_misindented cs levels level rule at feed tabbed lands b.2)
    begins none at level (inr feed) (inr tabbed) (inr closed) =
        first_at 3 at (none, refl, no_level refl closed) (λ other j b. inr (sym b.1, misindented_without_feed cs levels level other at feed b.2))

-- Characters that can't be read

abbrev pub CantBeRead : List ℕ → ℕ → ℕ → Type 0
CantBeRead cs rule i = (rule ≡ 1) × IsNotReadable cs i

unreadable_finding : (text : List ℕ) → Finding (CantBeRead (characters text))
unreadable_finding text = by_last (length (characters text)) refl
  where
    by_last : (n : ℕ) → length (characters text) ≡ n → Finding (CantBeRead (characters text))
    by_last zero e = nowhere (λ rule i b. omega (arith, e, b.1.0))
    by_last (suc k) e = elim (cases_eq (slice_index (characters text) k) unreadable) [
      | inl cut ↦ first_at 1 k (refl, (omega (arith, e), cut)) (λ other j b. inr (omega (arith, e, unreadable_last text j b.1.0 b.1.1), omega (arith, b.0)))
      | inr readable ↦ nowhere (λ rule i b. readable (subst (λ m. slice_index (characters text) m ≡ unreadable) (let t : i ≡ k = omega (arith, e, unreadable_last text i b.1.0 b.1.1) in t) b.1.1))
    ]

-- The end of the text

-- nothing is broken in a text that is read to its end, but what can't be read
pub clean_at_end : (cs : List ℕ) → IsClean cs (length cs) → (rule i : ℕ) → BreaksAt cs rule i → CantBeRead cs rule i
clean_at_end cs clean rule i (not_utf8 one there) = (one, there)
clean_at_end cs clean rule i (in_piece b) = absurd (clean.pieces rule i b (piece_within cs b.piece b.stands))
clean_at_end cs clean rule i (in_line b) = absurd (clean.lines rule i b (between_within cs 0 b.to (flat_map pieces_of b.before ++ b.pieces) (omega arith) b.cut.pieces))

pub no_unreadable : (cs : List ℕ) → ((rule i : ℕ) → CantBeRead cs rule i → ⊥) → Contains cs unreadable → ⊥
no_unreadable cs none c = none 1 c.0 (refl, (c.1, slice_index_here cs c.0 c.1 ∙ c.2))
  where
    slice_index_here : (xs : List ℕ) (k : ℕ) → k < length xs → slice_index xs k ≡ slice_index_or xs k unreadable
    slice_index_here [] k inside = absurd (omega (arith, inside))
    slice_index_here (x ∷ xs) zero inside = refl
    slice_index_here (x ∷ xs) (suc k) inside = slice_index_here xs k (omega (arith, inside))

-- the tokens of the last line, which no line end ends
abbrev pub last_tokens : List ℕ → List Piece → List Token
last_tokens text rest = if has_content rest then token_behind text kind.Newline ∷ [] else []

pub last_line : (text levels : List ℕ) (rest : List Piece) (tokens : List Token) → AreOfFront text levels rest tokens → AreOfLine text levels rest (token_behind text kind.Newline) (tokens ++ last_tokens text rest)
last_line text levels rest tokens f = elim (content_cases (has_content rest)) [
  | inl some ↦ (
      let b = begun_of text levels rest tokens some f in
      rw some (record {
        indented = b.indented;
        spelled = b.spelled;
        each = b.each;
        all = ap (λ ts. ts ++ token_behind text kind.Newline ∷ []) b.all;
      })
      )
  | inr none ↦ rw none (append-nil tokens ∙ none_of text levels rest tokens none f)
]

-- a text has tokens, or a refusal that comes first
abbrev pub Outcome : List ℕ → Type 0
Outcome text = ((tokens : List Token) × (comments : List Comment) × IsTokens text tokens comments) ⊎ ((refusal : Refusal) × IsFirst (BreaksText text) (Some refusal))

first_of_small : (text : List ℕ) (rule i : ℕ) → length text ≤ size_limit → IsFirstBreak (characters text) rule i → Outcome text
first_of_small text rule i small f =
    inr (
      refusal_at (characters text) rule i,
      subst (λ b. IsFirst (λ refusal. MatchBool b (refusal ≡ too_large) (BreaksCharacters (characters text) refusal)) (Some (refusal_at (characters text) rule i)))
          (sym (le-ltb size_limit (length text) small)) (is_first (characters text) rule i f),
    )

pub tokens_at_end : (text : List ℕ) (lines : List Line) (rest : List Piece) (of_lines of_rest : List Token) → length text ≤ size_limit → (Contains (characters text) unreadable → ⊥)
    → IsLexed text (length (characters text)) lines rest of_lines of_rest
    → IsTokens text (of_lines ++ (of_rest ++ last_tokens text rest) ++ end_of_text text (levels_of (characters text) lines ++ own_level (characters text) rest)) (leading_comments text (flat_map pieces_of lines ++ rest))
tokens_at_end text lines rest of_lines of_rest small readable x = record {
  small = small;
  readable = readable;
  lines = lines;
  rest = rest;
  cut = x.cut;
  of_lines = of_lines;
  ended = x.ended;
  of_rest = of_rest ++ last_tokens text rest;
  unended = last_line text (levels_of (characters text) lines) rest of_rest x.begun;
  all = refl;
  leading = refl;
}

at_end : (text : List ℕ) (lines : List Line) (rest : List Piece) (of_lines of_rest : List Token) → length text ≤ size_limit
    → IsLexed text (length (characters text)) lines rest of_lines of_rest → Outcome text
at_end text lines rest of_lines of_rest small x = by_finding (unreadable_finding text)
  where
    by_finding : Finding (CantBeRead (characters text)) → Outcome text
    by_finding (first_at rule i b f) =
        first_of_small text rule i small (record {
          broken = not_utf8 b.0 b.1;
          first = λ other j c. f other j (clean_at_end (characters text) x.clean other j c);
        })
    by_finding (nowhere none) =
        inl (
          of_lines ++ (of_rest ++ last_tokens text rest) ++ end_of_text text (levels_of (characters text) lines ++ own_level (characters text) rest),
          leading_comments text (flat_map pieces_of lines ++ rest),
          tokens_at_end text lines rest of_lines of_rest small (no_unreadable (characters text) none) x,
        )

-- One more piece

-- the piece is a token, and its line is indented rightly
record IsWell (text : List ℕ) (lines : List Line) (rest : List Piece) (q : Piece) : Type 0 where
  pub t : TokenKind
  pub kind : IsKind q.form (drop q.from (characters text)) (q.to - q.from) t
  pub indented : IsFalse (has_content rest) → IsIndented (characters text) (levels_of (characters text) lines) (rest ++ q ∷ [])

abbrev pub OwnBreaks : List ℕ → Piece → ℕ → ℕ → Type 0
OwnBreaks cs q rule i = (index : ℕ) × (i ≡ q.from + index) × BreaksIn q.form (drop q.from cs) (q.to - q.from) rule index

own_finding : (cs : List ℕ) (q : Piece) → IsPiece cs q → Finding (OwnBreaks cs q)
own_finding cs q is_q = by_finding (piece_finding q.form (drop q.from cs) (q.to - q.from) is_q.whole (omega (arith, is_q.forward)))
  where
    moved : (rule i other j index : ℕ) → j ≡ q.from + index → IsNotAfter rule i other index → IsNotAfter rule (q.from + i) other j
    moved rule i other j index e (inl less) = inl (omega (arith, less, e))
    moved rule i other j index e (inr same) = inr (omega (arith, same.0, e), same.1)

    by_finding : Finding (BreaksIn q.form (drop q.from cs) (q.to - q.from)) → Finding (OwnBreaks cs q)
    by_finding (nowhere none) = nowhere (λ rule i b. none rule b.0 b.2)
    by_finding (first_at rule i b f) = first_at rule (q.from + i) (i, refl, b) (λ other j c. moved rule i other j c.0 c.1 (f other c.0 c.2))

abbrev pub StepBreaks : List ℕ → List Line → List Piece → Piece → ℕ → ℕ → Type 0
StepBreaks cs lines rest q rule i = CantBeRead cs rule i ⊎ (OwnBreaks cs q rule i ⊎ BreaksIndented cs (levels_of cs lines) rest (rest ++ q ∷ []) rule i)

step_finding : (text : List ℕ) (lines : List Line) (rest : List Piece) (q : Piece) → IsPiece (characters text) q → Finding (StepBreaks (characters text) lines rest q)
step_finding text lines rest q is_q =
    either _ _ (unreadable_finding text) (either _ _ (own_finding (characters text) q is_q) (indentation_finding (characters text) (levels_of (characters text) lines) rest (rest ++ q ∷ [])))

pub step_holds : (cs : List ℕ) (lines : List Line) (rest : List Piece) (q : Piece) (rule i : ℕ) → AreLines cs lines rest q.from → IsPiece cs q → IsTrue (is_content q.form) → IsFalse (is_line_end q.form)
    → StepBreaks cs lines rest q rule i → BreaksAt cs rule i
step_holds cs lines rest q rule i a is_q content no_end (inl b) = not_utf8 b.0 b.1
step_holds cs lines rest q rule i a is_q content no_end (inr (inl b)) =
    in_piece (record { before = flat_map pieces_of lines ++ rest; piece = q; reached = a.pieces; stands = is_q; index = b.0; broken = b.2; placed = b.1 })
step_holds cs lines rest q rule i a is_q content no_end (inr (inr b)) =
    in_line (record {
      before = lines;
      pieces = rest ++ q ∷ [];
      to = q.to;
      cut = cut_more cs lines rest q a is_q (λ ends. absurd (false≢true (sym no_end ∙ ends)));
      content = content_more rest q content;
      placed = b.1;
      broken = subst (λ k. IsMisindented cs (levels_of cs lines) (level_of cs (rest ++ q ∷ [])) rule k) (sym b.1) b.2;
    })

-- where a rule is broken by the end of the piece
pub step_place : (cs : List ℕ) (lines : List Line) (rest : List Piece) (q : Piece) (rule i : ℕ) → AreLines cs lines rest q.from → IsPiece cs q → IsTrue (is_content q.form) → i ≤ q.to
    → StepBreaks cs lines rest q rule i → (i < q.to) ⊎ ((rule ≤ 1) × (i ≤ q.to))
step_place cs lines rest q rule i a is_q content le (inl b) = inr (omega (arith, b.0), le)
step_place cs lines rest q rule i a is_q content le (inr (inl b)) =
    inl (omega (arith, b.1, is_q.forward, breaks_inside q.form (drop q.from cs) (q.to - q.from) rule b.0 is_q.whole (omega (arith, is_q.forward)) b.2))
step_place cs lines rest q rule i a is_q content le (inr (inr b)) = inl (omega (arith, b.1, is_q.forward, end_before_content cs lines rest q a is_q content))

-- a piece and its line by which nothing is broken
well : (text : List ℕ) (lines : List Line) (rest : List Piece) (q : Piece) → AreLines (characters text) lines rest q.from → IsPiece (characters text) q → IsTrue (is_content q.form)
    → ((rule i : ℕ) → StepBreaks (characters text) lines rest q rule i → i ≤ q.to → ⊥) → IsWell text lines rest q
well text lines rest q a is_q content none =
    by_kind (settled q.form (drop q.from (characters text)) (q.to - q.from) content is_q.whole (omega (arith, is_q.forward)))
  where
    own : (rule index : ℕ) → BreaksIn q.form (drop q.from (characters text)) (q.to - q.from) rule index → ⊥
    own rule index b =
        let inside = breaks_inside q.form (drop q.from (characters text)) (q.to - q.from) rule index is_q.whole (omega (arith, is_q.forward)) b in
        none rule (q.from + index) (inr (inl (index, refl, b))) (omega (arith, inside, is_q.forward))

    line : IsFalse (has_content rest) → IsIndented (characters text) (levels_of (characters text) lines) (rest ++ q ∷ [])
    line empty =
        indented_of_clean (characters text) (levels_of (characters text) lines) (rest ++ q ∷ []) (lands_or_not _ _)
        (λ rule m. none rule (indentation_end (characters text) (rest ++ q ∷ [])) (inr (inr (empty, refl, m))) (omega (arith, is_q.forward, end_before_content (characters text) lines rest q a is_q content)))

    cut_off : (i : ℕ) → i ≤ q.to - q.from → slice_index (drop q.from (characters text)) i ≡ unreadable → ⊥
    cut_off i le cut =
        let there : slice_index (characters text) (q.from + i) ≡ unreadable = sym (get_or-drop q.from (characters text) i 0) ∙ cut in
        none 1 (q.from + i) (inl (refl, (some_inside (characters text) (q.from + i) there, there))) (omega (arith, le, is_q.forward))
      where
        some_inside : (xs : List ℕ) (k : ℕ) → slice_index xs k ≡ unreadable → k < length xs
        some_inside [] k e = absurd (omega (arith, e))
        some_inside (x ∷ xs) zero e = omega arith
        some_inside (x ∷ xs) (suc k) e = omega (arith, some_inside xs k e)

    by_kind : ((t : TokenKind) × IsKind q.form (drop q.from (characters text)) (q.to - q.from) t)
        ⊎ ((rule i : ℕ) × BreaksIn q.form (drop q.from (characters text)) (q.to - q.from) rule i)
        ⊎ ((i : ℕ) × (i ≤ q.to - q.from) × (slice_index (drop q.from (characters text)) i ≡ unreadable)) → IsWell text lines rest q
    by_kind (inl has) = record { t = has.0; kind = has.1; indented = line }
    by_kind (inr (inl broken)) = absurd (own broken.0 broken.1 broken.2)
    by_kind (inr (inr cut)) = absurd (cut_off cut.0 cut.1 cut.2)

-- what comes first of the rules that the piece, its line and the end of the text break comes first of all
pub first_of_step : (cs : List ℕ) (lines : List Line) (rest : List Piece) (q : Piece) → AreLines cs lines rest q.from → IsPiece cs q → IsClean cs q.from → IsTrue (is_content q.form) → IsFalse (is_line_end q.form)
    → (rule i : ℕ) → StepBreaks cs lines rest q rule i → ((other j : ℕ) → StepBreaks cs lines rest q other j → IsNotAfter rule i other j) → i ≤ q.to → IsFirstBreak cs rule i
first_of_step cs lines rest q a is_q clean content no_end rule i b f le =
    first_break cs lines rest q a is_q clean rule i (step_holds cs lines rest q rule i a is_q content no_end b)
    (λ j there. f 1 j (inl (refl, there)))
    (λ other index c. f other (q.from + index) (inr (inl (index, refl, c))))
    (λ none other m. f other (indentation_end cs (rest ++ q ∷ [])) (inr (inr (none, refl, m))))
    (step_place cs lines rest q rule i a is_q content le b)

-- a piece that is content is a token in its line, or the text breaks a rule first
content_step : (text : List ℕ) (lines : List Line) (rest : List Piece) (q : Piece) → AreLines (characters text) lines rest q.from → IsPiece (characters text) q → IsClean (characters text) q.from
    → IsTrue (is_content q.form) → IsFalse (is_line_end q.form) → IsWell text lines rest q ⊎ ((rule i : ℕ) × IsFirstBreak (characters text) rule i)
content_step text lines rest q a is_q clean content no_end = by_finding (step_finding text lines rest q is_q)
  where
    by_finding : Finding (StepBreaks (characters text) lines rest q) → IsWell text lines rest q ⊎ ((rule i : ℕ) × IsFirstBreak (characters text) rule i)
    by_finding (nowhere none) = inl (well text lines rest q a is_q content (λ rule i b le. none rule i b))
    by_finding (first_at rule i b f) = elim (cases_lt q.to i) [
      | inl behind ↦ inl (well text lines rest q a is_q content (λ other j c le. omega (arith, behind, le, not_after_place rule i other j (f other j c))))
      | inr le ↦ inr (rule, i, first_of_step (characters text) lines rest q a is_q clean content no_end rule i b f le)
    ]

pub content_ends_no_line : (found : Form) → IsTrue (is_content found) → IsFalse (is_line_end found)
content_ends_no_line form.Blank e = absurd (false≢true e)
content_ends_no_line form.LineEnd e = absurd (false≢true e)
content_ends_no_line form.Join e = absurd (false≢true e)
content_ends_no_line form.Comment e = absurd (false≢true e)
content_ends_no_line form.Word e = refl
content_ends_no_line form.Number e = refl
content_ends_no_line form.Text e = refl
content_ends_no_line form.Sign e = refl
content_ends_no_line form.Stray e = refl

-- The whole text

-- what is read up to a place
record Reach (text : List ℕ) (to : ℕ) : Type 0 where
  pub lines : List Line
  pub rest : List Piece
  pub of_lines : List Token
  pub of_rest : List Token
  pub lexed : IsLexed text to lines rest of_lines of_rest

-- one more piece is read, or a rule is broken first
next : (text : List ℕ) (q : Piece) → Reach text q.from → IsPiece (characters text) q → Reach text q.to ⊎ ((rule i : ℕ) × IsFirstBreak (characters text) rule i)
next text q r is_q = by_content (is_content q.form) refl
  where
    gap : is_content q.form ≡ false → Reach text q.to
    gap no_content = elim (cases_lt 0 (depth_after (characters text) 0 r.rest)) [
      | inl inside ↦ record { lines = r.lines; rest = r.rest ++ q ∷ []; of_lines = r.of_lines; of_rest = r.of_rest; lexed = lexed_gap text r.lines r.rest r.of_lines r.of_rest q r.lexed is_q no_content (λ ends. inside) }
      | inr outside ↦ elim (content_cases (is_line_end q.form)) [
        | inl ends ↦ record { lines = _; rest = _; of_lines = _; of_rest = _; lexed = lexed_line text r.lines r.rest r.of_lines r.of_rest q r.lexed is_q no_content ends (omega (arith, outside)) }
        | inr goes_on ↦ record { lines = r.lines; rest = r.rest ++ q ∷ []; of_lines = r.of_lines; of_rest = r.of_rest; lexed = lexed_gap text r.lines r.rest r.of_lines r.of_rest q r.lexed is_q no_content (λ ends. absurd (false≢true (sym goes_on ∙ ends))) }
      ]
    ]

    token : is_content q.form ≡ true → IsWell text r.lines r.rest q → Reach text q.to
    token content w = record {
      lines = r.lines;
      rest = r.rest ++ q ∷ [];
      of_lines = r.of_lines;
      of_rest = _;
      lexed = lexed_token text r.lines r.rest r.of_lines r.of_rest q (token_at text q.from q.to w.t) r.lexed is_q content (content_ends_no_line q.form content) (record { kind = w.kind; placed = refl })
          (λ rule i b. kind_clean q.form (drop q.from (characters text)) (q.to - q.from) w.t rule i w.kind b) w.indented;
    }

    by_content : (b : Bool) → is_content q.form ≡ b → Reach text q.to ⊎ ((rule i : ℕ) × IsFirstBreak (characters text) rule i)
    by_content true content = elim (content_step text r.lines r.rest q r.lexed.cut is_q r.lexed.clean content (content_ends_no_line q.form content)) [
      | inl w ↦ inl (token content w)
      | inr broken ↦ inr broken
    ]
    by_content false no_content = inl (gap no_content)

pub nothing_yet : (cs : List ℕ) → IsClean cs 0
nothing_yet cs = record { pieces = λ rule i b le. omega (arith, le, b.stands.forward); lines = in_lines }
  where
    in_lines : (rule i : ℕ) (b : BreaksInLine cs rule i) → b.to ≤ 0 → ⊥
    in_lines rule i b le =
        let s = between_split cs 0 b.to (flat_map pieces_of b.before) b.pieces b.cut.pieces in
        some b.pieces s.mid b.content s.back
      where
        some : (ps : List Piece) (mid : ℕ) → IsTrue (has_content ps) → AreBetween cs mid ps b.to → ⊥
        some [] mid t a = false≢true t
        some (p ∷ ps) mid t a = omega (arith, le, a.1.forward, between_forward cs p.to b.to ps a.2)

begin : (text : List ℕ) → Reach text 0
begin text = record {
  lines = [];
  rest = [];
  of_lines = [];
  of_rest = [];
  lexed = record {
    cut = record { pieces = refl; ended = All-nil (IsLine (characters text)); goes_on = goes_on_none (characters text) };
    ended = refl;
    begun = refl;
    clean = nothing_yet (characters text);
  };
}

-- from a place to the end, in at most so many pieces
go_on : (text : List ℕ) (left from : ℕ) → length text ≤ size_limit → Reach text from → from ≤ length (characters text) → length (characters text) ≤ from + left → Outcome text
go_on text zero from small r le ends =
    at_end text r.lines r.rest r.of_lines r.of_rest small (subst (λ k. IsLexed text k r.lines r.rest r.of_lines r.of_rest) (let t : from ≡ length (characters text) = omega (arith, le, ends) in t) r.lexed)
go_on text (suc left) from small r le ends = elim (cases_lt from (length (characters text))) [
  | inr all ↦ at_end text r.lines r.rest r.of_lines r.of_rest small (subst (λ k. IsLexed text k r.lines r.rest r.of_lines r.of_rest) (let t : from ≡ length (characters text) = omega (arith, le, all) in t) r.lexed)
  | inl inside ↦ by_piece (go_on text left) (there_is_a_piece (characters text) from inside)
]
  where
    by_piece : ((to : ℕ) → length text ≤ size_limit → Reach text to → to ≤ length (characters text) → length (characters text) ≤ to + left → Outcome text) → StandsAt (characters text) from → Outcome text
    by_piece later s = elim (next text s.piece (subst (λ k. Reach text k) (sym s.starts) r) s.stands) [
      | inl further ↦ later s.piece.to small further s.within (omega (arith, ends, s.starts, s.stands.forward))
      | inr broken ↦ first_of_small text broken.0 broken.1 small broken.2
    ]

by_itself : IsTrue (comes_first too_large too_large)
unfolding comes_first
by_itself = refl

pub too_large_first : (text : List ℕ) → size_limit < length text → IsFirst (BreaksText text) (Some too_large)
too_large_first text large =
    subst (λ b. IsFirst (λ refusal. MatchBool b (refusal ≡ too_large) (BreaksCharacters (characters text) refusal)) (Some too_large)) (sym (lt-ltb size_limit (length text) large))
    (refl, λ refusal e. subst (λ (x : Refusal). IsTrue (comes_first too_large x)) (sym e) by_itself)

pub tokens_or_refusal : TokensOrRefusal
tokens_or_refusal text = elim (cases_lt size_limit (length text)) [
  | inl large ↦ inr (too_large, too_large_first text large)
  | inr small ↦ go_on text (length (characters text)) 0 small (begin text) (omega arith) (omega arith)
]

pub tokens_there : TokensAreThere
tokens_there text = (λ t. tokens_break_nothing text t.0 t.1 t.2, unbroken (tokens_or_refusal text))
  where
    unbroken : Outcome text → ((refusal : Refusal) → BreaksText text refusal → ⊥) → (tokens : List Token) × (comments : List Comment) × IsTokens text tokens comments
    unbroken (inl t) none = t
    unbroken (inr r) none = absurd (none r.0 r.1.0)
