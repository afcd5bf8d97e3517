-- A text has one list of tokens, and none where it breaks a rule.
use Rattle.std.proofs.Common.{◌≡◌, ℕ, ◌-◌, ◌≤◌, inl, inr, Bool, true, false, List, [], ◌∷◌, ◌++◌, All, flat_map, drop, length, refl, sym, ap, subst, ◌∙◌, arith, append_assoc}
use Rattle.std.specs.Prelude.{IsTrue, IsFalse, MatchBool, filter, if◌then◌else◌, Contains}
use Rattle.std.specs.List.{AllZip}
use Rattle.std.proofs.lemmas.Bool.{false≢true, le-ltb, or_parts, or_left}
use Rattle.std.proofs.lemmas.List.{append-nil, append_cancel_left}
use Rattle.std.proofs.lemmas.List.Elements.{All-nil, All-cons, All-head, All-tail, All-append, All-push, Contains-get_or}
use Rattle.px_base.specs.declared.refusals.Refusal.{Refusal}
use Rattle.px_lexer.specs.declared.forms.Form.{Form}
use Rattle.px_lexer.specs.declared.forms.Form.TheVariants as form
use Rattle.px_lexer.specs.declared.token_list.Token.{Token}
use Rattle.px_lexer.specs.declared.token_list.Comment.{Comment}
use Rattle.px_lexer.specs.declared.token_list.TokenKind.TheVariants as kind
use Rattle.px_lexer.specs.Characters.{characters}
use Rattle.px_lexer.specs.Pieces.{Piece, IsPiece, AreBetween, is_content, is_line_end}
use Rattle.px_lexer.specs.Lines.{Line, IsLine, GoesOn, pieces_of, has_content, start_of, level_from, indented_to, level_of, own_level, levels_of, indentation_end}
use Rattle.px_lexer.specs.Tokens.{size_limit, IsTokenOf, token_at, token_behind, newline_at, end_of_text, tokens_before_line, AreOfContent, AreOfLine, AreOfLines, leading_comments, IsTokens}
use Rattle.px_lexer.specs.Refusals.{BreaksInPiece, BreaksInLine, IsMisindented, BreaksAt, not_utf8, in_piece, in_line, BreaksCharacters, BreaksText, too_large}
use Rattle.px_lexer.specs.Laws.{TokensAreUnique}
use Rattle.px_lexer.proofs.Cuts.{cuts_agree, between_append, between_forward, all_mid, flat_append, no_end_inside, first_lines, line_first, LineCases, same_line, later_line, line_cases}
use Rattle.px_lexer.proofs.Breaks.{content_cases, start_kept, has_content-append}
use Rattle.px_lexer.proofs.Lexed.{gap_breaks_nothing, indented_breaks_nothing}
use Rattle.px_lexer.proofs.PieceLaws.{kind_unique, kind_clean, piece_within, between_within}

-- The text is cut in one way

nothing_between : (cs : List ℕ) (at : ℕ) (ps : List Piece) → AreBetween cs at ps at → ps ≡ []
nothing_between cs at [] a = refl
nothing_between cs at (p ∷ ps) a = absurd (omega (arith, a.0, a.1.forward, between_forward cs p.to at ps a.2))

pub cuts_same : (cs : List ℕ) (to : ℕ) (ps qs : List Piece) → AreBetween cs 0 ps to → AreBetween cs 0 qs to → ps ≡ qs
cuts_same cs to ps qs a b =
    let f = cuts_agree cs 0 to to ps qs a b (omega arith) in
    sym (f.all ∙ ap (λ more. ps ++ more) (nothing_between cs to f.more f.reached) ∙ append-nil ps)

pub lines_same : (cs : List ℕ) (ls ms : List Line) (ps qs : List Piece) → All (IsLine cs) ls → All (IsLine cs) ms → GoesOn cs ps → GoesOn cs qs
    → flat_map pieces_of ls ++ ps ≡ flat_map pieces_of ms ++ qs → (ls ≡ ms) × (ps ≡ qs)
lines_same cs [] [] ps qs a b g h e = (refl, e)
lines_same cs (l ∷ ls) [] ps qs a b g h e =
    absurd (no_end_inside cs l qs (flat_map pieces_of ls ++ ps) (All-head (IsLine cs) l ls a) h (sym e ∙ line_first l ls ps))
lines_same cs [] (m ∷ ms) ps qs a b g h e =
    absurd (no_end_inside cs m ps (flat_map pieces_of ms ++ qs) (All-head (IsLine cs) m ms b) g (e ∙ line_first m ms qs))
lines_same cs (l ∷ ls) (m ∷ ms) ps qs a b g h e =
    let firsts = first_lines cs l m _ _ (All-head (IsLine cs) l ls a) (All-head (IsLine cs) m ms b) (sym (line_first l ls ps) ∙ e ∙ line_first m ms qs) in
    let rest = lines_same cs ls ms ps qs (All-tail (IsLine cs) l ls a) (All-tail (IsLine cs) m ms b) g h firsts.1 in
    (ap (λ (x : Line). x ∷ ls) firsts.0 ∙ ap (λ xs. m ∷ xs) rest.0, rest.1)

-- One list of tokens

token_unique : (text : List ℕ) (p : Piece) (t u : Token) → IsTokenOf text p t → IsTokenOf text p u → t ≡ u
token_unique text p t u a b =
    a.placed ∙ ap (λ k. token_at text p.from p.to k) (kind_unique p.form (drop p.from (characters text)) (p.to - p.from) t.kind u.kind a.kind b.kind) ∙ sym b.placed

spelled_unique : (text : List ℕ) (ps : List Piece) (ts us : List Token) → AllZip (IsTokenOf text) ps ts → AllZip (IsTokenOf text) ps us → ts ≡ us
spelled_unique text [] [] [] a b = refl
spelled_unique text [] [] (u ∷ us) a b = absurd b
spelled_unique text [] (t ∷ ts) us a b = absurd a
spelled_unique text (p ∷ ps) [] us a b = absurd a
spelled_unique text (p ∷ ps) (t ∷ ts) [] a b = absurd b
spelled_unique text (p ∷ ps) (t ∷ ts) (u ∷ us) a b =
    ap (λ x. x ∷ ts) (token_unique text p t u a.0 b.0) ∙ ap (λ xs. u ∷ xs) (spelled_unique text ps ts us a.1 b.1)

content_of : (text levels : List ℕ) (pieces : List Piece) (newline : Token) (tokens : List Token) → has_content pieces ≡ true → AreOfLine text levels pieces newline tokens → AreOfContent text levels pieces newline tokens
content_of text levels pieces newline tokens e b = subst (λ t. MatchBool t (AreOfContent text levels pieces newline tokens) (tokens ≡ [])) e b

nothing_of : (text levels : List ℕ) (pieces : List Piece) (newline : Token) (tokens : List Token) → has_content pieces ≡ false → AreOfLine text levels pieces newline tokens → tokens ≡ []
nothing_of text levels pieces newline tokens e b = subst (λ t. MatchBool t (AreOfContent text levels pieces newline tokens) (tokens ≡ [])) e b

line_unique : (text levels : List ℕ) (pieces : List Piece) (newline : Token) (ts us : List Token) → AreOfLine text levels pieces newline ts → AreOfLine text levels pieces newline us → ts ≡ us
line_unique text levels pieces newline ts us a b = elim (content_cases (has_content pieces)) [
  | inl some ↦ (
      let x = content_of text levels pieces newline ts some a in
      let y = content_of text levels pieces newline us some b in
      x.all ∙ ap (λ xs. tokens_before_line text levels pieces ++ xs ++ newline ∷ []) (spelled_unique text _ x.spelled y.spelled x.each y.each) ∙ sym y.all
      )
  | inr none ↦ nothing_of text levels pieces newline ts none a ∙ sym (nothing_of text levels pieces newline us none b)
]

lines_unique : (text levels : List ℕ) (lines : List Line) (ts us : List Token) → AreOfLines text levels lines ts → AreOfLines text levels lines us → ts ≡ us
lines_unique text levels [] ts us a b = a ∙ sym b
lines_unique text levels (l ∷ ls) ts us a b =
    a.2
    ∙ ap (λ xs. xs ++ a.1) (line_unique text levels l.pieces (newline_at text l.ending) a.0 b.0 a.3 b.3)
    ∙ ap (λ xs. b.0 ++ xs) (lines_unique text (levels ++ own_level (characters text) l.pieces) ls a.1 b.1 a.4 b.4)
    ∙ sym b.2

pub tokens_unique : TokensAreUnique
tokens_unique text tokens others comments other_comments a b =
    let cs = characters text in
    let pieces = cuts_same cs (length cs) (flat_map pieces_of a.lines ++ a.rest) (flat_map pieces_of b.lines ++ b.rest) a.cut.pieces b.cut.pieces in
    let same = lines_same cs a.lines b.lines a.rest b.rest a.cut.ended b.cut.ended a.cut.goes_on b.cut.goes_on pieces in
    let ended : AreOfLines text [] b.lines a.of_lines = subst (λ ls. AreOfLines text [] ls a.of_lines) same.0 a.ended in
    let unended_there : AreOfLine text (levels_of cs b.lines) a.rest (token_behind text kind.Newline) a.of_rest =
    subst (λ ls. AreOfLine text (levels_of cs ls) a.rest (token_behind text kind.Newline) a.of_rest) same.0 a.unended in
    let unended : AreOfLine text (levels_of cs b.lines) b.rest (token_behind text kind.Newline) a.of_rest =
    subst (λ ps. AreOfLine text (levels_of cs b.lines) ps (token_behind text kind.Newline) a.of_rest) same.1 unended_there in
    let of_lines = lines_unique text [] b.lines a.of_lines b.of_lines ended b.ended in
    let of_rest = line_unique text (levels_of cs b.lines) b.rest (token_behind text kind.Newline) a.of_rest b.of_rest unended b.unended in (
      a.all
          ∙ ap (λ ls. a.of_lines ++ a.of_rest ++ end_of_text text (levels_of cs ls ++ own_level cs a.rest)) same.0
          ∙ ap (λ ps. a.of_lines ++ a.of_rest ++ end_of_text text (levels_of cs b.lines ++ own_level cs ps)) same.1
          ∙ ap (λ ts. ts ++ a.of_rest ++ end_of_text text (levels_of cs b.lines ++ own_level cs b.rest)) of_lines
          ∙ ap (λ ts. b.of_lines ++ ts ++ end_of_text text (levels_of cs b.lines ++ own_level cs b.rest)) of_rest
          ∙ sym b.all,
      a.leading ∙ ap (λ ps. leading_comments text ps) pieces ∙ sym b.leading,
    )

-- A text with tokens breaks no rule

-- the piece is a token, where it is content
abbrev pub HasToken : List ℕ → Piece → Type 0
HasToken text p = IsTrue (is_content p.form) → (t : Token) × IsTokenOf text p t

each_has : (text : List ℕ) (ps : List Piece) (ts : List Token) → AllZip (IsTokenOf text) (filter (λ (p : Piece). is_content p.form) ps) ts → All (HasToken text) ps
each_has text [] ts z = All-nil (HasToken text)
each_has text (p ∷ ps) ts z = by_cases (is_content p.form) refl (each_has text ps) ts z
  where
    by_cases : (b : Bool) → is_content p.form ≡ b → ((us : List Token) → AllZip (IsTokenOf text) (filter (λ (r : Piece). is_content r.form) ps) us → All (HasToken text) ps) → (us : List Token)
        → AllZip (IsTokenOf text) (if b then p ∷ filter (λ (r : Piece). is_content r.form) ps else filter (λ (r : Piece). is_content r.form) ps) us → All (HasToken text) (p ∷ ps)
    by_cases true e later [] y = absurd y
    by_cases true e later (u ∷ us) y = All-cons (HasToken text) p ps (λ content. (u, y.0)) (later us y.1)
    by_cases false e later us y = All-cons (HasToken text) p ps (λ content. absurd (false≢true (sym e ∙ content))) (later us y)

none_has : (text : List ℕ) (ps : List Piece) → has_content ps ≡ false → All (HasToken text) ps
none_has text [] e = All-nil (HasToken text)
none_has text (p ∷ ps) e =
    let parts = or_parts (is_content p.form) (has_content ps) e in
    All-cons (HasToken text) p ps (λ content. absurd (false≢true (sym parts.0 ∙ content))) (none_has text ps parts.1)

line_has : (text levels : List ℕ) (ps : List Piece) (newline : Token) (ts : List Token) → AreOfLine text levels ps newline ts → All (HasToken text) ps
line_has text levels ps newline ts a = elim (content_cases (has_content ps)) [
  | inl some ↦ (let x = content_of text levels ps newline ts some a in each_has text ps x.spelled x.each)
  | inr none ↦ none_has text ps none
]

end_gives_nothing : (found : Form) → IsTrue (is_line_end found) → IsFalse (is_content found)
end_gives_nothing form.Blank e = absurd (false≢true e)
end_gives_nothing form.LineEnd e = refl
end_gives_nothing form.Join e = absurd (false≢true e)
end_gives_nothing form.Comment e = absurd (false≢true e)
end_gives_nothing form.Word e = absurd (false≢true e)
end_gives_nothing form.Number e = absurd (false≢true e)
end_gives_nothing form.Text e = absurd (false≢true e)
end_gives_nothing form.Sign e = absurd (false≢true e)
end_gives_nothing form.Stray e = absurd (false≢true e)

lines_have : (text levels : List ℕ) (lines : List Line) (ts : List Token) → All (IsLine (characters text)) lines → AreOfLines text levels lines ts → All (HasToken text) (flat_map pieces_of lines)
lines_have text levels [] ts ended a = All-nil (HasToken text)
lines_have text levels (l ∷ ls) ts ended a =
    let is_l = All-head (IsLine (characters text)) l ls ended in
    let own = line_has text levels l.pieces (newline_at text l.ending) a.0 a.3 in
    let ending : HasToken text l.ending = λ content. absurd (false≢true (sym (end_gives_nothing l.ending.form is_l.ended) ∙ content)) in
    let others = lines_have text (levels ++ own_level (characters text) l.pieces) ls a.1 (All-tail (IsLine (characters text)) l ls ended) a.4 in
    All-append (HasToken text) (pieces_of l) (flat_map pieces_of ls) (All-push (HasToken text) l.pieces l.ending own ending) others

pub pieces_have : (text : List ℕ) (tokens : List Token) (comments : List Comment) (is : IsTokens text tokens comments) → All (HasToken text) (flat_map pieces_of is.lines ++ is.rest)
pieces_have text tokens comments is =
    All-append (HasToken text) (flat_map pieces_of is.lines) is.rest
    (lines_have text [] is.lines is.of_lines is.cut.ended is.ended)
    (line_has text (levels_of (characters text) is.lines) is.rest (token_behind text kind.Newline) is.of_rest is.unended)

-- a piece that stands in the text is one of its pieces
pub stands_among : (cs : List ℕ) (to : ℕ) (all before : List Piece) (p : Piece) → AreBetween cs 0 all to → AreBetween cs 0 before p.from → IsPiece cs p → p.to ≤ to
    → (more : List Piece) × (all ≡ before ++ p ∷ more)
stands_among cs to all before p a b is_p le =
    let there = between_append cs 0 p.from p.to before (p ∷ []) b (refl, is_p, refl) in
    let f = cuts_agree cs 0 p.to to (before ++ p ∷ []) all there a le in
    (f.more, f.all ∙ append_assoc before (p ∷ []) f.more)

no_piece_breaks : (text : List ℕ) (tokens : List Token) (comments : List Comment) → IsTokens text tokens comments → (rule i : ℕ) → BreaksInPiece (characters text) rule i → ⊥
no_piece_breaks text tokens comments is rule i b =
    let cs = characters text in
    let among = stands_among cs (length cs) (flat_map pieces_of is.lines ++ is.rest) b.before b.piece is.cut.pieces b.reached b.stands (piece_within cs b.piece b.stands) in
    let all = subst (λ ps. All (HasToken text) ps) among.1 (pieces_have text tokens comments is) in
    let has : HasToken text b.piece = all_mid (HasToken text) b.before b.piece among.0 all in
    elim (content_cases (is_content b.piece.form)) [
      | inl content ↦ (
          let token = has content in
          kind_clean b.piece.form (drop b.piece.from cs) (b.piece.to - b.piece.from) token.0.kind rule b.index token.1.kind b.broken
          )
      | inr gap ↦ gap_breaks_nothing b.piece.form (drop b.piece.from cs) (b.piece.to - b.piece.from) rule b.index gap b.broken
    ]

-- Lines

-- of two fronts of a list one is a front of the other
pub data FrontCases {A : Type 0} (xs ys : List A) (y : A) : Type 0 where
  inside : (more : List A) → ys ≡ xs ++ more → FrontCases xs ys y
  over : (more : List A) → xs ≡ ys ++ y ∷ more → FrontCases xs ys y

pub front_cases : {A : Type 0} (xs ys us vs : List A) (y : A) → xs ++ us ≡ ys ++ y ∷ vs → FrontCases xs ys y
front_cases [] ys us vs y e = inside ys refl
front_cases (x ∷ xs) [] us vs y e = over xs (let t : x ∷ xs ≡ y ∷ xs = cc in t)
front_cases {A} (x ∷ xs) (z ∷ ys) us vs y e = by_tail (front_cases xs ys us vs y (let t : xs ++ us ≡ ys ++ y ∷ vs = cc in t))
  where
    by_tail : FrontCases xs ys y → FrontCases (x ∷ xs) (z ∷ ys) y
    by_tail (inside more p) = inside more (let t : z ∷ ys ≡ x ∷ xs ++ more = cc in t)
    by_tail (over more p) = over more (let t : x ∷ xs ≡ z ∷ ys ++ y ∷ more = cc in t)

-- the tokens of one of the lines
line_among : (text levels : List ℕ) (ls : List Line) (l : Line) (ms : List Line) (ts : List Token) → AreOfLines text levels (ls ++ l ∷ ms) ts
    → (own : List Token) × AreOfLine text (levels ++ levels_of (characters text) ls) l.pieces (newline_at text l.ending) own
line_among text levels [] l ms ts a = (a.0, subst (λ xs. AreOfLine text xs l.pieces (newline_at text l.ending) a.0) (sym (append-nil levels)) a.3)
line_among text levels (k ∷ ls) l ms ts a =
    let later = line_among text (levels ++ own_level (characters text) k.pieces) ls l ms a.1 a.4 in
    (later.0, subst (λ xs. AreOfLine text xs l.pieces (newline_at text l.ending) later.0) (append_assoc levels (own_level (characters text) k.pieces) (levels_of (characters text) ls)) later.1)

-- a line that goes on behind some pieces with content is indented as they are
front_breaks_nothing : (text levels : List ℕ) (ps more : List Piece) (newline : Token) (ts : List Token) (rule i : ℕ) → AreOfLine text levels (ps ++ more) newline ts → has_content ps ≡ true
    → i ≡ indentation_end (characters text) ps → IsMisindented (characters text) levels (level_of (characters text) ps) rule i → ⊥
front_breaks_nothing text levels ps more newline ts rule i a content placed broken =
    let cs = characters text in
    let x = content_of text levels (ps ++ more) newline ts (has_content-append ps more ∙ or_left (has_content ps) (has_content more) content) a in
    let start : start_of ps ≡ start_of (ps ++ more) = sym (start_kept ps more content) in
    let here = subst (λ k. IsMisindented cs levels (level_of cs ps) rule k) placed broken in
    indented_breaks_nothing cs levels (ps ++ more) rule x.indented (subst (λ s. IsMisindented cs levels (level_from cs s) rule (indented_to cs s)) start here)

no_line_breaks : (text : List ℕ) (tokens : List Token) (comments : List Comment) → IsTokens text tokens comments → (rule i : ℕ) → BreaksInLine (characters text) rule i → ⊥
no_line_breaks text tokens comments is rule i b =
    let cs = characters text in
    let within = between_within cs 0 b.to (flat_map pieces_of b.before ++ b.pieces) (omega arith) b.cut.pieces in
    let f = cuts_agree cs 0 b.to (length cs) (flat_map pieces_of b.before ++ b.pieces) (flat_map pieces_of is.lines ++ is.rest) b.cut.pieces is.cut.pieces within in
    let whole = f.all ∙ append_assoc (flat_map pieces_of b.before) b.pieces f.more in
    by_cases f.more whole (line_cases cs is.lines b.before is.rest b.pieces f.more is.cut.ended b.cut.ended is.cut.goes_on whole)
  where
    in_it : (l : Line) (others : List Line) (more : List Piece) → is.lines ≡ b.before ++ l ∷ others → FrontCases b.pieces l.pieces l.ending → ⊥
    in_it l others more e (inside rest p) =
        let ended = subst (λ ls. AreOfLines text [] ls is.of_lines) e is.ended in
        let own = line_among text [] b.before l others is.of_lines ended in
        let there = subst (λ ps. AreOfLine text (levels_of (characters text) b.before) ps (newline_at text l.ending) own.0) p own.1 in
        front_breaks_nothing text (levels_of (characters text) b.before) b.pieces rest (newline_at text l.ending) own.0 rule i there b.content b.placed b.broken
    in_it l others more e (over rest p) =
        let is_l = all_mid (IsLine (characters text)) b.before l others (subst (λ ls. All (IsLine (characters text)) ls) e is.cut.ended) in
        no_end_inside (characters text) l b.pieces rest is_l b.cut.goes_on p

    by_cases : (more : List Piece) → flat_map pieces_of is.lines ++ is.rest ≡ flat_map pieces_of b.before ++ (b.pieces ++ more) → LineCases is.lines b.before is.rest b.pieces more → ⊥
    by_cases more whole (same_line e p) =
        let there_lines = subst (λ ls. AreOfLine text (levels_of (characters text) ls) is.rest (token_behind text kind.Newline) is.of_rest) e is.unended in
        let there = subst (λ ps. AreOfLine text (levels_of (characters text) b.before) ps (token_behind text kind.Newline) is.of_rest) p there_lines in
        front_breaks_nothing text (levels_of (characters text) b.before) b.pieces more (token_behind text kind.Newline) is.of_rest rule i there b.content b.placed b.broken
    by_cases more whole (later_line l others e) =
        let split : flat_map pieces_of is.lines ++ is.rest ≡ flat_map pieces_of b.before ++ (l.pieces ++ l.ending ∷ (flat_map pieces_of others ++ is.rest)) =
        ap (λ ls. flat_map pieces_of ls ++ is.rest) e
        ∙ ap (λ ps. ps ++ is.rest) (flat_append b.before (l ∷ others))
        ∙ append_assoc (flat_map pieces_of b.before) (flat_map pieces_of (l ∷ others)) is.rest
        ∙ ap (λ ps. flat_map pieces_of b.before ++ ps) (line_first l others is.rest) in
        let behind = append_cancel_left (flat_map pieces_of b.before) (b.pieces ++ more) (l.pieces ++ l.ending ∷ (flat_map pieces_of others ++ is.rest)) (sym whole ∙ split) in
        in_it l others more e (front_cases b.pieces l.pieces more (flat_map pieces_of others ++ is.rest) l.ending behind)

none_broken : (text : List ℕ) (tokens : List Token) (comments : List Comment) → IsTokens text tokens comments → (rule i : ℕ) → BreaksAt (characters text) rule i → ⊥
none_broken text tokens comments is rule i (not_utf8 one there) =
    is.readable (subst (λ c. Contains (characters text) c) there.1 (Contains-get_or (characters text) i 0 there.0))
none_broken text tokens comments is rule i (in_piece b) = no_piece_breaks text tokens comments is rule i b
none_broken text tokens comments is rule i (in_line b) = no_line_breaks text tokens comments is rule i b

-- what a text that isn't too large breaks, its characters break
pub breaks_of_small : (text : List ℕ) (refusal : Refusal) → length text ≤ size_limit → BreaksText text refusal → BreaksCharacters (characters text) refusal
breaks_of_small text refusal small b =
    subst (λ t. MatchBool t (refusal ≡ too_large) (BreaksCharacters (characters text) refusal)) (le-ltb size_limit (length text) small) b

-- a text with tokens breaks no rule
pub tokens_break_nothing : (text : List ℕ) (tokens : List Token) (comments : List Comment) → IsTokens text tokens comments → (refusal : Refusal) → BreaksText text refusal → ⊥
tokens_break_nothing text tokens comments is refusal b =
    let broken = breaks_of_small text refusal is.small b in
    none_broken text tokens comments is refusal.number broken.0 broken.1
