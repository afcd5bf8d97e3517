-- What the reader holds when one more piece is read.
use Rattle.std.proofs.Common.{◌≡◌, ◌≢◌, ℕ, zero, suc, ◌+◌, ◌-◌, ◌<◌, ◌≤◌, ◌⊎◌, inl, inr, Bool, true, false, ◌||◌, List, [], ◌∷◌, ◌++◌, drop, take, length, refl, sym, ap, subst, ◌∙◌, arith, append_assoc}
use Rattle.std.specs.Prelude.{IsFalse, not, nat_eq, filter, map, take_while, slice_index, if◌then◌else◌}
use Rattle.std.proofs.lemmas.Bool.{false≢true, eqb-true}
use Rattle.std.proofs.lemmas.List.{append-nil, map-append}
use Rattle.std.proofs.lemmas.List.Elements.{filter-append}
use Rattle.px_lexer.specs.declared.forms.Form.{Form}
use Rattle.px_lexer.specs.declared.forms.Form.TheVariants as form
use Rattle.px_lexer.specs.declared.token_list.Comment.{Comment}
use Rattle.px_lexer.specs.declared.token_list.TokenKind.{TokenKind}
use Rattle.std.specs.List.{prefix_len}
use Rattle.px_lexer.specs.declared.token_list.TokenKind.TheVariants as kind
use Rattle.px_lexer.specs.declared.places.Place.{Place}
use Rattle.px_lexer.specs.Places.{is_line_break}
use Rattle.px_lexer.specs.Signs.{is_opening, is_closing}
use Rattle.px_lexer.specs.Pieces.{Piece, IsPiece, form_of, is_blank, spelling, is_content, is_comment}
use Rattle.px_lexer.specs.Lines.{Line, has_content, start_of, level_from, level_of, own_level, levels_of, last_level, open_levels, depth_behind, depth_after}
use Rattle.px_lexer.specs.Tokens.{token_at, indentation_tokens, comment_at, leading_comments}
use Rattle.px_lexer.specs.Reached.{IsPlace, token_from, level_tokens, levels_behind}
use Rattle.px_lexer.proofs.FormLemmas.{blank_begins, line_end_breaks, join_begins, comment_begins}
use Rattle.px_lexer.proofs.LevelLemmas.{open_levels-snoc}
use Rattle.px_lexer.proofs.Breaks.{start_kept, content_cases, has_content-append}

-- Brackets

pub depth_after-more : (cs : List ℕ) (depth : ℕ) (ps : List Piece) (q : Piece) → depth_after cs depth (ps ++ q ∷ []) ≡ depth_behind cs (depth_after cs depth ps) q
unfolding depth_after
depth_after-more cs depth [] q = refl
depth_after-more cs depth (p ∷ ps) q = depth_after-more cs (depth_behind cs depth p) ps q

-- a character that is no bracket
abbrev IsNoBracket : ℕ → Type 0
IsNoBracket c = (c ≢ 40) × (c ≢ 91) × (c ≢ 123) × (c ≢ 41) × (c ≢ 93) × (c ≢ 125)

abbrev depth_of : ℕ → List ℕ → ℕ
depth_of depth spelled = if is_opening spelled then suc depth else (if is_closing spelled then depth - 1 else depth)

other_number : (k c : ℕ) → c ≢ k → nat_eq k c ≡ false
other_number k c n = elim (content_cases (nat_eq k c)) [
  | inl e ↦ absurd (n (sym (eqb-true k c e)))
  | inr e ↦ e
]

no_bracket : (depth : ℕ) (spelled : List ℕ) → IsNoBracket (slice_index spelled 0) → depth_of depth spelled ≡ depth
no_bracket depth [] n = refl
no_bracket depth (c ∷ cs) n = rw (other_number 40 c n.0, other_number 91 c n.1, other_number 123 c n.2, other_number 41 c n.3, other_number 93 c n.4, other_number 125 c n.5) refl

apart : (test : ℕ → Bool) (c k : ℕ) → test c ≡ true → test k ≡ false → c ≢ k
apart test c k t f = λ e. false≢true (sym f ∙ subst (λ x. test x ≡ true) e t)

all_apart : (test : ℕ → Bool) (c : ℕ) → test c ≡ true → test 40 ≡ false → test 91 ≡ false → test 123 ≡ false → test 41 ≡ false → test 93 ≡ false → test 125 ≡ false → IsNoBracket c
all_apart test c t f g h i j k = (apart test c 40 t f, apart test c 91 t g, apart test c 123 t h, apart test c 41 t i, apart test c 93 t j, apart test c 125 t k)

gap_first : (found : Form) (cs : List ℕ) → found ≡ form_of cs → IsFalse (is_content found) → IsNoBracket (slice_index cs 0)
gap_first form.Blank cs e gap = all_apart is_blank (slice_index cs 0) (blank_begins cs (sym e)) refl refl refl refl refl refl
gap_first form.LineEnd cs e gap = all_apart is_line_break (slice_index cs 0) (line_end_breaks cs (sym e)) refl refl refl refl refl refl
gap_first form.Join cs e gap = subst IsNoBracket (sym (join_begins cs (sym e))) (all_apart (λ c. nat_eq c 92) 92 refl refl refl refl refl refl refl)
gap_first form.Comment cs e gap = subst IsNoBracket (sym (comment_begins cs (sym e))) (all_apart (λ c. nat_eq c 35) 35 refl refl refl refl refl refl refl)
gap_first form.Word cs e gap = absurd (false≢true (sym gap))
gap_first form.Number cs e gap = absurd (false≢true (sym gap))
gap_first form.Text cs e gap = absurd (false≢true (sym gap))
gap_first form.Sign cs e gap = absurd (false≢true (sym gap))
gap_first form.Stray cs e gap = absurd (false≢true (sym gap))

-- what the spelling of a piece begins with
spelled_first : (cs : List ℕ) (q : Piece) → q.from < q.to → slice_index (spelling cs q) 0 ≡ slice_index (drop q.from cs) 0
spelled_first cs q lt = take_first (q.to - q.from) (drop q.from cs) (omega (arith, lt))
  where
    take_first : (n : ℕ) (xs : List ℕ) → 0 < n → slice_index (take n xs) 0 ≡ slice_index xs 0
    take_first zero xs p = absurd (omega (arith, p))
    take_first (suc n) [] p = refl
    take_first (suc n) (x ∷ xs) p = refl

pub gap_depth : (cs : List ℕ) (depth : ℕ) (q : Piece) → IsPiece cs q → IsFalse (is_content q.form) → depth_behind cs depth q ≡ depth
gap_depth cs depth q is_q gap =
    no_bracket depth (spelling cs q) (subst IsNoBracket (sym (spelled_first cs q is_q.forward)) (gap_first q.form (drop q.from cs) is_q.formed gap))

by_depth : (b c : Bool) (depth : ℕ) → (if b then suc depth else (if c then depth - 1 else depth)) ≤ suc depth
by_depth true c depth = omega (arith)
by_depth false true depth = omega (arith)
by_depth false false depth = omega (arith)

pub depth_rises_by_one : (cs : List ℕ) (depth : ℕ) (q : Piece) → depth_behind cs depth q ≤ suc depth
depth_rises_by_one cs depth q = by_depth (is_opening (spelling cs q)) (is_closing (spelling cs q)) depth

-- Levels

pub own_level_kept : (cs : List ℕ) (rest : List Piece) (q : Piece) → (is_content q.form ≡ false) ⊎ (has_content rest ≡ true) → own_level cs (rest ++ q ∷ []) ≡ own_level cs rest
own_level_kept cs rest q h = elim (content_cases (has_content rest)) [
  | inl some ↦ both some (start_kept rest (q ∷ []) some)
  | inr none ↦ neither none h
]
  where
    whole : has_content (rest ++ q ∷ []) ≡ (has_content rest || (is_content q.form || false))
    whole = has_content-append rest (q ∷ [])

    both : has_content rest ≡ true → start_of (rest ++ q ∷ []) ≡ start_of rest → own_level cs (rest ++ q ∷ []) ≡ own_level cs rest
    both some e = rw (whole, some) (ap (λ start. level_from cs start ∷ []) e)

    neither : has_content rest ≡ false → (is_content q.form ≡ false) ⊎ (has_content rest ≡ true) → own_level cs (rest ++ q ∷ []) ≡ own_level cs rest
    neither none (inl gap) = rw (whole, none, gap) refl
    neither none (inr some) = absurd (false≢true (sym none ∙ some))

pub own_level_first : (cs : List ℕ) (rest : List Piece) (q : Piece) → is_content q.form ≡ true → has_content rest ≡ false → own_level cs (rest ++ q ∷ []) ≡ level_of cs (rest ++ q ∷ []) ∷ []
own_level_first cs rest q content none = go (has_content-append rest (q ∷ []))
  where
    go : has_content (rest ++ q ∷ []) ≡ (has_content rest || (is_content q.form || false)) → own_level cs (rest ++ q ∷ []) ≡ level_of cs (rest ++ q ∷ []) ∷ []
    go whole = rw (whole, none, content) refl

pub own_level_none : (cs : List ℕ) (rest : List Piece) → has_content rest ≡ false → own_level cs rest ≡ []
own_level_none cs rest none = rw none refl

pub last_level-more : (levels : List ℕ) (level : ℕ) → last_level (levels ++ level ∷ []) ≡ level
last_level-more levels level = go 0 levels
  where
    go : (x : ℕ) (xs : List ℕ) → slice_index (x ∷ (xs ++ level ∷ [])) (length (xs ++ level ∷ [])) ≡ level
    go x [] = refl
    go x (y ∷ ys) = go y ys

pub levels_more : (levels : List ℕ) (level : ℕ) → open_levels (levels ++ level ∷ []) ≡ levels_behind (open_levels levels) level
levels_more levels level = open_levels-snoc levels level

-- the levels of lines with one more
pub levels_of-more : (cs : List ℕ) (lines : List Line) (rest : List Piece) (q : Piece) → levels_of cs (lines ++ record { pieces = rest; ending = q } ∷ []) ++ own_level cs [] ≡ levels_of cs lines ++ own_level cs rest
levels_of-more cs [] rest q = append-nil _ ∙ append-nil _
levels_of-more cs (l ∷ ls) rest q =
    append_assoc (own_level cs l.pieces) (levels_of cs (ls ++ record { pieces = rest; ending = q } ∷ [])) (own_level cs [])
    ∙ ap (λ xs. own_level cs l.pieces ++ xs) (levels_of-more cs ls rest q)
    ∙ sym (append_assoc (own_level cs l.pieces) (levels_of cs ls) (own_level cs rest))

-- Tokens and comments by their places

pub placed_token : (text : List ℕ) (t : TokenKind) (from to : Place) → IsPlace text from → IsPlace text to → token_from t from to ≡ token_at text from.index to.index t
placed_token text t from to a b = rw (a.line, a.column, a.byte, b.byte) refl

pub placed_level_tokens : (text : List ℕ) (levels : List ℕ) (level : ℕ) (at : Place) → IsPlace text at → level_tokens (last_level levels) (open_levels levels) level at ≡ indentation_tokens text levels level at.index
placed_level_tokens text levels level at a = rw (placed_token text kind.Indent at at a a, placed_token text kind.Dedent at at a a) refl

abbrev leads : Piece → Bool
leads p = not (is_content p.form)

take_while_cons : (p : Piece) (ps : List Piece) → take_while leads (p ∷ ps) ≡ (if is_content p.form then [] else p ∷ take_while leads ps)
take_while_cons p ps = by_cases (is_content p.form)
  where
    one_more : 1 + prefix_len leads ps ≡ suc (prefix_len leads ps)
    one_more = omega (arith)

    by_cases : (b : Bool) → take (if not b then 1 + prefix_len leads ps else 0) (p ∷ ps) ≡ (if b then [] else p ∷ take_while leads ps)
    by_cases true = refl
    by_cases false = rw one_more refl

abbrev last_leading : List Piece → Piece → List Piece
last_leading ps q = if has_content ps then [] else (if is_content q.form then [] else q ∷ [])

take_leading : (ps : List Piece) (q : Piece) → take_while leads (ps ++ q ∷ []) ≡ take_while leads ps ++ last_leading ps q
take_leading [] q = take_while_cons q []
take_leading (p ∷ ps) q = take_while_cons p (ps ++ q ∷ []) ∙ by_cases (is_content p.form) (take_leading ps q) ∙ ap (λ xs. xs ++ last_leading (p ∷ ps) q) (sym (take_while_cons p ps))
  where
    by_cases : (b : Bool) → take_while leads (ps ++ q ∷ []) ≡ take_while leads ps ++ last_leading ps q
        → (if b then [] else p ∷ take_while leads (ps ++ q ∷ [])) ≡ (if b then [] else p ∷ take_while leads ps) ++ (if b || has_content ps then [] else (if is_content q.form then [] else q ∷ []))
    by_cases true e = refl
    by_cases false e = ap (λ xs. p ∷ xs) e

abbrev comments_of : List ℕ → List Piece → List Comment
comments_of text ps = map (comment_at text) (filter (λ (p : Piece). is_comment p.form) ps)

comments_of-append : (text : List ℕ) (ps qs : List Piece) → comments_of text (ps ++ qs) ≡ comments_of text ps ++ comments_of text qs
comments_of-append text ps qs = ap (map (comment_at text)) (filter-append (λ (p : Piece). is_comment p.form) ps qs) ∙ map-append (comment_at text) (filter (λ (p : Piece). is_comment p.form) ps) (filter (λ (p : Piece). is_comment p.form) qs)

-- the comment that a piece adds to the leading ones
abbrev pub leading_with : List ℕ → List Piece → Piece → List Comment
leading_with text ps q = if has_content ps then [] else (if is_comment q.form then comment_at text q ∷ [] else [])

last_comments : (text : List ℕ) (some content comment : Bool) (q : Piece) → is_comment q.form ≡ comment → (content ≡ true → comment ≡ false)
    → comments_of text (if some then [] else (if content then [] else q ∷ [])) ≡ (if some then [] else (if comment then comment_at text q ∷ [] else []))
last_comments text true content comment q e h = refl
last_comments text false true comment q e h = rw (h refl) refl
last_comments text false false true q e h = rw e refl
last_comments text false false false q e h = rw e refl

comment_is_gap : (form : Form) → is_content form ≡ true → is_comment form ≡ false
comment_is_gap form.Blank e = refl
comment_is_gap form.LineEnd e = refl
comment_is_gap form.Join e = refl
comment_is_gap form.Comment e = absurd (false≢true e)
comment_is_gap form.Word e = refl
comment_is_gap form.Number e = refl
comment_is_gap form.Text e = refl
comment_is_gap form.Sign e = refl
comment_is_gap form.Stray e = refl

pub leading_more : (text : List ℕ) (ps : List Piece) (q : Piece) → leading_comments text (ps ++ q ∷ []) ≡ leading_comments text ps ++ leading_with text ps q
leading_more text ps q =
    ap (comments_of text) (take_leading ps q)
    ∙ comments_of-append text (take_while leads ps) (last_leading ps q)
    ∙ ap (λ xs. leading_comments text ps ++ xs) (last_comments text (has_content ps) (is_content q.form) (is_comment q.form) q refl (comment_is_gap q.form))
