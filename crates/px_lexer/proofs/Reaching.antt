-- What the reader has reached when one more piece is read.
use Rattle.std.proofs.Common.{◌≡◌, ℕ, suc, ◌-◌, ◌<◌, ◌≤◌, inl, inr, Bool, true, false, ◌||◌, List, [], ◌∷◌, ◌++◌, flat_map, drop, length, refl, sym, ap, subst, ◌∙◌, arith, append_assoc}
use Rattle.std.specs.Prelude.{IsTrue, IsFalse, MatchBool, Contains, None, if◌then◌else◌, nat_lt, filter, replicate, slice_index, ◌&&◌}
use Rattle.std.specs.List.{list_all}
use Rattle.std.proofs.lemmas.Bool.{false≢true}
use Rattle.std.proofs.lemmas.List.{append-nil}
use Rattle.std.proofs.lemmas.List.Elements.{All-nil}
use Rattle.px_lexer.specs.declared.forms.Form.{Form}
use Rattle.px_lexer.specs.declared.forms.Form.TheVariants as form
use Rattle.px_lexer.specs.declared.token_list.Token.{Token}
use Rattle.px_lexer.specs.declared.token_list.Comment.{Comment}
use Rattle.px_lexer.specs.declared.token_list.TokenKind.{TokenKind}
use Rattle.px_lexer.specs.declared.token_list.TokenKind.TheVariants as kind
use Rattle.px_lexer.specs.declared.places.Place.{Place}
use Rattle.px_lexer.specs.declared.reader.Reader.{Reader}
use Rattle.px_lexer.specs.Characters.{unreadable, characters}
use Rattle.px_lexer.specs.Pieces.{Piece, IsPiece, AreBetween, form_of, is_content, is_comment, is_line_end}
use Rattle.px_lexer.specs.Lines.{Line, IsLine, pieces_of, has_content, start_of, level_from, indented_to, level_of, own_level, levels_of, last_level, open_levels, depth_behind, depth_after, IsIndented}
use Rattle.px_lexer.specs.Tokens.{size_limit, token_at, token_behind, end_of_text, IsTokens, IsKind, IsTokenOf, indentation_tokens, tokens_before_line, comment_at, leading_comments}
use Rattle.px_lexer.specs.Refusals.{BreaksIn, IsMisindented, BreaksAt, not_utf8}
use Rattle.px_lexer.specs.Readers.{EndsAt}
use Rattle.px_lexer.specs.Reached.{IsPlace, IsNear, token_from, comment_from, level_tokens, levels_behind, IsIndentationFinding, IsOpened, IsStarted, IsClean, IsLexed, IsHeld, IsReached}
use Rattle.px_lexer.proofs.Cuts.{between_append, start_at}
use Rattle.px_lexer.proofs.Breaks.{has_content-append, content_cases, IsFirstBreak}
use Rattle.px_lexer.proofs.Lexed.{goes_on_none, or_left, or_right, indented_of_clean, flat_one, lexed_gap, lexed_line, lexed_token, line_end_tokens, token_with_changes}
use Rattle.px_lexer.proofs.CharacterLemmas.{unreadable_last}
use Rattle.px_lexer.proofs.FirstLaws.{lands_or_not, CantBeRead, content_ends_no_line, nothing_yet, clean_at_end, last_tokens, tokens_at_end}
use Rattle.px_lexer.proofs.Holding.{depth_after-more, gap_depth, depth_rises_by_one, own_level_kept, own_level_first, own_level_none, last_level-more, levels_more, levels_of-more, placed_token, placed_level_tokens, leading_with, leading_more}

abbrev pub piece_at : Form → ℕ → ℕ → Piece
piece_at form from to = record { form = form; from = from; to = to }

pub piece_stands : (form : Form) (cs : List ℕ) (from to : ℕ) → form ≡ form_of (drop from cs) → EndsAt form cs from to → IsPiece cs (piece_at form from to)
piece_stands form cs from to e ends = record { inside = omega (arith, ends.forward, ends.within); formed = e; forward = ends.forward; whole = ends.whole }

or_nothing : (b c : Bool) → c ≡ false → (b || (c || false)) ≡ b
or_nothing true c e = refl
or_nothing false true e = e
or_nothing false false e = refl

-- the reader at a later place, with these comments
abbrev pub moved : Reader → Place → List Comment → Reader
moved r place comments = record { at = place; start = r.start; depth = r.depth; started = r.started; any_token = r.any_token; levels = r.levels; last_level = r.last_level; list = r.list; comments = comments }

pub reached_gap : (text : List ℕ) (r : Reader) (form : Form) (place : Place) (comments : List Comment) → IsReached text r → IsPlace text place → IsNear place
    → form ≡ form_of (drop r.at.index (characters text)) → EndsAt form (characters text) r.at.index place.index → IsFalse (is_content form) → (IsTrue (is_line_end form) → 0 < r.depth)
    → ((lines : List Line) (rest : List Piece) → r.any_token ≡ has_content (flat_map pieces_of lines ++ rest)
    → comments ≡ r.comments ++ leading_with text (flat_map pieces_of lines ++ rest) (piece_at form r.at.index place.index))
    → IsReached text (moved r place comments)
reached_gap text r form place comments x there near e ends gap inside with =
    let q : Piece = piece_at form r.at.index place.index in
    let before : List Piece = flat_map pieces_of x.lines in
    let is_q : IsPiece (characters text) q = piece_stands form (characters text) r.at.index place.index e ends in
    record {
      lines = x.lines;
      rest = x.rest ++ q ∷ [];
      of_lines = x.of_lines;
      of_rest = x.of_rest;
      lexed = lexed_gap text x.lines x.rest x.of_lines x.of_rest q x.lexed is_q gap (λ t. subst (λ d. 0 < d) x.held.depth (inside t));
      held = record {
        at = there;
        start = x.held.start;
        near = near;
        near_start = x.held.near_start;
        line_start = x.held.line_start;
        line_rest = between_append (characters text) r.start.index r.at.index place.index x.rest (q ∷ []) x.held.line_rest (refl, is_q, refl);
        within = ends.within;
        depth = x.held.depth ∙ sym (depth_after-more (characters text) 0 x.rest q ∙ gap_depth (characters text) (depth_after (characters text) 0 x.rest) q is_q gap);
        shallow = omega (arith, x.held.shallow, ends.forward);
        started = x.held.started ∙ sym (has_content-append x.rest (q ∷ []) ∙ or_nothing (has_content x.rest) (is_content form) gap);
        any_token = x.held.any_token ∙ sym (ap has_content (sym (append_assoc before x.rest (q ∷ []))) ∙ has_content-append (before ++ x.rest) (q ∷ []) ∙ or_nothing (has_content (before ++ x.rest)) (is_content form) gap);
        levels = x.held.levels ∙ ap (λ ls. open_levels (levels_of (characters text) x.lines ++ ls)) (sym (own_level_kept (characters text) x.rest q (inl gap)));
        last_level = x.held.last_level ∙ ap (λ ls. last_level (levels_of (characters text) x.lines ++ ls)) (sym (own_level_kept (characters text) x.rest q (inl gap)));
        comments = with x.lines x.rest x.held.any_token ∙ ap (λ cs. cs ++ leading_with text (before ++ x.rest) q) x.held.comments ∙ sym (leading_more text (before ++ x.rest) q) ∙ ap (leading_comments text) (append_assoc before x.rest (q ∷ []));
      };
      list = x.list;
    }

-- no comment is added
pub no_comment : (text : List ℕ) (ps : List Piece) (q : Piece) (comments : List Comment) → IsFalse (is_comment q.form) → comments ≡ comments ++ leading_with text ps q
no_comment text ps q comments e = by_cases (has_content ps) (is_comment q.form) e
  where
    by_cases : (b c : Bool) → c ≡ false → comments ≡ comments ++ (if b then [] else (if c then comment_at text q ∷ [] else []))
    by_cases true c e = sym (append-nil comments)
    by_cases false true e = absurd (false≢true (sym e))
    by_cases false false e = sym (append-nil comments)

pub placed_comment : (text : List ℕ) (form : Form) (from to : Place) → IsPlace text from → IsPlace text to → comment_from from to ≡ comment_at text (piece_at form from.index to.index)
placed_comment text form from to a b = rw (a.line, a.column, a.byte, b.byte) refl

-- a comment is added where no token stands before it
pub one_comment : (text : List ℕ) (ps : List Piece) (r : Reader) (place : Place) (any : Bool) → any ≡ has_content ps → IsPlace text r.at → IsPlace text place
    → r.comments ++ (if any then [] else comment_from r.at place ∷ []) ≡ r.comments ++ leading_with text ps (piece_at form.Comment r.at.index place.index)
one_comment text ps r place any e a b = rw (e, placed_comment text form.Comment r.at place a b) refl

-- The end of a line

depth_none : (cs : List ℕ) (depth : ℕ) → depth ≡ 0 → depth ≡ depth_after cs 0 []
unfolding depth_after
depth_none cs depth e = e

newline_placed : (text : List ℕ) (r : Reader) (rest : List Piece) (place : Place) → r.started ≡ has_content rest → IsPlace text r.at → IsPlace text place
    → (if r.started then token_from kind.Newline r.at place ∷ [] else []) ≡ line_end_tokens text rest (piece_at form.LineEnd r.at.index place.index)
newline_placed text r rest place e a b = rw (e, placed_token text kind.Newline r.at place a b) refl

-- the reader behind a line end that ends a logical line, with these tokens
abbrev pub at_line_start : Reader → Place → List Token → Reader
at_line_start r place tokens = record { at = place; start = place; depth = r.depth; started = false; any_token = r.any_token; levels = r.levels; last_level = r.last_level; list = tokens; comments = r.comments }

same_pieces : (lines : List Line) (rest : List Piece) (q : Piece) → flat_map pieces_of (lines ++ record { pieces = rest; ending = q } ∷ []) ++ [] ≡ (flat_map pieces_of lines ++ rest) ++ q ∷ []
same_pieces lines rest q = sym (flat_one lines rest q)

pub reached_line : (text : List ℕ) (r : Reader) (place : Place) → IsReached text r → IsPlace text place → IsNear place
    → form.LineEnd ≡ form_of (drop r.at.index (characters text)) → EndsAt form.LineEnd (characters text) r.at.index place.index → r.depth ≡ 0
    → IsReached text (at_line_start r place (r.list ++ (if r.started then token_from kind.Newline r.at place ∷ [] else [])))
reached_line text r place x there near e ends outside =
    let q : Piece = piece_at form.LineEnd r.at.index place.index in
    let line : Line = record { pieces = x.rest; ending = q } in
    let before : List Piece = flat_map pieces_of x.lines in
    let is_q : IsPiece (characters text) q = piece_stands form.LineEnd (characters text) r.at.index place.index e ends in
    let lexed = lexed_line text x.lines x.rest x.of_lines x.of_rest q x.lexed is_q refl refl (sym x.held.depth ∙ outside) in
    record {
      lines = x.lines ++ line ∷ [];
      rest = [];
      of_lines = x.of_lines ++ (x.of_rest ++ line_end_tokens text x.rest q);
      of_rest = [];
      lexed = lexed;
      held = record {
        at = there;
        start = there;
        near = near;
        near_start = near;
        line_start = subst (λ ps. AreBetween (characters text) 0 ps place.index) (append-nil _) lexed.cut.pieces;
        line_rest = refl;
        within = ends.within;
        depth = depth_none (characters text) r.depth outside;
        shallow = omega (arith, outside);
        started = refl;
        any_token = x.held.any_token ∙ sym (ap has_content (same_pieces x.lines x.rest q) ∙ has_content-append (before ++ x.rest) (q ∷ []) ∙ or_nothing (has_content (before ++ x.rest)) false refl);
        levels = x.held.levels ∙ ap open_levels (sym (levels_of-more (characters text) x.lines x.rest q));
        last_level = x.held.last_level ∙ ap last_level (sym (levels_of-more (characters text) x.lines x.rest q));
        comments = x.held.comments ∙ no_comment text (before ++ x.rest) q (leading_comments text (before ++ x.rest)) refl ∙ sym (leading_more text (before ++ x.rest) q) ∙ ap (leading_comments text) (sym (same_pieces x.lines x.rest q));
      };
      list = ap (λ ts. ts ++ (if r.started then token_from kind.Newline r.at place ∷ [] else [])) x.list
          ∙ append_assoc x.of_lines x.of_rest (if r.started then token_from kind.Newline r.at place ∷ [] else [])
          ∙ ap (λ ts. x.of_lines ++ (x.of_rest ++ ts)) (newline_placed text r x.rest place x.held.started x.held.at there)
          ∙ sym (append-nil (x.of_lines ++ (x.of_rest ++ line_end_tokens text x.rest q)));
    }

-- A token

-- the reader behind a token, which is the last of these
abbrev pub behind_token : Reader → Place → ℕ → List Token → Reader
behind_token r place depth tokens = record { at = place; start = r.start; depth = depth; started = true; any_token = true; levels = r.levels; last_level = r.last_level; list = tokens; comments = r.comments }

pub content_is_no_comment : (form : Form) → is_content form ≡ true → is_comment form ≡ false
content_is_no_comment form.Blank e = refl
content_is_no_comment form.LineEnd e = refl
content_is_no_comment form.Join e = refl
content_is_no_comment form.Comment e = absurd (false≢true e)
content_is_no_comment form.Word e = refl
content_is_no_comment form.Number e = refl
content_is_no_comment form.Text e = refl
content_is_no_comment form.Sign e = refl
content_is_no_comment form.Stray e = refl

-- By the characters of a source

pub ends_in : (text cs : List ℕ) (found : Form) (from to to' : ℕ) → cs ≡ characters text → to' ≡ to → EndsAt found cs from to → EndsAt found (characters text) from to'
ends_in text cs found from to to' whole e ends = subst (λ xs. EndsAt found xs from to') whole (subst (λ i. EndsAt found cs from i) (sym e) ends)

pub stands_in : (text cs : List ℕ) (found : Form) (from : ℕ) → cs ≡ characters text → found ≡ form_of (drop from cs) → found ≡ form_of (drop from (characters text))
stands_in text cs found from whole e = subst (λ xs. found ≡ form_of (drop from xs)) whole e

pub kind_in : (text cs : List ℕ) (found : Form) (from to to' : ℕ) (t : TokenKind) → cs ≡ characters text → to' ≡ to → IsKind found (drop from cs) (to - from) t → IsKind found (drop from (characters text)) (to' - from) t
kind_in text cs found from to to' t whole e k = subst (λ xs. IsKind found (drop from xs) (to' - from) t) whole (subst (λ i. IsKind found (drop from cs) (i - from) t) (sym e) k)

-- A token, when the line is started

-- the numbers that the reader holds behind a token
record IsAdvanced (text : List ℕ) (old mid : Reader) (lines : List Line) (rest : List Piece) (q : Piece) (tokens : List Token) (token : Token) : Type 0 where
  start : mid.start ≡ old.start
  comments : mid.comments ≡ old.comments
  levels : mid.levels.items ≡ open_levels (levels_of (characters text) lines ++ own_level (characters text) (rest ++ q ∷ []))
  last : mid.last_level ≡ last_level (levels_of (characters text) lines ++ own_level (characters text) (rest ++ q ∷ []))
  list : mid.list ++ token ∷ [] ≡ tokens ++ token_with_changes text (levels_of (characters text) lines) rest q token

reached_advanced : (text : List ℕ) (old mid : Reader) (form : Form) (place : Place) (t : TokenKind) (depth : ℕ) (x : IsReached text old) → IsPlace text place → IsNear place
    → form ≡ form_of (drop old.at.index (characters text)) → EndsAt form (characters text) old.at.index place.index → IsTrue (is_content form)
    → IsKind form (drop old.at.index (characters text)) (place.index - old.at.index) t
    → ((rule i : ℕ) → BreaksIn form (drop old.at.index (characters text)) (place.index - old.at.index) rule i → ⊥)
    → (IsFalse (has_content x.rest) → IsIndented (characters text) (levels_of (characters text) x.lines) (x.rest ++ piece_at form old.at.index place.index ∷ []))
    → depth ≡ depth_behind (characters text) old.depth (piece_at form old.at.index place.index)
    → IsAdvanced text old mid x.lines x.rest (piece_at form old.at.index place.index) (x.of_lines ++ x.of_rest) (token_from t old.at place)
    → IsReached text (behind_token mid place depth (mid.list ++ token_from t old.at place ∷ []))
reached_advanced text old mid form place t depth x there near e ends content is_kind clean indented deep adv =
    let q : Piece = piece_at form old.at.index place.index in
    let before : List Piece = flat_map pieces_of x.lines in
    let is_q : IsPiece (characters text) q = piece_stands form (characters text) old.at.index place.index e ends in
    let some : has_content (x.rest ++ q ∷ []) ≡ true = has_content-append x.rest (q ∷ []) ∙ or_right (has_content x.rest) (is_content form || false) (or_left (is_content form) false content) in
    let is_token : IsTokenOf text q (token_from t old.at place) = record { kind = is_kind; placed = placed_token text t old.at place x.held.at there } in
    record {
      lines = x.lines;
      rest = x.rest ++ q ∷ [];
      of_lines = x.of_lines;
      of_rest = x.of_rest ++ token_with_changes text (levels_of (characters text) x.lines) x.rest q (token_from t old.at place);
      lexed = lexed_token text x.lines x.rest x.of_lines x.of_rest q (token_from t old.at place) x.lexed is_q content (content_ends_no_line form content) is_token clean indented;
      held = record {
        at = there;
        start = subst (λ (p : Place). IsPlace text p) (sym adv.start) x.held.start;
        near = near;
        near_start = subst (λ (p : Place). IsNear p) (sym adv.start) x.held.near_start;
        line_start = subst (λ (p : Place). AreBetween (characters text) 0 before p.index) (sym adv.start) x.held.line_start;
        line_rest = subst (λ (p : Place). AreBetween (characters text) p.index (x.rest ++ q ∷ []) place.index) (sym adv.start)
            (between_append (characters text) old.start.index old.at.index place.index x.rest (q ∷ []) x.held.line_rest (refl, is_q, refl));
        within = ends.within;
        depth = deep ∙ ap (λ d. depth_behind (characters text) d q) x.held.depth ∙ sym (depth_after-more (characters text) 0 x.rest q);
        shallow = omega (arith, deep, depth_rises_by_one (characters text) old.depth q, x.held.shallow, ends.forward);
        started = sym some;
        any_token = sym (has_content-append before (x.rest ++ q ∷ []) ∙ or_right (has_content before) (has_content (x.rest ++ q ∷ [])) some);
        levels = adv.levels;
        last_level = adv.last;
        comments = adv.comments ∙ x.held.comments ∙ no_comment text (before ++ x.rest) q (leading_comments text (before ++ x.rest)) (content_is_no_comment form content) ∙ sym (leading_more text (before ++ x.rest) q) ∙ ap (leading_comments text) (append_assoc before x.rest (q ∷ []));
      };
      list = adv.list ∙ append_assoc x.of_lines x.of_rest (token_with_changes text (levels_of (characters text) x.lines) x.rest q (token_from t old.at place));
    }

advanced_in_line : (text : List ℕ) (old : Reader) (lines : List Line) (rest : List Piece) (tokens : List Token) (q : Piece) (token : Token) → IsHeld text lines rest old → has_content rest ≡ true → old.list ≡ tokens
    → IsAdvanced text old old lines rest q tokens token
advanced_in_line text old lines rest tokens q token h some e = record {
  start = refl;
  comments = refl;
  levels = h.levels ∙ ap (λ ls. open_levels (levels_of (characters text) lines ++ ls)) (sym (own_level_kept (characters text) rest q (inr some)));
  last = h.last_level ∙ ap (λ ls. last_level (levels_of (characters text) lines ++ ls)) (sym (own_level_kept (characters text) rest q (inr some)));
  list = rw (some, e) refl;
}

-- the levels before the first content of a line
pub levels_before : (cs : List ℕ) (lines : List Line) (rest : List Piece) → has_content rest ≡ false → levels_of cs lines ++ own_level cs rest ≡ levels_of cs lines
levels_before cs lines rest none = ap (λ ls. levels_of cs lines ++ ls) (own_level_none cs rest none) ∙ append-nil (levels_of cs lines)

advanced_at_start : (text : List ℕ) (old mid : Reader) (lines : List Line) (rest : List Piece) (tokens : List Token) (q : Piece) (token : Token) → IsHeld text lines rest old → has_content rest ≡ false → old.list ≡ tokens
    → is_content q.form ≡ true → start_of (rest ++ q ∷ []) ≡ old.start.index → IsOpened text old mid → IsAdvanced text old mid lines rest q tokens token
advanced_at_start text old mid lines rest tokens q token h none e content start o =
    let cs = characters text in
    let levels = levels_of cs lines in
    let own : own_level cs (rest ++ q ∷ []) ≡ level_from cs old.start.index ∷ [] = own_level_first cs rest q content none ∙ ap (λ i. level_from cs i ∷ []) start in
    let held : old.levels.items ≡ open_levels levels = h.levels ∙ ap open_levels (levels_before cs lines rest none) in
    let last : old.last_level ≡ last_level levels = h.last_level ∙ ap last_level (levels_before cs lines rest none) in
    let told : level_tokens old.last_level old.levels.items (level_from cs old.start.index) o.at ≡ tokens_before_line text levels (rest ++ q ∷ []) =
    ap (λ n. level_tokens n old.levels.items (level_from cs old.start.index) o.at) last
    ∙ ap (λ ls. level_tokens (last_level levels) ls (level_from cs old.start.index) o.at) held
    ∙ placed_level_tokens text levels (level_from cs old.start.index) o.at o.there
    ∙ ap (λ i. indentation_tokens text levels (level_from cs old.start.index) i) o.index
    ∙ ap (λ i. indentation_tokens text levels (level_from cs i) (indented_to cs i)) (sym start) in
    record {
      start = o.rest.start;
      comments = o.rest.comments;
      levels = o.levels ∙ ap (λ ls. levels_behind ls (level_from cs old.start.index)) held ∙ sym (levels_more levels (level_from cs old.start.index)) ∙ ap (λ ls. open_levels (levels ++ ls)) (sym own);
      last = o.last ∙ sym (last_level-more levels (level_from cs old.start.index)) ∙ ap (λ ls. last_level (levels ++ ls)) (sym own);
      list = ap (λ ts. ts ++ token ∷ []) (o.list ∙ ap (λ ts. ts ++ level_tokens old.last_level old.levels.items (level_from cs old.start.index) o.at) e ∙ ap (λ ts. tokens ++ ts) told)
          ∙ append_assoc tokens (tokens_before_line text levels (rest ++ q ∷ [])) (token ∷ [])
          ∙ rw none refl;
    }

pub reached_token : (text : List ℕ) (old mid : Reader) (form : Form) (place : Place) (t : TokenKind) (depth : ℕ) → IsReached text old → IsStarted text old mid → IsPlace text place → IsNear place
    → form ≡ form_of (drop old.at.index (characters text)) → EndsAt form (characters text) old.at.index place.index → IsTrue (is_content form)
    → IsKind form (drop old.at.index (characters text)) (place.index - old.at.index) t
    → ((rule i : ℕ) → BreaksIn form (drop old.at.index (characters text)) (place.index - old.at.index) rule i → ⊥)
    → (old.started ≡ false → (levels : List ℕ) → old.levels.items ≡ open_levels levels → old.last_level ≡ last_level levels → IsIndentationFinding (characters text) levels old.start.index None)
    → depth ≡ depth_behind (characters text) old.depth (piece_at form old.at.index place.index)
    → IsReached text (behind_token mid place depth (mid.list ++ token_from t old.at place ∷ []))
reached_token text old mid form place t depth x s there near e ends content is_kind clean finding deep = elim (content_cases old.started) [
  | inl started ↦ (
      let some : has_content x.rest ≡ true = sym x.held.started ∙ started in
      let same : mid ≡ old = subst (λ b. MatchBool b (mid ≡ old) (IsOpened text old mid)) started s in
      subst (λ (r : Reader). IsReached text (behind_token r place depth (r.list ++ token_from t old.at place ∷ []))) (sym same)
      (reached_advanced text old old form place t depth x there near e ends content is_kind clean (λ none. absurd (false≢true (sym none ∙ some))) deep
      (advanced_in_line text old x.lines x.rest (x.of_lines ++ x.of_rest) (piece_at form old.at.index place.index) (token_from t old.at place) x.held some x.list))
      )
  | inr first ↦ (
      let q : Piece = piece_at form old.at.index place.index in
      let none : has_content x.rest ≡ false = sym x.held.started ∙ first in
      let opened : IsOpened text old mid = subst (λ b. MatchBool b (mid ≡ old) (IsOpened text old mid)) first s in
      let is_q : IsPiece (characters text) q = piece_stands form (characters text) old.at.index place.index e ends in
      let some : has_content (x.rest ++ q ∷ []) ≡ true = has_content-append x.rest (q ∷ []) ∙ or_right (has_content x.rest) (is_content form || false) (or_left (is_content form) false content) in
      let start : start_of (x.rest ++ q ∷ []) ≡ old.start.index = start_at (characters text) old.start.index place.index (x.rest ++ q ∷ []) some
      (between_append (characters text) old.start.index old.at.index place.index x.rest (q ∷ []) x.held.line_rest (refl, is_q, refl)) in
      let levels = levels_of (characters text) x.lines in
      let found = finding first levels (x.held.levels ∙ ap open_levels (levels_before (characters text) x.lines x.rest none)) (x.held.last_level ∙ ap last_level (levels_before (characters text) x.lines x.rest none)) in
      let indented : IsIndented (characters text) levels (x.rest ++ q ∷ []) = indented_of_clean (characters text) levels (x.rest ++ q ∷ []) (lands_or_not levels (level_of (characters text) (x.rest ++ q ∷ [])))
      (subst (λ i. (rule : ℕ) → IsMisindented (characters text) levels (level_from (characters text) i) rule (indented_to (characters text) i) → ⊥) (sym start) found) in
      reached_advanced text old mid form place t depth x there near e ends content is_kind clean (λ n. indented) deep
      (advanced_at_start text old mid x.lines x.rest (x.of_lines ++ x.of_rest) q (token_from t old.at place) x.held none x.list content start opened)
      )
]

-- The start and the end of the text

no_levels : (cs : List ℕ) → open_levels (levels_of cs [] ++ own_level cs []) ≡ []
unfolding open_levels
no_levels cs = refl

pub reached_nothing : (text : List ℕ) (r : Reader) → IsPlace text r.at → IsNear r.at → r.at.index ≡ 0 → r.start ≡ r.at → r.depth ≡ 0 → r.started ≡ false → r.any_token ≡ false
    → r.levels.items ≡ [] → r.last_level ≡ 0 → r.list ≡ [] → r.comments ≡ [] → IsReached text r
reached_nothing text r there near zero start depth started any levels last list comments = record {
  lines = [];
  rest = [];
  of_lines = [];
  of_rest = [];
  lexed = record {
    cut = record { pieces = sym zero; ended = All-nil (IsLine (characters text)); goes_on = goes_on_none (characters text) };
    ended = refl;
    begun = refl;
    clean = subst (λ i. IsClean (characters text) i) (sym zero) (nothing_yet (characters text));
  };
  held = record {
    at = there;
    start = subst (λ (p : Place). IsPlace text p) (sym start) there;
    near = near;
    near_start = subst (λ (p : Place). IsNear p) (sym start) near;
    line_start = sym (ap (λ (p : Place). p.index) start ∙ zero);
    line_rest = ap (λ (p : Place). p.index) start;
    within = omega (arith, zero);
    depth = depth_none (characters text) r.depth depth;
    shallow = omega (arith, depth);
    started = started;
    any_token = any;
    levels = levels ∙ sym (no_levels (characters text));
    last_level = last;
    comments = comments;
  };
  list = list;
}

-- all open levels are over 0
open_over_zero : (levels : List ℕ) → filter (nat_lt 0) (open_levels levels) ≡ open_levels levels
unfolding open_levels
open_over_zero [] = refl
open_over_zero (l ∷ ls) = by_cases (nat_lt 0 l) (list_all (nat_lt l) ls) refl (open_over_zero ls)
  where
    by_cases : (over all : Bool) → nat_lt 0 l ≡ over → filter (nat_lt 0) (open_levels ls) ≡ open_levels ls
        → filter (nat_lt 0) (if over && all then l ∷ open_levels ls else open_levels ls) ≡ (if over && all then l ∷ open_levels ls else open_levels ls)
    by_cases true true e rec = rw e (ap (λ xs. l ∷ xs) rec)
    by_cases true false e rec = rec
    by_cases false all e rec = rec

-- the last tokens of a text, with its reader at the end
abbrev pub closing : Reader → List Token
closing r =
    (r.list ++ (if r.started then token_from kind.Newline r.at r.at ∷ [] else []))
    ++ replicate (length (filter (nat_lt 0) r.levels.items)) (token_from kind.Dedent r.at r.at) ++ token_from kind.End r.at r.at ∷ []

behind_all : (text : List ℕ) (r : Reader) (t : TokenKind) → IsPlace text r.at → r.at.index ≡ length (characters text) → token_from t r.at r.at ≡ token_behind text t
behind_all text r t there ends = placed_token text t r.at r.at there there ∙ ap (λ i. token_at text i i t) ends

pub reached_end : (text : List ℕ) (r : Reader) → length text ≤ size_limit → (Contains (characters text) unreadable → ⊥) → IsReached text r → r.at.index ≡ length (characters text) → IsTokens text (closing r) r.comments
reached_end text r small readable x ends =
    let levels = levels_of (characters text) x.lines ++ own_level (characters text) x.rest in
    let whole = tokens_at_end text x.lines x.rest x.of_lines x.of_rest small readable (subst (λ i. IsLexed text i x.lines x.rest x.of_lines x.of_rest) ends x.lexed) in
    let line : (if r.started then token_from kind.Newline r.at r.at ∷ [] else []) ≡ last_tokens text x.rest = rw (x.held.started, behind_all text r kind.Newline x.held.at ends) refl in
    let open_now : filter (nat_lt 0) r.levels.items ≡ open_levels levels = ap (filter (nat_lt 0)) x.held.levels ∙ open_over_zero levels in
    let list : closing r ≡ x.of_lines ++ (x.of_rest ++ last_tokens text x.rest) ++ end_of_text text levels =
    rw (line, open_now, behind_all text r kind.Dedent x.held.at ends, behind_all text r kind.End x.held.at ends, x.list)
    (append_assoc (x.of_lines ++ x.of_rest ++ last_tokens text x.rest) (replicate (length (open_levels levels)) (token_behind text kind.Dedent)) (token_behind text kind.End ∷ [])
    ∙ ap (λ ts. ts ++ end_of_text text levels) (append_assoc x.of_lines x.of_rest (last_tokens text x.rest))) in
    subst (λ ts. IsTokens text ts r.comments) (sym list) (subst (λ cs. IsTokens text (x.of_lines ++ (x.of_rest ++ last_tokens text x.rest) ++ end_of_text text levels) cs) (sym x.held.comments) whole)

pub clean_end : (text : List ℕ) (r : Reader) → IsReached text r → r.at.index ≡ length (characters text) → (rule i : ℕ) → BreaksAt (characters text) rule i → CantBeRead (characters text) rule i
clean_end text r x ends rule i b = clean_at_end (characters text) (subst (λ k. IsClean (characters text) k) ends x.lexed.clean) rule i b

-- a text that is clean but for its last character
pub cut_first : (text : List ℕ) (r : Reader) (k : ℕ) → IsReached text r → r.at.index ≡ length (characters text) → suc k ≡ length (characters text) → slice_index (characters text) k ≡ unreadable → IsFirstBreak (characters text) 1 k
cut_first text r k x ends last cut = record {
  broken = not_utf8 refl (omega (arith, last), cut);
  first = λ other j b.
      let c = clean_end text r x ends other j b in
      inr (omega (arith, last, unreadable_last text j c.1.0 c.1.1), omega (arith, c.0));
}

pub none_cut : (text : List ℕ) → ((0 < length (characters text)) × (slice_index (characters text) (length (characters text) - 1) ≡ unreadable) → ⊥) → (rule i : ℕ) → CantBeRead (characters text) rule i → ⊥
none_cut text none rule i c =
    let last = unreadable_last text i c.1.0 c.1.1 in
    let here : i ≡ length (characters text) - 1 = omega (arith, last) in
    none (omega (arith, last), subst (λ k. slice_index (characters text) k ≡ unreadable) here c.1.1)
