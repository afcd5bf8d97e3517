-- How the reading of a part of a simple statement tells of the whole.
use Rattle.std.proofs.Common.{◌≡◌, ℕ, zero, suc, ◌+◌, ◌≤◌, ◌<◌, List, [], ◌∷◌, ◌++◌, Option, Some, None, Result, Ok, Err, MatchResult, inl, inr, length, refl, sym, ap, subst, arith}
use Rattle.px_base.specs.declared.refusals.Span.{Span}
use Rattle.px_lexer.specs.declared.spelling.Keyword.{Keyword}
use Rattle.px_lexer.specs.declared.spelling.Keyword.TheVariants as word
use Rattle.px_lexer.specs.declared.spelling.Operator.{Operator}
use Rattle.px_lexer.specs.declared.spelling.Operator.TheVariants as sign
use Rattle.px_lexer.specs.declared.token_list.Tokens.{Tokens}
use Rattle.px_lexer.specs.declared.token_list.TokenKind.{TokenKind}
use Rattle.px_lexer.specs.declared.token_list.TokenKind.TheVariants as kind
use Rattle.px_tree.specs.declared.expressions.Expr.{Expr}
use Rattle.px_tree.specs.declared.statements.StmtForm.{StmtForm}
use Rattle.px_tree.specs.declared.statements.StmtForm.TheVariants as statement
use Rattle.px_exprs.specs.declared.readings.Unread.{Unread}
use Rattle.px_exprs.specs.declared.readings.Unread.TheVariants as unread
use Rattle.px_lexer.specs.Terminals.{Terminal, HasKind, IsKeyword, IsAt, terminals_of}
use Rattle.px_exprs.specs.Codes.{Past}
use Rattle.px_exprs.specs.Readings.{Stops}
use Rattle.px_exprs.specs.Runs.{nesting_limit}
use Rattle.px_exprs.specs.Words.{IsStuckAt}
use Rattle.px_exprs.proofs.Agreement.{agree_same, agree_back}
use Rattle.px_lexer.proofs.OneToken.{one_keyword}
use Rattle.px_exprs.proofs.Keeping.{kind_carried}
use Rattle.px_lexer.proofs.TokenAccess.{length_terminals}
use Rattle.px_parser.specs.declared.readings.Found.{Found}
use Rattle.px_parser.specs.Listings.{IsListing}
use Rattle.px_parser.specs.Shapes.{Shape, Token, Name, Here, Placed, Gives, Seq, Either, Many, Of, After, Before, Maybe}
use Rattle.px_parser.specs.Parsing.{strict}
use Rattle.px_parser.specs.Readings.{IsStuck, IsUnread, IsReading, Reads, Anywhere}
use Rattle.px_parser.specs.StatementGrammar.{Exprs, Return, Raise, Global, SimpleForm, Simple, statement_node}
use Rattle.px_parser.specs.Parts.{Assigned, RaisedText, NamesBy}
use Rattle.px_parser.specs.Ends.{EndsExprs, EndsSimple, EndsNames}
use Rattle.px_parser.proofs.Shapely.{Good, IsRising, sound_token, sound_name, sound_here, sound_nested, fresh_token, fresh_here, good_token, good_name, good_here, good_seq, good_of, good_after, good_many, good_maybe, good_placed, rises_nested, rises_of}
use Rattle.px_parser.proofs.Onlies.{Clash, clash_back, Only, leads_token, leads_after, leads_anyhow, leads_anywhere, only_token, only_name, only_after, only_nested}
use Rattle.px_parser.proofs.Steps.{Step, Never, Local, fails, step_first, step_second, step_of, step_left, step_right, step_twice, step_many, many_more, step_narrower, stuck_behind, never_by, arrived_way}
use Rattle.px_parser.proofs.TokenShapes.{unread_at}
use Rattle.px_parser.proofs.ExprShapes.{good_exprs}
use Rattle.px_parser.proofs.SimpleShapes.{IsKind, IsWord, Laws, Lone, FromBreak, FromContinue, FromReturn, FromRaise, FromGlobal, laws_lone, laws_return, laws_raise, laws_global, laws_assigned, laws_from_break, laws_from_continue, laws_from_return, laws_from_raise, laws_from_global, laws_form, pass_apart, break_apart, continue_apart, return_apart, raise_apart, word_low, simple_ends_exprs, simple_ends_names, Bracketed, sound_bracketed, only_bracketed, good_text, IsClosing, closing_past, good_closed, good_raised_text, only_raised_text, IsOpening, NoOpening, opening_is_no_end, simple_end_is_no_opening, MaybeText, good_maybe_text, Raised, good_raised, good_returned, good_names, good_global_names, only_return_exprs, only_raise_opening, only_global_names, good_return, good_raise, good_global, good_lone, only_lone, separator_ends_names, leads_end}
use Rattle.px_parser.proofs.KindLaws.{solid_front}
use Rattle.px_parser.proofs.PartSteps.{step_placed}

-- Single tokens

not_above : (l p : ℕ) → l ≤ p → (l < p → ⊥) → p ≡ l
not_above zero zero le never = refl
not_above zero (suc p) le never = absurd (never (omega arith))
not_above (suc l) zero le never = absurd (omega (arith, le))
not_above (suc l) (suc p) le never = ap suc (not_above l p (omega (arith, le)) (λ lt. never (omega (arith, lt))))

-- where a token isn't read, it doesn't stand there, and what is stuck then is so at its index
pub token_refused : {B : Type 0} {Z : Shape B} {S : Stops} {ts : List Terminal} {from room l : ℕ} {k : TokenKind} → (u : Unread) → IsUnread (Token k) Anywhere ts l room u → ((HasKind ts l k → ⊥) → IsStuck Z S ts from room l)
    → IsUnread Z S ts from room u
token_refused {Z = Z} {S = S} {ts = ts} {from = from} {room = room} {l = l} {k = k} (unread.Stuck p) h stuck =
    let none : HasKind ts l k → ⊥ = λ stands. h.none ts (agree_same ts) 0 tt 0 (suc l) (record { stands = stands; end = refl }) tt in
    let way = arrived_way h.reached in
    let here : p ≡ l = not_above l p h.forward (λ lt. none (kind_carried p (agree_back way.tokens ts way.same) way.derived.stands lt)) in
    subst (IsStuck Z S ts from room) (sym here) (stuck none)
token_refused (unread.TooDeep p) h stuck =
    let way = h.way in
    absurd (h.deep way.tokens way.same tt (length way.tokens) (record { stands = way.derived.stands; end = way.derived.end }) tt)
token_refused unread.NoMemory h stuck = tt

-- a token that is known to stand there was read
pub token_here : (tokens : Tokens) (i room : ℕ) (k : TokenKind) → IsListing tokens → (k ≡ kind.End → ⊥) → HasKind (terminals_of tokens) i k → IsReading (Token k) Anywhere (terminals_of tokens) i room tt (i + 1)
token_here tokens i room k listing other stands = record {
  derived = record { stands = stands; end = omega arith };
  stops = tt;
  within = omega (arith, listing.goes_on i k stands other, length_terminals tokens);
}

-- A token, and a form behind it

pub step_token : {A : Type 0} {X : Shape A} {R : Stops} (k : TokenKind) (ts : List Terminal) (i room : ℕ) → Good X → Step (Token k) Anywhere (After k X) R ts i i room
step_token {A} {X} {R} k ts i room x =
    step_twice (step_first {Y = λ _. X} {R = R} ts i room (sound_token k) (good_token k).rises (λ a. x.fresh) (λ a. leads_anywhere X R)) (step_of (λ p. p.1) R ts i room (good_seq (good_token k) x).rises)

pub step_behind : {A : Type 0} {X : Shape A} {R : Stops} {ts : List Terminal} {i room l : ℕ} {t : Unit {0}} (k : TokenKind) → Good X → IsReading (Token k) Anywhere ts i room t l → Step X R (After k X) R ts i l room
step_behind {A} {X} {R} {ts} {i} {room} {l} {t} k x w =
    step_twice (step_second {Y = λ _. X} {R = R} ts i l room t (sound_token k) (good_token k).rises (only_token k Anywhere) (λ a. leads_anywhere X R) x.rises w.derived tt) (step_of (λ p. p.1) R ts i room (good_seq (good_token k) x).rises)

pub behind_read : {A : Type 0} {X : Shape A} {ts : List Terminal} {i room l j : ℕ} {t : Unit {0}} {e : A} (k : TokenKind) → IsReading (Token k) Anywhere ts i room t l → X (strict nesting_limit) ts l e room j → After k X (strict nesting_limit) ts i e room j
behind_read {l = l} {t = t} {e = e} k w x = record { inner = (t, e); read = record { middle = l; first = w.derived; second = x }; tree = refl }

-- Forms that may be left out

pub never_gives : {A : Type 0} (value : A) {S : Stops} (ts : List Terminal) (i : ℕ) → Local S → (S ts i → ⊥) → Never (Gives value) S ts i
never_gives value {S = S} ts i local none us agree mode t n j x s = none (local ts us i agree (subst (S us) x.end s))

pub step_maybe : {A : Type 0} {X : Shape A} {S : Stops} (ts : List Terminal) (i room : ℕ) → Good X → Local S → (S ts i → ⊥) → Step X S (Maybe X) S ts i i room
step_maybe {S = S} ts i room x local none = step_twice (step_of Some S ts i room x.rises) (step_left ts i room (good_of Some x).rises (never_gives None ts i local none))

-- Places

-- Where a simple statement ends

pub local_kind : (k : TokenKind) → Local (IsKind k)
local_kind k ts us i agree h = kind_carried (suc i) (agree_back us ts agree) h (omega arith)

pub local_simple : Local EndsSimple
local_simple ts us i agree (inl h) = inl (local_kind (kind.Operator sign.Semicolon) ts us i agree h)
local_simple ts us i agree (inr h) = inr (local_kind kind.Newline ts us i agree h)

-- what is answered where it is looked whether a simple statement ends
abbrev pub IsEnded : {A : Type 0} → A → ℕ → List Terminal → Result (Found A) Unread → Type 0
IsEnded t l ts result = MatchResult result (λ found. (found.tree ≡ t) × (found.to ≡ l) × EndsSimple ts l) (λ unread. IsStuckAt l unread × (EndsSimple ts l → ⊥))

ended_read : {A : Type 0} {X : Shape A} {ts : List Terminal} {i l room j : ℕ} {t e : A} → X (strict nesting_limit) ts i t room l → EndsSimple ts l → l < length ts → e ≡ t → j ≡ l → IsReading X EndsSimple ts i room e j
ended_read {A} {X} {ts} {i} {l} {room} {j} {t} {e} x end within tree to =
    subst (λ n. IsReading X EndsSimple ts i room e n) (sym to) (subst (λ a. IsReading X EndsSimple ts i room a l) (sym tree) (record { derived = x; stops = end; within = within }))

pub ended_answer : {A : Type 0} {X : Shape A} {M : Stops} (ts : List Terminal) (i l room : ℕ) (t : A) → Good X → Only X M → ((us : List Terminal) (k : ℕ) → EndsSimple us k → M us k) → X (strict nesting_limit) ts i t room l → M ts l → l < length ts
    → (result : Result (Found A) Unread) → IsEnded t l ts result → Reads X EndsSimple ts i room result
ended_answer ts i l room t good only narrower x stop within (Ok found) h = ended_read x h.2 within h.0 h.1
ended_answer ts i l room t good only narrower x stop within (Err u) h = unread_at u h.0 (stuck_behind ts i l room t good.sound good.rises only narrower local_simple x stop h.1 within)

-- NAME (separator NAME)*

pub names_first : (separator : Operator) (ts : List Terminal) (i room : ℕ) → Step Name Anywhere (NamesBy separator) (EndsNames separator) ts i i room
unfolding NamesBy
names_first separator ts i room =
    let others = good_many (good_after (kind.Operator separator) good_name) in
    let stops = EndsNames separator in
    step_twice (step_first {Y = λ _. Many (After (kind.Operator separator) Name)} {R = stops} ts i room sound_name good_name.rises (λ a. others.fresh) (λ a. leads_anywhere (Many (After (kind.Operator separator) Name)) stops))
    (step_of (λ p. p.0 ∷ p.1) stops ts i room (good_seq good_name others).rises)

pub names_next : {separator : Operator} {ts : List Terminal} {room l m : ℕ} {t : Unit {0}} (i : ℕ) (names : List (List ℕ)) → NamesBy separator (strict nesting_limit) ts i names room l → IsReading (Token (kind.Operator separator)) Anywhere ts l room t m
    → Step Name Anywhere (NamesBy separator) (EndsNames separator) ts i m room
unfolding NamesBy
names_next {separator} {ts} {room} {l} {m} {t} i names h w =
    let k = kind.Operator separator in
    let another = good_after k good_name in
    let others = good_many another in
    let stops = EndsNames separator in
    let near : Step Name Anywhere (After k Name) Anywhere ts l m room = step_behind k good_name w in
    let many : Step (After k Name) Anywhere (Many (After k Name)) stops ts h.read.middle l room =
    step_many {M = Anywhere} {S = stops} {T = IsKind k} ts h.read.middle l room h.inner.1 another.sound another.rises (only_after k sound_name (only_name Anywhere)) (leads_after Name k Anywhere (IsKind k) (λ us p g. g)) (separator_ends_names separator)
    (λ us p g. tt) (λ us p g. tt) h.read.second (inr tt) (λ us agree end. end (kind_carried (suc l) agree w.derived.stands (omega arith))) in
    let second : Step (Many (After k Name)) stops (Seq Name (Many (After k Name))) stops ts i h.read.middle room =
    step_second {Y = λ _. Many (After k Name)} {R = stops} ts i h.read.middle room h.inner.0 sound_name good_name.rises (only_name Anywhere) (λ a. leads_anywhere (Many (After k Name)) stops) others.rises h.read.first tt in
    step_twice near (step_twice many (step_twice second (step_of (λ p. p.0 ∷ p.1) stops ts i room (good_seq good_name others).rises)))

pub names_one : {ts : List Terminal} {i room l : ℕ} {name : List ℕ} (separator : Operator) → IsReading Name Anywhere ts i room name l → NamesBy separator (strict nesting_limit) ts i (name ∷ []) room l
unfolding NamesBy
names_one {l = l} {name = name} separator h = record { inner = (name, []); read = record { middle = l; first = h.derived; second = Many.none }; tree = refl }

pub names_more : {separator : Operator} {ts : List Terminal} {room l m j : ℕ} {t : Unit {0}} {name : List ℕ} (i : ℕ) (names : List (List ℕ)) → NamesBy separator (strict nesting_limit) ts i names room l
    → IsReading (Token (kind.Operator separator)) Anywhere ts l room t m → IsReading Name Anywhere ts m room name j → NamesBy separator (strict nesting_limit) ts i (names ++ name ∷ []) room j
unfolding NamesBy
names_more {separator = separator} {name = name} i names h w x = record {
  inner = (h.inner.0, h.inner.1 ++ name ∷ []);
  read = record { middle = h.read.middle; first = h.read.first; second = many_more h.read.second (behind_read (kind.Operator separator) w x.derived) };
  tree = ap (λ known. known ++ name ∷ []) h.tree;
}

-- 'return' [exprs]

pub return_first : (ts : List Terminal) (i room : ℕ) → Step (Token (kind.Keyword word.Return)) Anywhere Return EndsSimple ts i i room
unfolding Return
return_first ts i room = step_token (kind.Keyword word.Return) ts i room good_returned

pub return_value : {ts : List Terminal} {i room l : ℕ} {t : Unit {0}} → IsReading (Token (kind.Keyword word.Return)) Anywhere ts i room t l → (EndsSimple ts l → ⊥) → Step Exprs EndsExprs Return EndsSimple ts i l room
unfolding Return
return_value {ts} {i} {room} {l} {t} w more =
    let narrow : Step Exprs EndsExprs Exprs EndsSimple ts l l room = step_narrower ts l room good_exprs.rises simple_ends_exprs in
    let maybe : Step Exprs EndsSimple (Maybe Exprs) EndsSimple ts l l room = step_maybe ts l room good_exprs local_simple more in
    let tree : Step (Maybe Exprs) EndsSimple (Of statement.Return (Maybe Exprs)) EndsSimple ts l l room = step_of statement.Return EndsSimple ts l room (good_maybe good_exprs).rises in
    step_twice narrow (step_twice maybe (step_twice tree (step_behind (kind.Keyword word.Return) good_returned w)))

pub return_none : {ts : List Terminal} {i room l : ℕ} {t : Unit {0}} → IsReading (Token (kind.Keyword word.Return)) Anywhere ts i room t l → EndsSimple ts l → IsReading Return EndsSimple ts i room (statement.Return None) l
unfolding Return
return_none w end = record {
  derived = behind_read (kind.Keyword word.Return) w (record { inner = None; read = Either.right (record { tree = refl; end = refl }); tree = refl });
  stops = end;
  within = w.within;
}

return_some : {ts : List Terminal} {i room l j : ℕ} {t : Unit {0}} {e : Expr} → IsReading (Token (kind.Keyword word.Return)) Anywhere ts i room t l → IsReading Exprs EndsExprs ts l room e j
    → Return (strict nesting_limit) ts i (statement.Return (Some e)) room j
unfolding Return
return_some {e = e} w x = behind_read (kind.Keyword word.Return) w (record { inner = Some e; read = Either.left (record { inner = e; read = x.derived; tree = refl }); tree = refl })

pub return_answer : {ts : List Terminal} {i room l j : ℕ} {t : Unit {0}} {e : Expr} → IsReading (Token (kind.Keyword word.Return)) Anywhere ts i room t l → IsReading Exprs EndsExprs ts l room e j → (result : Result (Found StmtForm) Unread)
    → IsEnded (statement.Return (Some e)) j ts result → Reads Return EndsSimple ts i room result
return_answer {ts} {i} {room} {l} {j} {t} {e} w x result h = ended_answer ts i j room (statement.Return (Some e)) good_return only_return_exprs simple_ends_exprs (return_some w x) x.stops x.within result h

-- '(' [expr] ')'

pub text_first : (ts : List Terminal) (i room : ℕ) → Step (Token (kind.Operator sign.OpenParenthesis)) Anywhere RaisedText Anywhere ts i i room
unfolding RaisedText
text_first ts i room = step_token (kind.Operator sign.OpenParenthesis) ts i room good_closed

rises_bracketed : IsRising Bracketed
rises_bracketed mode other n m le more = rises_nested _ le

pub text_some : {ts : List Terminal} {i room l : ℕ} {t : Unit {0}} → IsReading (Token (kind.Operator sign.OpenParenthesis)) Anywhere ts i room t l → (IsClosing ts l → ⊥) → Step Bracketed IsClosing RaisedText Anywhere ts i l room
unfolding RaisedText
text_some {ts} {i} {room} {l} {t} w none =
    let close = kind.Operator sign.CloseParenthesis in
    let some : Step Bracketed IsClosing (Of Some Bracketed) IsClosing ts l l room = step_of Some IsClosing ts l room rises_bracketed in
    let rises : IsRising (Of Some Bracketed) = λ mode other n m le more. rises_of Some (rises_bracketed mode other n m le more) in
    let maybe : Step (Of Some Bracketed) IsClosing (Maybe Bracketed) IsClosing ts l l room = step_left ts l room rises (never_gives None ts l (local_kind close) none) in
    let first : Step (Maybe Bracketed) IsClosing (Seq (Maybe Bracketed) (Token close)) Anywhere ts l l room =
    step_first {Y = λ _. Token close} {R = Anywhere} ts l room good_text.sound good_text.rises (λ a. fresh_token close) (λ a. leads_token close Anywhere IsClosing (λ us p g. g)) in
    let tree : Step (Seq (Maybe Bracketed) (Token close)) Anywhere (Before (Maybe Bracketed) close) Anywhere ts l l room = step_of (λ p. p.0) Anywhere ts l room (good_seq good_text (good_token close)).rises in
    step_twice some (step_twice maybe (step_twice first (step_twice tree (step_behind (kind.Operator sign.OpenParenthesis) good_closed w))))

pub text_inside : {ts : List Terminal} {i room l : ℕ} {t : Unit {0}} → IsReading (Token (kind.Operator sign.OpenParenthesis)) Anywhere ts i room t l → (IsClosing ts l → ⊥) → Step Bracketed (Past 26) RaisedText Anywhere ts i l room
text_inside {ts} {i} {room} {l} {t} w none =
    let narrow : Step Bracketed (Past 26) Bracketed IsClosing ts l l room = step_narrower ts l room rises_bracketed closing_past in
    step_twice narrow (text_some w none)

-- no bracket closes behind the expression
pub text_unclosed : {ts : List Terminal} {i room l j : ℕ} {t : Unit {0}} {e : Expr} → IsReading (Token (kind.Operator sign.OpenParenthesis)) Anywhere ts i room t l → (IsClosing ts l → ⊥) → IsReading Bracketed (Past 26) ts l room e j
    → (u : Unread) → IsUnread (Token (kind.Operator sign.CloseParenthesis)) Anywhere ts j room u → IsUnread RaisedText Anywhere ts i room u
text_unclosed {ts} {i} {room} {l} {j} {t} {e} w none x u h =
    fails (text_some w none) u
    (token_refused u h (λ missing. stuck_behind ts l j room e (sound_nested sound_bracketed) rises_bracketed (only_nested only_bracketed) closing_past (local_kind (kind.Operator sign.CloseParenthesis)) x.derived x.stops missing x.within))

pub text_none : {ts : List Terminal} {i room l j : ℕ} {t u : Unit {0}} → IsReading (Token (kind.Operator sign.OpenParenthesis)) Anywhere ts i room t l → IsReading (Token (kind.Operator sign.CloseParenthesis)) Anywhere ts l room u j
    → IsReading RaisedText Anywhere ts i room None j
unfolding RaisedText
text_none {l = l} {u = u} w x = record {
  derived = behind_read (kind.Operator sign.OpenParenthesis) w (record { inner = (None, u); read = record { middle = l; first = Either.right (record { tree = refl; end = refl }); second = x.derived }; tree = refl });
  stops = tt;
  within = x.within;
}

pub text_read : {ts : List Terminal} {i room l m j : ℕ} {t u : Unit {0}} {e : Expr} → IsReading (Token (kind.Operator sign.OpenParenthesis)) Anywhere ts i room t l → IsReading Bracketed (Past 26) ts l room e m
    → IsReading (Token (kind.Operator sign.CloseParenthesis)) Anywhere ts m room u j → IsReading RaisedText Anywhere ts i room (Some e) j
unfolding RaisedText
text_read {m = m} {u = u} {e = e} w x y = record {
  derived = behind_read (kind.Operator sign.OpenParenthesis) w
      (record { inner = (Some e, u); read = record { middle = m; first = Either.left (record { inner = e; read = x.derived; tree = refl }); second = y.derived }; tree = refl });
  stops = tt;
  within = y.within;
}

-- 'raise' NAME ['(' [expr] ')']

pub raise_first : (ts : List Terminal) (i room : ℕ) → Step (Token (kind.Keyword word.Raise)) Anywhere Raise EndsSimple ts i i room
unfolding Raise RaisedText
raise_first ts i room = step_token (kind.Keyword word.Raise) ts i room good_raised

pub raise_name : {ts : List Terminal} {i room l : ℕ} {t : Unit {0}} → IsReading (Token (kind.Keyword word.Raise)) Anywhere ts i room t l → Step Name Anywhere Raise EndsSimple ts i l room
unfolding Raise RaisedText
raise_name {ts} {i} {room} {l} {t} w =
    let first : Step Name Anywhere (Seq Name MaybeText) EndsSimple ts l l room = step_first {Y = λ _. MaybeText} {R = EndsSimple} ts l room sound_name good_name.rises (λ a. good_maybe_text.fresh) (λ a. leads_anywhere MaybeText EndsSimple) in
    let tree : Step (Seq Name MaybeText) EndsSimple Raised EndsSimple ts l l room = step_of (λ p. statement.Raise p.0 p.1) EndsSimple ts l room (good_seq good_name good_maybe_text).rises in
    step_twice first (step_twice tree (step_behind (kind.Keyword word.Raise) good_raised w))

pub raise_text : {ts : List Terminal} {i room l m : ℕ} {t : Unit {0}} {name : List ℕ} → IsReading (Token (kind.Keyword word.Raise)) Anywhere ts i room t l → IsReading Name Anywhere ts l room name m → IsOpening ts m
    → Step RaisedText EndsSimple Raise EndsSimple ts i m room
unfolding Raise RaisedText
raise_text {ts} {i} {room} {l} {m} {t} {name} w x opening =
    let some : Step RaisedText EndsSimple MaybeText EndsSimple ts m m room = step_left ts m room good_raised_text.rises (never_gives None ts m local_simple (λ end. opening_is_no_end ts ts m (agree_same ts) opening end)) in
    let second : Step MaybeText EndsSimple (Seq Name MaybeText) EndsSimple ts l m room =
    step_second {Y = λ _. MaybeText} {R = EndsSimple} ts l m room name sound_name good_name.rises (only_name Anywhere) (λ a. leads_anywhere MaybeText EndsSimple) good_maybe_text.rises x.derived tt in
    let tree : Step (Seq Name MaybeText) EndsSimple Raised EndsSimple ts l l room = step_of (λ p. statement.Raise p.0 p.1) EndsSimple ts l room (good_seq good_name good_maybe_text).rises in
    step_twice some (step_twice second (step_twice tree (step_behind (kind.Keyword word.Raise) good_raised w)))

pub raise_text_fails : {ts : List Terminal} {i room l m : ℕ} {t : Unit {0}} {name : List ℕ} → IsReading (Token (kind.Keyword word.Raise)) Anywhere ts i room t l → IsReading Name Anywhere ts l room name m → IsOpening ts m → (u : Unread)
    → IsUnread RaisedText Anywhere ts m room u → IsUnread Raise EndsSimple ts i room u
raise_text_fails {ts} {i} {room} {l} {m} {t} {name} w x opening u h =
    let narrow : Step RaisedText Anywhere RaisedText EndsSimple ts m m room = step_narrower ts m room good_raised_text.rises (λ us k s. tt) in
    fails (step_twice narrow (raise_text w x opening)) u h

raise_by : {ts : List Terminal} {i room l m j : ℕ} {t : Unit {0}} {name : List ℕ} {text : Option Expr} → IsReading (Token (kind.Keyword word.Raise)) Anywhere ts i room t l → IsReading Name Anywhere ts l room name m
    → MaybeText (strict nesting_limit) ts m text room j → Raise (strict nesting_limit) ts i (statement.Raise name text) room j
unfolding Raise RaisedText
raise_by {m = m} {name = name} {text = text} w x y = behind_read (kind.Keyword word.Raise) w (record { inner = (name, text); read = record { middle = m; first = x.derived; second = y }; tree = refl })

-- no text
pub raise_answer : {ts : List Terminal} {i room l m : ℕ} {t : Unit {0}} {name : List ℕ} → IsReading (Token (kind.Keyword word.Raise)) Anywhere ts i room t l → IsReading Name Anywhere ts l room name m → NoOpening ts m
    → (result : Result (Found StmtForm) Unread) → IsEnded (statement.Raise name None) m ts result → Reads Raise EndsSimple ts i room result
raise_answer {ts} {i} {room} {l} {m} {t} {name} w x none result h =
    ended_answer ts i m room (statement.Raise name None) good_raise only_raise_opening simple_end_is_no_opening (raise_by w x (Either.right (record { tree = refl; end = refl }))) none x.within result h

pub raise_text_answer : {ts : List Terminal} {i room l m j : ℕ} {t : Unit {0}} {name : List ℕ} {text : Option Expr} → IsReading (Token (kind.Keyword word.Raise)) Anywhere ts i room t l → IsReading Name Anywhere ts l room name m → IsOpening ts m
    → IsReading RaisedText Anywhere ts m room text j → (result : Result (Found StmtForm) Unread) → IsEnded (statement.Raise name text) j ts result → Reads Raise EndsSimple ts i room result
raise_text_answer w x opening y (Ok found) h = ended_read (raise_by w x (Either.left y.derived)) h.2 y.within h.0 h.1
raise_text_answer {ts} {i} {room} {l} {m} {j} {t} {name} {text} w x opening y (Err u) h =
    fails (raise_text w x opening) u (unread_at u h.0 (stuck_behind ts m j room text good_raised_text.sound good_raised_text.rises (only_raised_text Anywhere) (λ us k s. tt) local_simple y.derived tt h.1 y.within))

-- 'global' NAME (',' NAME)*

pub global_first : (ts : List Terminal) (i room : ℕ) → Step (Token (kind.Keyword word.Global)) Anywhere Global EndsSimple ts i i room
unfolding Global NamesBy
global_first ts i room = step_token (kind.Keyword word.Global) ts i room good_global_names

pub global_names : {ts : List Terminal} {i room l : ℕ} {t : Unit {0}} → IsReading (Token (kind.Keyword word.Global)) Anywhere ts i room t l → Step (NamesBy sign.Comma) (EndsNames sign.Comma) Global EndsSimple ts i l room
unfolding Global NamesBy
global_names {ts} {i} {room} {l} {t} w =
    let narrow : Step (NamesBy sign.Comma) (EndsNames sign.Comma) (NamesBy sign.Comma) EndsSimple ts l l room = step_narrower ts l room (good_names sign.Comma).rises (simple_ends_names sign.Comma (λ e. cc)) in
    let tree : Step (NamesBy sign.Comma) EndsSimple (Of statement.Global (NamesBy sign.Comma)) EndsSimple ts l l room = step_of statement.Global EndsSimple ts l room (good_names sign.Comma).rises in
    step_twice narrow (step_twice tree (step_behind (kind.Keyword word.Global) good_global_names w))

global_by : {ts : List Terminal} {i room l j : ℕ} {t : Unit {0}} {names : List (List ℕ)} → IsReading (Token (kind.Keyword word.Global)) Anywhere ts i room t l → IsReading (NamesBy sign.Comma) (EndsNames sign.Comma) ts l room names j
    → Global (strict nesting_limit) ts i (statement.Global names) room j
unfolding Global NamesBy
global_by {names = names} w x = behind_read (kind.Keyword word.Global) w (record { inner = names; read = x.derived; tree = refl })

pub global_answer : {ts : List Terminal} {i room l j : ℕ} {t : Unit {0}} {names : List (List ℕ)} → IsReading (Token (kind.Keyword word.Global)) Anywhere ts i room t l → IsReading (NamesBy sign.Comma) (EndsNames sign.Comma) ts l room names j
    → (result : Result (Found StmtForm) Unread) → IsEnded (statement.Global names) j ts result → Reads Global EndsSimple ts i room result
global_answer {ts} {i} {room} {l} {j} {t} {names} w x result h =
    ended_answer ts i j room (statement.Global names) good_global only_global_names (simple_ends_names sign.Comma (λ e. cc)) (global_by w x) x.stops x.within result h

-- What a simple statement says

-- where this form begins, the whole is it
pub record Branch (X Y : Shape StmtForm) (ts : List Terminal) (i room : ℕ) : Type 0 where
  pub step : Step X EndsSimple Y EndsSimple ts i i room
  pub into : {t : StmtForm} {j : ℕ} → X (strict nesting_limit) ts i t room j → Y (strict nesting_limit) ts i t room j

pub branch_twice : {X Y Z : Shape StmtForm} {ts : List Terminal} {i room : ℕ} → Branch X Y ts i room → Branch Y Z ts i room → Branch X Z ts i room
branch_twice near far = record { step = step_twice near.step far.step; into = λ h. far.into (near.into h) }

pub branch_reads : {X Y : Shape StmtForm} {ts : List Terminal} {i room : ℕ} → Branch X Y ts i room → (result : Result (Found StmtForm) Unread) → Reads X EndsSimple ts i room result → Reads Y EndsSimple ts i room result
branch_reads branch (Ok found) h = record { derived = branch.into h.derived; stops = h.stops; within = h.within }
branch_reads branch (Err u) h = fails branch.step u h

by_word : {X Y : Shape StmtForm} {V : Stops} (w : Keyword) (ts : List Terminal) (i room : ℕ) → Laws X (IsWord w) → Laws Y V → Clash (IsWord w) V → IsKeyword ts i w → Branch X (Either X Y) ts i room
by_word {V = V} w ts i room x y clash stands = record {
  step = step_left ts i room x.good.rises (never_by {T = V} {R = IsWord w} ts i (leads_anyhow y.leads) (clash_back {T = IsWord w} {R = V} clash) stands);
  into = λ h. Either.left h;
}

by_other : {X Y : Shape StmtForm} {V : Stops} (w : Keyword) (ts : List Terminal) (i room : ℕ) → Laws X (IsWord w) → Laws Y V → (IsKeyword ts i w → ⊥) → Branch Y (Either X Y) ts i room
by_other w ts i room x y none = record {
  step = step_right ts i room y.good.rises (λ us agree mode t n j h s. none (local_kind (kind.Keyword w) ts us i agree (x.leads.leads h tt)));
  into = λ h. Either.right h;
}

pub is_pass : (ts : List Terminal) (i room : ℕ) → IsKeyword ts i word.Pass → Branch (Lone word.Pass statement.Pass) SimpleForm ts i room
unfolding SimpleForm Assigned
is_pass ts i room h = by_word word.Pass ts i room (laws_lone word.Pass statement.Pass) laws_from_break pass_apart h

from_break : (ts : List Terminal) (i room : ℕ) → (IsKeyword ts i word.Pass → ⊥) → Branch FromBreak SimpleForm ts i room
unfolding SimpleForm Assigned
from_break ts i room a = by_other word.Pass ts i room (laws_lone word.Pass statement.Pass) laws_from_break a

from_continue : (ts : List Terminal) (i room : ℕ) → (IsKeyword ts i word.Pass → ⊥) → (IsKeyword ts i word.Break → ⊥) → Branch FromContinue SimpleForm ts i room
from_continue ts i room a b = branch_twice (by_other word.Break ts i room (laws_lone word.Break statement.Break) laws_from_continue b) (from_break ts i room a)

from_return : (ts : List Terminal) (i room : ℕ) → (IsKeyword ts i word.Pass → ⊥) → (IsKeyword ts i word.Break → ⊥) → (IsKeyword ts i word.Continue → ⊥) → Branch FromReturn SimpleForm ts i room
from_return ts i room a b c = branch_twice (by_other word.Continue ts i room (laws_lone word.Continue statement.Continue) laws_from_return c) (from_continue ts i room a b)

from_raise : (ts : List Terminal) (i room : ℕ) → (IsKeyword ts i word.Pass → ⊥) → (IsKeyword ts i word.Break → ⊥) → (IsKeyword ts i word.Continue → ⊥) → (IsKeyword ts i word.Return → ⊥) → Branch FromRaise SimpleForm ts i room
from_raise ts i room a b c d = branch_twice (by_other word.Return ts i room laws_return laws_from_raise d) (from_return ts i room a b c)

from_global : (ts : List Terminal) (i room : ℕ) → (IsKeyword ts i word.Pass → ⊥) → (IsKeyword ts i word.Break → ⊥) → (IsKeyword ts i word.Continue → ⊥) → (IsKeyword ts i word.Return → ⊥) → (IsKeyword ts i word.Raise → ⊥)
    → Branch FromGlobal SimpleForm ts i room
from_global ts i room a b c d e = branch_twice (by_other word.Raise ts i room laws_raise laws_from_global e) (from_raise ts i room a b c d)

pub is_assigned : (ts : List Terminal) (i room : ℕ) → (IsKeyword ts i word.Pass → ⊥) → (IsKeyword ts i word.Break → ⊥) → (IsKeyword ts i word.Continue → ⊥) → (IsKeyword ts i word.Return → ⊥) → (IsKeyword ts i word.Raise → ⊥)
    → (IsKeyword ts i word.Global → ⊥) → Branch Assigned SimpleForm ts i room
is_assigned ts i room a b c d e f = branch_twice (by_other word.Global ts i room laws_global laws_assigned f) (from_global ts i room a b c d e)

unlike : {ts : List Terminal} {i : ℕ} {w v : Keyword} → IsKeyword ts i w → (v ≡ w → ⊥) → IsKeyword ts i v → ⊥
unlike h apart g = apart (one_keyword g h)

pub is_break : (ts : List Terminal) (i room : ℕ) → IsKeyword ts i word.Break → Branch (Lone word.Break statement.Break) SimpleForm ts i room
is_break ts i room h = branch_twice (by_word word.Break ts i room (laws_lone word.Break statement.Break) laws_from_continue break_apart h) (from_break ts i room (unlike h (λ e. cc)))

pub is_continue : (ts : List Terminal) (i room : ℕ) → IsKeyword ts i word.Continue → Branch (Lone word.Continue statement.Continue) SimpleForm ts i room
is_continue ts i room h =
    branch_twice (by_word word.Continue ts i room (laws_lone word.Continue statement.Continue) laws_from_return continue_apart h) (from_continue ts i room (unlike h (λ e. cc)) (unlike h (λ e. cc)))

pub is_return : (ts : List Terminal) (i room : ℕ) → IsKeyword ts i word.Return → Branch Return SimpleForm ts i room
is_return ts i room h = branch_twice (by_word word.Return ts i room laws_return laws_from_raise return_apart h) (from_return ts i room (unlike h (λ e. cc)) (unlike h (λ e. cc)) (unlike h (λ e. cc)))

pub is_raise : (ts : List Terminal) (i room : ℕ) → IsKeyword ts i word.Raise → Branch Raise SimpleForm ts i room
is_raise ts i room h =
    branch_twice (by_word word.Raise ts i room laws_raise laws_from_global raise_apart h) (from_raise ts i room (unlike h (λ e. cc)) (unlike h (λ e. cc)) (unlike h (λ e. cc)) (unlike h (λ e. cc)))

pub is_global : (ts : List Terminal) (i room : ℕ) → IsKeyword ts i word.Global → Branch Global SimpleForm ts i room
is_global ts i room h =
    branch_twice (by_word word.Global ts i room laws_global laws_assigned (word_low word.Global (omega arith)) h)
    (from_global ts i room (unlike h (λ e. cc)) (unlike h (λ e. cc)) (unlike h (λ e. cc)) (unlike h (λ e. cc)) (unlike h (λ e. cc)))

-- a keyword alone
pub lone_answer : {ts : List Terminal} {i room l : ℕ} {t : Unit {0}} (w : Keyword) (form : StmtForm) → IsReading (Token (kind.Keyword w)) Anywhere ts i room t l → (result : Result (Found StmtForm) Unread) → IsEnded form l ts result
    → Reads (Lone w form) EndsSimple ts i room result
lone_answer {ts} {i} {room} {l} {t} w form x result h =
    ended_answer ts i l room form (good_lone w form) (only_lone w form Anywhere) (λ us k s. tt) (behind_read (kind.Keyword w) x (record { tree = refl; end = refl })) tt x.within result h

-- Simple statements

pub simple_first : (ts : List Terminal) (i room : ℕ) → Step SimpleForm EndsSimple Simple EndsSimple ts i i room
unfolding Simple
simple_first ts i room =
    let both = good_seq laws_form.good good_here in
    let solid = solid_front laws_form.solid sound_here in
    let first : Step SimpleForm EndsSimple (Seq SimpleForm Here) EndsSimple ts i i room = step_first {Y = λ _. Here} {R = EndsSimple} ts i room laws_form.good.sound laws_form.good.rises (λ a. fresh_here) (λ a. leads_end EndsSimple) in
    let placed : Step (Seq SimpleForm Here) EndsSimple (Placed (Seq SimpleForm Here)) EndsSimple ts i i room = step_placed EndsSimple ts i room solid both.rises in
    step_twice first (step_twice placed (step_of (λ p. statement_node p.1.1 p.0 p.1.0) EndsSimple ts i room (good_placed solid both).rises))

pub simple_read : {ts : List Terminal} {i room j : ℕ} {form : StmtForm} {at : Span} → IsReading SimpleForm EndsSimple ts i room form j → IsAt ts i at → IsReading Simple EndsSimple ts i room (statement_node j at form) j
unfolding Simple
simple_read {i = i} {j = j} {form = form} {at = at} h placed = record {
  derived = record {
    inner = (at, (form, j));
    read = record { middle = i; first = record { placed = placed; end = refl }; second = record { middle = j; first = h.derived; second = record { counted = refl; end = refl } } };
    tree = refl;
  };
  stops = h.stops;
  within = h.within;
}
