-- What the reading of what a function says of exceptions and the lock shows.
use Rattle.std.proofs.Common.{◌≡◌, inl, inr, ℕ, suc, ◌<◌, true, false, List, Result as Answer, Err, MatchResult, codes, length, refl, sym, subst, arith}
use Rattle.std.proofs.lemmas.Bool.{false≢true}
use denote.Enum.Bare.{sameb, same_false}
use Rattle.px_tree.specs.contracts.modules.FunctionKind.{the_type}
use Rattle.px_lexer.specs.declared.spelling.Keyword.TheVariants as word
use Rattle.px_lexer.specs.declared.spelling.Operator.TheVariants as sign
use Rattle.px_lexer.specs.declared.token_list.TokenKind.TheVariants as kind
use Rattle.px_lexer.specs.declared.token_list.Tokens.{Tokens}
use Rattle.px_tree.specs.declared.expressions.Expr.{Expr}
use Rattle.px_tree.specs.declared.modules.FunctionKind.{FunctionKind}
use Rattle.px_tree.specs.declared.modules.FunctionKind.TheVariants as function_kind
use Rattle.px_tree.specs.declared.modules.ExceptionForm.{ExceptionForm}
use Rattle.px_tree.specs.declared.modules.ExceptionForm.TheVariants as exception
use Rattle.px_tree.specs.declared.modules.Lock.{Lock}
use Rattle.px_tree.specs.declared.modules.Lock.TheVariants as lock
use Rattle.px_exprs.specs.declared.readings.Unread.{Unread}
use Rattle.px_exprs.specs.declared.readings.Unread.TheVariants as unread
use Rattle.px_lexer.specs.Terminals.{terminals_of, Terminal, IsName, IsKeyword, IsOperator}
use Rattle.px_exprs.specs.Readings.{Stops}
use Rattle.px_exprs.specs.Codes.{Past}
use Rattle.px_exprs.specs.Words.{IsStuckAt}
use Rattle.px_exprs.proofs.Agreement.{agree_back}
use Rattle.px_exprs.proofs.Keeping.{name_carried}
use Rattle.px_parser.specs.declared.readings.Found.{Found}
use Rattle.px_parser.specs.Shapes.{Shape, Sign, Soft, Of, After}
use Rattle.px_parser.specs.Readings.{IsReading, IsUnread, IsStuck, Reads, Anywhere, IsMisread}
use Rattle.px_parser.specs.Listings.{IsListing}
use Rattle.px_parser.specs.StatementGrammar.{IsWithinLimit}
use Rattle.px_parser.specs.Ends.{EndsException, IsBefore}
use Rattle.px_parser.specs.Parts.{Caught}
use Rattle.px_parser.specs.ModuleGrammar.{Exception, LockForm, Tail}
use Rattle.px_parser.proofs.Shapely.{Good, good_token, good_soft, good_of, good_after, good_gives}
use Rattle.px_parser.proofs.Onlies.{Clash, leads_of, leads_token, leads_after, only_of, only_token, only_soft, only_after}
use Rattle.px_parser.proofs.Steps.{Step, Local, Never, fails, step_left, step_right, step_twice, never_by, stuck_here}
use Rattle.px_parser.proofs.ExprShapes.{good_expr, only_expr}
use Rattle.px_parser.proofs.KindLaws.{IsNot, kind_missing, kinds_apart}
use Rattle.px_parser.proofs.TokenShapes.{misread_by}
use Rattle.px_parser.proofs.ReadingSteps.{read_both, read_of, read_left, read_right, read_after, read_absent, read_ends, inside_terminals, kind_read, spelled_read, step_front, step_back, step_made, step_after, step_or, step_ends, step_anywhere, ended_stuck, local_kind, stuck_of}
use Rattle.px_parser.proofs.FunctionReading.{closed_reads, absent_reads, passed_reads}
use Rattle.px_parser.proofs.FunctionShapes.{leads_to_expr, BeginsExpr, exception_past, BeginsMark, good_maybe_caught, good_caught_mark, leads_caught_mark, mark_begins_no_expr, good_caught, BeginsExcepted, good_noexcept, good_except, good_excepted, leads_excepted, excepted_or_ended, name_and_kind, good_exception, only_exception, Locked, BeginsLocked, good_gil, good_locked, leads_locked, only_locked, locked_or_ended, good_lock_form, leads_lock_form}

-- What a function says of exceptions

local_exception : Local EndsException
local_exception ts us i agree (inl h) = inl (name_carried (suc i) (agree_back us ts agree) h (omega arith))
local_exception ts us i agree (inr (inl h)) = inr (inl (local_kind (kind.Keyword word.With) ts us i agree h))
local_exception ts us i agree (inr (inr h)) = inr (inr (local_kind (kind.Operator sign.Colon) ts us i agree h))

abbrev Says : {A : Type 0} → List Terminal → A → ℕ → Answer (Found A) Unread → Type 0
Says ts tree to r = MatchResult r (λ found. (found.tree ≡ tree) × (found.to ≡ to) × EndsException ts to) (λ u. IsStuckAt to u × (EndsException ts to → ⊥))

abbrev Star : Shape ExceptionForm
Star = Of (λ _. exception.Any) (Sign sign.Star)

abbrev Question : Shape ExceptionForm
Question = After (kind.Operator sign.Question) (Of exception.Maybe IsWithinLimit)

abbrev Valued : Shape ExceptionForm
Valued = Of exception.Except IsWithinLimit

good_valued : Good Valued
good_valued = good_of exception.Except good_expr

good_star : Good Star
good_star = good_of _ (good_token _)

good_question : Good Question
good_question = good_after _ good_maybe_caught

no_value_by : (ts : List Terminal) (i : ℕ) → BeginsMark ts i → Never Valued EndsException ts i
no_value_by ts i mark = never_by {T = BeginsExpr} {R = BeginsMark} ts i (leads_of exception.Except (leads_to_expr {R = EndsException})) mark_begins_no_expr mark

step_star : {ts : List Terminal} {i room : ℕ} → IsOperator ts i sign.Star → Step Star EndsException Caught EndsException ts i i room
unfolding Caught
step_star {ts} {i} {room} here =
    let no_question : Never Question EndsException ts i =
    never_by {T = IsBefore (kind.Operator sign.Question)} {R = IsBefore (kind.Operator sign.Star)} ts i (leads_after (Of exception.Maybe IsWithinLimit) _ EndsException (IsBefore (kind.Operator sign.Question)) (λ us k h. h)) (kinds_apart (λ e. cc)) here in
    step_twice (step_right ts i room good_star.rises no_question) (step_right ts i room good_caught_mark.rises (no_value_by ts i (inr here)))

step_question : {ts : List Terminal} {i room : ℕ} → IsOperator ts i sign.Question → Step Question EndsException Caught EndsException ts i i room
unfolding Caught
step_question {ts} {i} {room} here =
    let no_star : Never Star EndsException ts i =
    never_by {T = IsBefore (kind.Operator sign.Star)} {R = IsBefore (kind.Operator sign.Question)} ts i (leads_of (λ _. exception.Any) (leads_token _ EndsException (IsBefore (kind.Operator sign.Star)) (λ us k h. h))) (kinds_apart (λ e. cc)) here in
    step_twice (step_left ts i room good_question.rises no_star) (step_right ts i room good_caught_mark.rises (no_value_by ts i (inl here)))

abbrev NoMark : Stops
NoMark ts i = IsNot (kind.Operator sign.Question) ts i × IsNot (kind.Operator sign.Star) ts i

no_mark : Clash BeginsMark NoMark
no_mark ts us i agree (inl h) none = kind_missing _ ts us i agree h none.0
no_mark ts us i agree (inr h) none = kind_missing _ ts us i agree h none.1

step_valued : {ts : List Terminal} {i room : ℕ} → NoMark ts i → Step Valued EndsException Caught EndsException ts i i room
unfolding Caught
step_valued {ts} {i} {room} none = step_left ts i room good_valued.rises (never_by {T = BeginsMark} {R = NoMark} ts i (leads_caught_mark {R = EndsException}) no_mark none)

pub star_reads : (tokens : Tokens) (i l room : ℕ) (r : Answer (Found ExceptionForm) Unread) → IsListing tokens → IsOperator (terminals_of tokens) i sign.Star → l ≡ suc i → Says (terminals_of tokens) exception.Any l r
    → Reads Caught EndsException (terminals_of tokens) i room r
unfolding Caught
star_reads tokens i l room r listing here e h =
    passed_reads r (step_star here) (λ a j reading. read_right _ (read_right _ reading))
    (closed_reads r good_star (only_of (λ _. exception.Any) (only_token _ Anywhere)) (λ us k g. tt) local_exception (read_of (λ _. exception.Any) (kind_read tokens i l room listing here (λ f. cc) e)) h)

pub question_unread : (tokens : Tokens) (i l room : ℕ) (u : Unread) → IsListing tokens → IsOperator (terminals_of tokens) i sign.Question → l ≡ suc i → IsUnread IsWithinLimit (Past 26) (terminals_of tokens) l room u
    → IsUnread Caught EndsException (terminals_of tokens) i room u
question_unread tokens i l room u listing here e h =
    fails (step_twice (step_ends good_expr exception_past) (step_twice (step_made exception.Maybe good_expr) (step_twice (step_after _ good_maybe_caught (kind_read tokens i l room listing here (λ f. cc) e)) (step_question here)))) u h

pub question_reads : (tokens : Tokens) (i l j room : ℕ) (value : Expr) (r : Answer (Found ExceptionForm) Unread) → IsListing tokens → IsOperator (terminals_of tokens) i sign.Question → l ≡ suc i
    → IsReading IsWithinLimit (Past 26) (terminals_of tokens) l room value j → Says (terminals_of tokens) (exception.Maybe value) j r → Reads Caught EndsException (terminals_of tokens) i room r
unfolding Caught
question_reads tokens i l j room value r listing here e expr h =
    passed_reads r (step_question here) (λ a k reading. read_right _ (read_left _ reading))
    (closed_reads r good_question (only_after _ good_maybe_caught.sound (only_of exception.Maybe only_expr)) exception_past local_exception (read_after _ (kind_read tokens i l room listing here (λ f. cc) e) (read_of exception.Maybe expr)) h)

pub value_unread : (ts : List Terminal) (i room : ℕ) (u : Unread) → NoMark ts i → IsUnread IsWithinLimit (Past 26) ts i room u → IsUnread Caught EndsException ts i room u
value_unread ts i room u none h = fails (step_twice (step_ends good_expr exception_past) (step_twice (step_made exception.Except good_expr) (step_valued none))) u h

pub value_reads : (ts : List Terminal) (i j room : ℕ) (value : Expr) (r : Answer (Found ExceptionForm) Unread) → NoMark ts i → IsReading IsWithinLimit (Past 26) ts i room value j → Says ts (exception.Except value) j r
    → Reads Caught EndsException ts i room r
unfolding Caught
value_reads ts i j room value r none expr h =
    passed_reads r (step_valued none) (λ a k reading. read_left _ reading) (closed_reads r good_valued (only_of exception.Except only_expr) exception_past local_exception (read_of exception.Except expr) h)

abbrev Noexcept : Shape ExceptionForm
Noexcept = Of (λ _. exception.Noexcept) (Soft (codes "noexcept"))

abbrev Excepting : Shape ExceptionForm
Excepting = After (kind.Keyword word.Except) Caught

step_excepting : {ts : List Terminal} {i room : ℕ} → IsKeyword ts i word.Except → Step Excepting EndsException Exception EndsException ts i i room
unfolding Exception Caught
step_excepting {ts} {i} {room} here =
    let other : Never Noexcept EndsException ts i = λ us agree mode t n j y s. name_and_kind (kind.Keyword word.Except) (λ e. cc) us ts i (agree_back us ts agree) y.read.stands here in
    step_twice (step_right ts i room good_except.rises other) (step_or exception.Unwritten good_excepted excepted_or_ended (inr here))

step_noexcept : {ts : List Terminal} {i room : ℕ} → IsName ts i (codes "noexcept") → Step Noexcept EndsException Exception EndsException ts i i room
unfolding Exception Caught
step_noexcept {ts} {i} {room} here =
    let other : Never Excepting EndsException ts i = λ us agree mode t n j y s. name_and_kind (kind.Keyword word.Except) (λ e. cc) ts us i agree here y.read.first.stands in
    step_twice (step_left ts i room good_noexcept.rises other) (step_or exception.Unwritten good_excepted excepted_or_ended (inl here))

pub excepting_reads : (tokens : Tokens) (i l room : ℕ) (r : Answer (Found ExceptionForm) Unread) → IsListing tokens → IsKeyword (terminals_of tokens) i word.Except → l ≡ suc i → Reads Caught EndsException (terminals_of tokens) l room r
    → Reads Exception EndsException (terminals_of tokens) i room r
unfolding Exception Caught
excepting_reads tokens i l room r listing here e h =
    let token = kind_read tokens i l room listing here (λ f. cc) e in
    passed_reads r (step_twice (step_after _ good_caught token) (step_excepting here)) (λ a j reading. read_left _ (read_right _ (read_after _ token reading))) h

pub noexcept_reads : (tokens : Tokens) (i l room : ℕ) (r : Answer (Found ExceptionForm) Unread) → IsListing tokens → IsName (terminals_of tokens) i (codes "noexcept") → l ≡ suc i → Says (terminals_of tokens) exception.Noexcept l r
    → Reads Exception EndsException (terminals_of tokens) i room r
unfolding Exception Caught
noexcept_reads tokens i l room r listing here e h =
    passed_reads r (step_noexcept here) (λ a j reading. read_left _ (read_left _ reading))
    (closed_reads r good_noexcept (only_of _ (only_soft (codes "noexcept") Anywhere)) (λ us k g. tt) local_exception (read_of _ (spelled_read tokens i l room listing here e)) h)

abbrev NoExcepted : Stops
NoExcepted ts i = (IsName ts i (codes "noexcept") → ⊥) × IsNot (kind.Keyword word.Except) ts i

no_excepted : Clash BeginsExcepted NoExcepted
no_excepted ts us i agree (inl h) none = none.0 (name_carried (suc i) agree h (omega arith))
no_excepted ts us i agree (inr h) none = kind_missing _ ts us i agree h none.1

pub unwritten_reads : (tokens : Tokens) (i room : ℕ) (r : Answer (Found ExceptionForm) Unread) → i < length tokens.list → NoExcepted (terminals_of tokens) i → Says (terminals_of tokens) exception.Unwritten i r
    → Reads Exception EndsException (terminals_of tokens) i room r
unfolding Exception Caught
unwritten_reads tokens i room r inside none h = absent_reads {T = BeginsExcepted} {R = NoExcepted} room exception.Unwritten r good_excepted leads_excepted no_excepted none local_exception (inside_terminals tokens i inside) h

-- What a function says of the lock

-- what was read of it, before it is known whether a colon stands behind it
pub data IsLocked (ts : List Terminal) (i : ℕ) (tree : Lock) (to : ℕ) : Type 0 where
  written : ((room : ℕ) → IsReading Locked Anywhere ts i room tree to) → IsLocked ts i tree to
  unwritten : tree ≡ lock.Unwritten → to ≡ i → (IsName ts i (codes "nogil") → ⊥) → (IsKeyword ts i word.With → ⊥) → i < length ts → IsLocked ts i tree to

pub locked_nogil : (tokens : Tokens) (i l : ℕ) → IsListing tokens → IsName (terminals_of tokens) i (codes "nogil") → l ≡ suc i → IsLocked (terminals_of tokens) i lock.Nogil l
locked_nogil tokens i l listing here e = IsLocked.written (λ room. read_left _ (read_of _ (spelled_read tokens i l room listing here e)))

pub locked_gil : (tokens : Tokens) (i l j : ℕ) → IsListing tokens → IsKeyword (terminals_of tokens) i word.With → l ≡ suc i → ((room : ℕ) → IsReading (Soft (codes "gil")) Anywhere (terminals_of tokens) l room tt j) → IsLocked (terminals_of tokens) i lock.WithGil j
locked_gil tokens i l j listing here e h = IsLocked.written (λ room. read_right _ (read_after _ (kind_read tokens i l room listing here (λ f. cc) e) (read_of _ (h room))))

pub lock_unread : (tokens : Tokens) (i l room : ℕ) (u : Unread) → IsListing tokens → (IsName (terminals_of tokens) i (codes "nogil") → ⊥) → IsKeyword (terminals_of tokens) i word.With → l ≡ suc i
    → IsMisread (Soft (codes "gil")) Anywhere (terminals_of tokens) l room u → IsMisread LockForm (IsBefore (kind.Operator sign.Colon)) (terminals_of tokens) i room u
unfolding LockForm
lock_unread tokens i l room u listing no_nogil here e h =
    let ts = terminals_of tokens in
    let other : Never (Of (λ _. lock.Nogil) (Soft (codes "nogil"))) (IsBefore (kind.Operator sign.Colon)) ts i = λ us agree mode t n j y s. name_and_kind (kind.Keyword word.With) (λ f. cc) us ts i (agree_back us ts agree) y.read.stands here in
    misread_by (step_twice (step_anywhere (good_soft (codes "gil"))) (step_twice (step_made _ (good_soft (codes "gil"))) (step_twice (step_after _ good_gil (kind_read tokens i l room listing here (λ f. cc) e))
    (step_twice (step_right ts i room (good_after _ good_gil).rises other) (step_or lock.Unwritten good_locked locked_or_ended (inr here)))))) h

pub lock_read : (ts : List Terminal) (i j room : ℕ) (tree : Lock) → IsLocked ts i tree j → IsOperator ts j sign.Colon → IsReading LockForm (IsBefore (kind.Operator sign.Colon)) ts i room tree j
unfolding LockForm
lock_read ts i j room tree (IsLocked.written h) colon = read_left _ (read_ends (h room) colon)
lock_read ts i j room tree (IsLocked.unwritten e f no_nogil no_with inside) colon =
    let here : IsReading LockForm (IsBefore (kind.Operator sign.Colon)) ts i room lock.Unwritten i = read_absent Locked lock.Unwritten (subst (λ k. IsOperator ts k sign.Colon) f colon) inside in
    subst (IsReading LockForm (IsBefore (kind.Operator sign.Colon)) ts i room tree) (sym f) (subst (λ a. IsReading LockForm (IsBefore (kind.Operator sign.Colon)) ts i room a i) (sym e) here)

abbrev NoLocked : Stops
NoLocked ts i = (IsName ts i (codes "nogil") → ⊥) × IsNot (kind.Keyword word.With) ts i

no_locked : Clash BeginsLocked NoLocked
no_locked ts us i agree (inl h) none = none.0 (name_carried (suc i) agree h (omega arith))
no_locked ts us i agree (inr h) none = kind_missing _ ts us i agree h none.1

pub lock_stuck : (ts : List Terminal) (i j room : ℕ) (tree : Lock) → IsLocked ts i tree j → (IsOperator ts j sign.Colon → ⊥) → IsStuck LockForm (IsBefore (kind.Operator sign.Colon)) ts i room j
unfolding LockForm
lock_stuck ts i j room tree (IsLocked.written h) missing =
    let begins : BeginsLocked ts i = (leads_locked {R = Anywhere}).leads (h 0).derived tt in
    stuck_of (step_or lock.Unwritten good_locked locked_or_ended begins) (ended_stuck good_locked (only_locked Anywhere) (λ us k g. tt) (local_kind (kind.Operator sign.Colon)) (h room) missing)
lock_stuck ts i j room tree (IsLocked.unwritten e f no_nogil no_with inside) missing =
    let r : Answer (Found Lock) Unread = Err (unread.Stuck i) in
    let colonless : IsOperator ts i sign.Colon → ⊥ = λ h. missing (subst (λ k. IsOperator ts k sign.Colon) (sym f) h) in
    let here : IsStuck LockForm (IsBefore (kind.Operator sign.Colon)) ts i room i =
    absent_reads {T = BeginsLocked} {R = NoLocked} room lock.Unwritten r good_locked leads_locked no_locked (no_nogil, no_with) (local_kind (kind.Operator sign.Colon)) inside (refl, colonless) in
    subst (IsStuck LockForm (IsBefore (kind.Operator sign.Colon)) ts i room) (sym f) here

-- Both

pub told_def : (k : FunctionKind) → sameb the_type k function_kind.Def ≡ true → k ≡ function_kind.Def
told_def function_kind.Def e = refl
told_def function_kind.Cdef e = absurd (false≢true e)
told_def function_kind.Cpdef e = absurd (false≢true e)

pub told_other : (k : FunctionKind) → sameb the_type k function_kind.Def ≡ false → k ≡ function_kind.Def → ⊥
told_other k e = same_false the_type k function_kind.Def e

pub tail_first : (k : FunctionKind) (ts : List Terminal) (i room : ℕ) (u : Unread) → (k ≡ function_kind.Def → ⊥) → IsUnread Exception EndsException ts i room u → IsUnread (Tail k) (IsBefore (kind.Operator sign.Colon)) ts i room u
tail_first function_kind.Def ts i room u other h = absurd (other refl)
tail_first function_kind.Cdef ts i room u other h = fails (step_front good_exception good_lock_form leads_lock_form) u h
tail_first function_kind.Cpdef ts i room u other h = fails (step_front good_exception good_lock_form leads_lock_form) u h

pub tail_second : (k : FunctionKind) (ts : List Terminal) (i l room : ℕ) (said : ExceptionForm) (u : Unread) → (k ≡ function_kind.Def → ⊥) → IsReading Exception EndsException ts i room said l
    → IsUnread LockForm (IsBefore (kind.Operator sign.Colon)) ts l room u → IsUnread (Tail k) (IsBefore (kind.Operator sign.Colon)) ts i room u
tail_second function_kind.Def ts i l room said u other reading h = absurd (other refl)
tail_second function_kind.Cdef ts i l room said u other reading h = fails (step_back good_exception good_lock_form only_exception leads_lock_form reading) u h
tail_second function_kind.Cpdef ts i l room said u other reading h = fails (step_back good_exception good_lock_form only_exception leads_lock_form reading) u h

pub tail_read : (k : FunctionKind) (ts : List Terminal) (i l j room : ℕ) (said : ExceptionForm) (locked : Lock) → (k ≡ function_kind.Def → ⊥) → IsReading Exception EndsException ts i room said l
    → IsReading LockForm (IsBefore (kind.Operator sign.Colon)) ts l room locked j → IsReading (Tail k) (IsBefore (kind.Operator sign.Colon)) ts i room (said, locked) j
tail_read function_kind.Def ts i l j room said locked other reading h = absurd (other refl)
tail_read function_kind.Cdef ts i l j room said locked other reading h = read_both reading h
tail_read function_kind.Cpdef ts i l j room said locked other reading h = read_both reading h

pub def_tail_read : (k : FunctionKind) (tokens : Tokens) (i room : ℕ) → k ≡ function_kind.Def → i < length tokens.list → IsOperator (terminals_of tokens) i sign.Colon
    → IsReading (Tail k) (IsBefore (kind.Operator sign.Colon)) (terminals_of tokens) i room (exception.Unwritten, lock.Unwritten) i
def_tail_read function_kind.Def tokens i room e inside colon = record { derived = record { tree = refl; end = refl }; stops = colon; within = inside_terminals tokens i inside }
def_tail_read function_kind.Cdef tokens i room e inside colon = absurd cc
def_tail_read function_kind.Cpdef tokens i room e inside colon = absurd cc

pub def_tail_stuck : (k : FunctionKind) (tokens : Tokens) (i room : ℕ) → k ≡ function_kind.Def → i < length tokens.list → (IsOperator (terminals_of tokens) i sign.Colon → ⊥)
    → IsStuck (Tail k) (IsBefore (kind.Operator sign.Colon)) (terminals_of tokens) i room i
def_tail_stuck function_kind.Def tokens i room e inside missing =
    let ts = terminals_of tokens in
    stuck_here ts i room (good_gives (exception.Unwritten, lock.Unwritten)).fresh (inside_terminals tokens i inside) (λ us agree mode t n j y s. missing (local_kind (kind.Operator sign.Colon) ts us i agree (subst (λ k. IsOperator us k sign.Colon) y.end s)))
def_tail_stuck function_kind.Cdef tokens i room e inside missing = absurd cc
def_tail_stuck function_kind.Cpdef tokens i room e inside missing = absurd cc
