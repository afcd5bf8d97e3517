-- What the reading of a function shows.
use Rattle.std.proofs.Common.{◌≡◌, inl, inr, ℕ, suc, ◌<◌, Bool, true, false, List, Result as Answer, Ok, Err, MatchResult, length, refl, sym, subst, arith}
use Rattle.px_base.specs.declared.refusals.Span.{Span}
use Rattle.px_lexer.specs.declared.spelling.Keyword.TheVariants as word
use Rattle.px_lexer.specs.declared.spelling.Operator.TheVariants as sign
use Rattle.px_lexer.specs.declared.token_list.TokenKind.TheVariants as kind
use Rattle.px_lexer.specs.declared.token_list.Tokens.{Tokens}
use Rattle.px_exprs.specs.declared.readings.Unread.{Unread}
use Rattle.px_exprs.specs.declared.readings.Unread.TheVariants as unread
use Rattle.px_lexer.specs.Terminals.{terminals_of, Terminal, IsName, IsKeyword, IsAt}
use Rattle.px_exprs.specs.Readings.{Stops}
use Rattle.px_exprs.specs.Words.{IsStuckAt, IsNamed}
use Rattle.px_exprs.proofs.Agreement.{agree_back}
use Rattle.px_exprs.proofs.Keeping.{kind_carried}
use Rattle.px_parser.specs.declared.readings.Found.{Found}
use Rattle.px_parser.specs.Shapes.{Shape, Token, Seq, Either, Of, After, Or}
use Rattle.px_parser.specs.Readings.{IsReading, IsUnread, IsStuck, Reads, Anywhere, IsMisread, ReadsWithin}
use Rattle.px_parser.specs.Listings.{IsListing}
use Rattle.px_parser.specs.Ends.{EndsNames, EndsParameter, IsBefore}
use Rattle.px_parser.specs.Parts.{NamesBy}
use Rattle.px_parser.specs.ModuleGrammar.{Dotted, Truth, DecoratorLine, NotNone}
use Rattle.px_parser.proofs.Shapely.{Good, good_token, good_here, good_of, good_seq, good_or, sound_token}
use Rattle.px_parser.proofs.Onlies.{Leads, Clash, Only, leads_of, leads_anywhere, only_of, only_token, only_before, only_seq}
use Rattle.px_parser.proofs.Steps.{Step, Local, Never, Alike, fails, step_twice, step_alike, stuck_here}
use Rattle.px_parser.proofs.TokenShapes.{unread_at, misread_by}
use Rattle.px_parser.proofs.KindLaws.{IsNot, kind_missing}
use Rattle.px_parser.proofs.ReadingSteps.{read_both, read_of, read_left, read_right, read_after, read_before, read_placed, read_here, read_absent, read_ends, inside_terminals, kind_read, step_front, step_back, step_made, step_word, step_after, step_before, step_end, step_number, step_placed, step_or, step_anywhere, ended_stuck, local_kind}
use Rattle.px_parser.proofs.ImportShapes.{good_dotted, only_dotted}
use Rattle.px_parser.proofs.ImportReading.{dotted_read, dotted_unread}
use Rattle.px_parser.proofs.FunctionShapes.{good_truth, only_truth, TruthClosed, TruthLine, DecoratorCall, DecoratorName, good_truth_closed, good_truth_line, good_decorator_call, leads_decorator_call, solid_decorator_name, good_decorator_name, good_decorator_behind, solid_decorator_behind, good_decorator_placed, NotNoneWords, not_ends_none, leads_not_none_words}

-- Readers that end where another did

pub closed_reads : {A : Type 0} {X : Shape A} {S R : Stops} {ts : List Terminal} {i l room : ℕ} {t : A} (r : Answer (Found A) Unread) → Good X → Only X S → ((us : List Terminal) (k : ℕ) → R us k → S us k) → Local R → IsReading X S ts i room t l
    → MatchResult r (λ found. (found.tree ≡ t) × (found.to ≡ l) × R ts l) (λ u. IsStuckAt l u × (R ts l → ⊥)) → Reads X R ts i room r
closed_reads {X = X} {R = R} {ts = ts} {i = i} {l = l} {room = room} (Ok found) good only narrower local reading h =
    subst (IsReading X R ts i room found.tree) (sym h.1) (subst (λ a. IsReading X R ts i room a l) (sym h.0) (read_ends reading h.2))
closed_reads (Err u) good only narrower local reading h = unread_at u h.0 (ended_stuck good only narrower local reading h.1)

-- nothing of the form stands here
pub absent_reads : {A : Type 0} {X : Shape A} {S T R : Stops} {ts : List Terminal} {i : ℕ} (room : ℕ) (absent : A) (r : Answer (Found A) Unread) → Good X → Leads X S T → Clash T R → R ts i → Local S → i < length ts
    → MatchResult r (λ found. (found.tree ≡ absent) × (found.to ≡ i) × S ts i) (λ u. IsStuckAt i u × (S ts i → ⊥)) → Reads (Or absent X) S ts i room r
absent_reads {X = X} {S = S} {ts = ts} {i = i} room absent (Ok found) good leads clash none local inside h =
    subst (IsReading (Or absent X) S ts i room found.tree) (sym h.1) (subst (λ a. IsReading (Or absent X) S ts i room a i) (sym h.0) (read_absent X absent h.2 inside))
absent_reads {X = X} {S = S} {ts = ts} {i = i} room absent (Err u) good leads clash none local inside h =
    let never : Never (Or absent X) S ts i = λ us agree mode t n j y s. elim (y) [
      | Either.left g ↦ absurd (clash us ts i (agree_back us ts agree) (leads.leads g s) none)
      | Either.right g ↦ absurd (h.1 (local ts us i agree (subst (S us) g.end s)))
    ] in
    unread_at u h.0 (stuck_here ts i room (good_or absent good).fresh inside never)

-- the answer for a part is the answer for the whole
pub passed_reads : {A : Type 0} {X Y : Shape A} {S R : Stops} {ts : List Terminal} {i l room : ℕ} (r : Answer (Found A) Unread) → Step X S Y R ts i l room → ((a : A) (j : ℕ) → IsReading X S ts l room a j → IsReading Y R ts i room a j)
    → Reads X S ts l room r → Reads Y R ts i room r
passed_reads (Ok found) step reads h = reads found.tree found.to h
passed_reads (Err u) step reads h = fails step u h

pub of_alike : {A B : Type 0} {X : Shape A} (f : A → B) → Alike (Of f X) X
of_alike f = record { there = λ h. (h.inner, h.read); back = λ {u = u} h. (f u, record { inner = u; read = h; tree = refl }) }

pub step_inner : {A B : Type 0} {X : Shape A} {S : Stops} {ts : List Terminal} {i room : ℕ} (f : A → B) → Good X → Step (Of f X) S X S ts i i room
step_inner {S = S} {ts = ts} {i = i} {room = room} f x = step_alike S ts i room (good_of f x).rises (of_alike f)

-- a name that is known to stand there is refused for want of memory alone
pub named_refused : {A : Type 0} (X : Shape A) (S : Stops) (ts : List Terminal) (i room n : ℕ) (name : List ℕ) (u : Unread) → IsName ts n name → IsNamed ts n (Err u) → IsUnread X S ts i room u
named_refused X S ts i room n name (unread.Stuck k) here h = absurd (h.1 name here)
named_refused X S ts i room n name (unread.TooDeep k) here h = absurd h
named_refused X S ts i room n name unread.NoMemory here h = tt

pub named_memory : (ts : List Terminal) (n : ℕ) (name : List ℕ) (u : Unread) → IsName ts n name → IsNamed ts n (Err u) → u ≡ unread.NoMemory
named_memory ts n name (unread.Stuck k) here h = absurd (h.1 name here)
named_memory ts n name (unread.TooDeep k) here h = absurd h
named_memory ts n name unread.NoMemory here h = refl

-- `True` or `False`

pub true_read : (tokens : Tokens) (i j room : ℕ) → IsListing tokens → IsKeyword (terminals_of tokens) i word.True → j ≡ suc i → IsReading Truth Anywhere (terminals_of tokens) i room true j
unfolding Truth
true_read tokens i j room listing here e = read_left _ (read_of _ (kind_read tokens i j room listing here (λ f. cc) e))

pub false_read : (tokens : Tokens) (i j room : ℕ) → IsListing tokens → IsKeyword (terminals_of tokens) i word.False → j ≡ suc i → IsReading Truth Anywhere (terminals_of tokens) i room false j
unfolding Truth
false_read tokens i j room listing here e = read_right _ (read_of _ (kind_read tokens i j room listing here (λ f. cc) e))

pub truth_stuck : (tokens : Tokens) (i room : ℕ) → i < length tokens.list → (IsKeyword (terminals_of tokens) i word.True → ⊥) → (IsKeyword (terminals_of tokens) i word.False → ⊥) → IsStuck Truth Anywhere (terminals_of tokens) i room i
unfolding Truth
truth_stuck tokens i room inside no_true no_false =
    let ts = terminals_of tokens in
    let good : Good Truth = good_truth in
    let never : Never Truth Anywhere ts i = λ us agree mode t n j y s. elim (y) [
      | Either.left g ↦ no_true (kind_carried (suc i) (agree_back us ts agree) g.read.stands (omega arith))
      | Either.right g ↦ no_false (kind_carried (suc i) (agree_back us ts agree) g.read.stands (omega arith))
    ] in
    stuck_here ts i room good.fresh (inside_terminals tokens i inside) never

-- Decorators

behind_line : {ts : List Terminal} {i room : ℕ} → Step (After (kind.Operator sign.At) DecoratorName) Anywhere DecoratorLine Anywhere ts i i room
unfolding DecoratorLine
behind_line = step_twice (step_placed good_decorator_behind solid_decorator_behind) (step_twice (step_number good_decorator_placed) (step_made _ (good_seq good_here good_decorator_placed)))

behind_at : {ts : List Terminal} {i l room : ℕ} → IsReading (Token (kind.Operator sign.At)) Anywhere ts i room tt l → Step (Seq Dotted DecoratorCall) Anywhere DecoratorLine Anywhere ts i l room
behind_at at = step_twice (step_placed (good_seq good_dotted good_decorator_call) solid_decorator_name) (step_twice (step_after _ good_decorator_name at) behind_line)

behind_names : {ts : List Terminal} {i l m room : ℕ} {names : List (List ℕ)} → IsReading (Token (kind.Operator sign.At)) Anywhere ts i room tt l → IsReading (NamesBy sign.Point) (EndsNames sign.Point) ts l room names m
    → Step DecoratorCall Anywhere DecoratorLine Anywhere ts i m room
behind_names at named = step_twice (step_back good_dotted good_decorator_call only_dotted leads_decorator_call (dotted_read named)) (behind_at at)

behind_opening : {ts : List Terminal} {i l m k room : ℕ} {names : List (List ℕ)} → IsReading (Token (kind.Operator sign.At)) Anywhere ts i room tt l → IsReading (NamesBy sign.Point) (EndsNames sign.Point) ts l room names m
    → IsReading (Token (kind.Operator sign.OpenParenthesis)) Anywhere ts m room tt k → Step TruthLine Anywhere DecoratorLine Anywhere ts i k room
behind_opening at named opening = step_twice (step_after _ good_truth_line opening) (behind_names at named)

pub decorator_sign : (ts : List Terminal) (i room : ℕ) (u : Unread) → IsUnread (Token (kind.Operator sign.At)) Anywhere ts i room u → IsUnread DecoratorLine Anywhere ts i room u
decorator_sign ts i room u h = fails (step_twice (step_word _ good_decorator_name) behind_line) u h

pub decorator_name : (ts : List Terminal) (i l room : ℕ) (u : Unread) → IsReading (Token (kind.Operator sign.At)) Anywhere ts i room tt l → IsUnread (NamesBy sign.Point) (EndsNames sign.Point) ts l room u → IsUnread DecoratorLine Anywhere ts i room u
decorator_name ts i l room u at h = fails (step_twice (step_front good_dotted good_decorator_call leads_decorator_call) (behind_at at)) u (dotted_unread (EndsNames sign.Point) ts l room u h)

pub decorator_opening : (ts : List Terminal) (i l m room : ℕ) (names : List (List ℕ)) (u : Unread) → IsReading (Token (kind.Operator sign.At)) Anywhere ts i room tt l → IsReading (NamesBy sign.Point) (EndsNames sign.Point) ts l room names m
    → IsUnread (Token (kind.Operator sign.OpenParenthesis)) Anywhere ts m room u → IsUnread DecoratorLine Anywhere ts i room u
decorator_opening ts i l m room names u at named h = fails (step_twice (step_word _ good_truth_line) (behind_names at named)) u h

pub decorator_value : (ts : List Terminal) (i l m k room : ℕ) (names : List (List ℕ)) (u : Unread) → IsReading (Token (kind.Operator sign.At)) Anywhere ts i room tt l → IsReading (NamesBy sign.Point) (EndsNames sign.Point) ts l room names m
    → IsReading (Token (kind.Operator sign.OpenParenthesis)) Anywhere ts m room tt k → IsUnread Truth Anywhere ts k room u → IsUnread DecoratorLine Anywhere ts i room u
decorator_value ts i l m k room names u at named opening h =
    fails (step_twice (step_before {S = Anywhere} (kind.Operator sign.CloseParenthesis) good_truth (λ us p g. tt)) (step_twice (step_before {S = Anywhere} kind.Newline good_truth_closed (λ us p g. tt)) (behind_opening at named opening))) u h

pub decorator_closing : (ts : List Terminal) (i l m k o room : ℕ) (names : List (List ℕ)) (value : Bool) (u : Unread) → IsReading (Token (kind.Operator sign.At)) Anywhere ts i room tt l
    → IsReading (NamesBy sign.Point) (EndsNames sign.Point) ts l room names m → IsReading (Token (kind.Operator sign.OpenParenthesis)) Anywhere ts m room tt k → IsReading Truth Anywhere ts k room value o
    → IsUnread (Token (kind.Operator sign.CloseParenthesis)) Anywhere ts o room u → IsUnread DecoratorLine Anywhere ts i room u
decorator_closing ts i l m k o room names value u at named opening truth h =
    fails (step_twice (step_end (kind.Operator sign.CloseParenthesis) good_truth (only_truth Anywhere) (λ us p g. tt) truth) (step_twice (step_before {S = Anywhere} kind.Newline good_truth_closed (λ us p g. tt)) (behind_opening at named opening))) u h

only_closed : Only TruthClosed Anywhere
only_closed = only_before (kind.Operator sign.CloseParenthesis) Anywhere good_truth.sound (only_truth Anywhere) (λ ts i h. tt)

pub decorator_end : (ts : List Terminal) (i l m k o p room : ℕ) (names : List (List ℕ)) (value : Bool) (u : Unread) → IsReading (Token (kind.Operator sign.At)) Anywhere ts i room tt l
    → IsReading (NamesBy sign.Point) (EndsNames sign.Point) ts l room names m → IsReading (Token (kind.Operator sign.OpenParenthesis)) Anywhere ts m room tt k → IsReading Truth Anywhere ts k room value o
    → IsReading (Token (kind.Operator sign.CloseParenthesis)) Anywhere ts o room tt p → IsUnread (Token kind.Newline) Anywhere ts p room u → IsUnread DecoratorLine Anywhere ts i room u
decorator_end ts i l m k o p room names value u at named opening truth closing h =
    fails (step_twice (step_end kind.Newline good_truth_closed only_closed (λ us q g. tt) (read_before _ truth closing)) (behind_opening at named opening)) u h

pub decorator_read : (ts : List Terminal) (i l m k o p q room : ℕ) (names : List (List ℕ)) (value : Bool) (place name_place : Span) → IsAt ts i place → IsAt ts l name_place → IsReading (Token (kind.Operator sign.At)) Anywhere ts i room tt l
    → IsReading (NamesBy sign.Point) (EndsNames sign.Point) ts l room names m → IsReading (Token (kind.Operator sign.OpenParenthesis)) Anywhere ts m room tt k → IsReading Truth Anywhere ts k room value o
    → IsReading (Token (kind.Operator sign.CloseParenthesis)) Anywhere ts o room tt p → IsReading (Token kind.Newline) Anywhere ts p room tt q
    → IsReading DecoratorLine Anywhere ts i room (record { number = i; at = place; name = names; name_at = name_place; value = value }) q
unfolding DecoratorLine
decorator_read ts i l m k o p q room names value place name_place placed named_at at named opening truth closing ended =
    read_of _ (read_here (read_placed placed (read_after _ at (read_placed named_at (read_both (dotted_read named) (read_after _ opening (read_before _ (read_before _ truth closing) ended)))))))

-- ['not' 'None']

local_parameter : Local EndsParameter
local_parameter ts us i agree (inl h) = inl (local_kind (kind.Operator sign.Comma) ts us i agree h)
local_parameter ts us i agree (inr h) = inr (local_kind (kind.Operator sign.CloseParenthesis) ts us i agree h)

good_not_none_words : Good NotNoneWords
good_not_none_words = good_seq (good_token _) (good_token _)

pub no_not_none : (tokens : Tokens) (i room : ℕ) (r : Answer (Found Bool) Unread) → i < length tokens.list → (IsKeyword (terminals_of tokens) i word.Not → ⊥)
    → MatchResult r (λ found. (found.tree ≡ false) × (found.to ≡ i) × EndsParameter (terminals_of tokens) i) (λ u. IsStuckAt i u × (EndsParameter (terminals_of tokens) i → ⊥)) → Reads NotNone EndsParameter (terminals_of tokens) i room r
unfolding NotNone
no_not_none tokens i room r inside none h =
    absent_reads {T = IsBefore (kind.Keyword word.Not)} {R = IsNot (kind.Keyword word.Not)} room false r (good_of _ good_not_none_words) (leads_of _ leads_not_none_words) (kind_missing _) none local_parameter (inside_terminals tokens i inside) h

pub not_without_none : (tokens : Tokens) (i l room : ℕ) (u : Unread) → IsListing tokens → IsKeyword (terminals_of tokens) i word.Not → l ≡ suc i → IsMisread (Token (kind.Keyword word.None)) Anywhere (terminals_of tokens) l room u
    → IsMisread NotNone EndsParameter (terminals_of tokens) i room u
unfolding NotNone
not_without_none tokens i l room u listing here e h =
    misread_by (step_twice (step_anywhere (good_token _)) (step_twice (step_back (good_token _) (good_token _) (only_token _ Anywhere) (leads_anywhere (Token (kind.Keyword word.None)) EndsParameter) (kind_read tokens i l room listing here (λ f. cc) e))
    (step_twice (step_made _ good_not_none_words) (step_or false (good_of _ good_not_none_words) not_ends_none here)))) h

-- it is stuck, if it isn't read
pub not_none_told : (ts : List Terminal) (from to room : ℕ) (told : Bool) (r : Answer (Found Bool) Unread) → MatchResult r (λ found. (found.tree ≡ told) × (found.to ≡ to) × EndsParameter ts to) (λ u. IsStuckAt to u × (EndsParameter ts to → ⊥))
    → Reads NotNone EndsParameter ts from room r → ReadsWithin NotNone EndsParameter ts from room r
not_none_told ts from to room told (Ok found) m h = h
not_none_told ts from to room told (Err (unread.Stuck k)) m h = record { at = k; is = refl; stuck = h }
not_none_told ts from to room told (Err (unread.TooDeep k)) m h = absurd m.0
not_none_told ts from to room told (Err unread.NoMemory) m h = absurd m.0

pub not_none_reads : (tokens : Tokens) (i l j room : ℕ) (r : Answer (Found Bool) Unread) → IsListing tokens → IsKeyword (terminals_of tokens) i word.Not → l ≡ suc i → IsReading (Token (kind.Keyword word.None)) Anywhere (terminals_of tokens) l room tt j
    → MatchResult r (λ found. (found.tree ≡ true) × (found.to ≡ j) × EndsParameter (terminals_of tokens) j) (λ u. IsStuckAt j u × (EndsParameter (terminals_of tokens) j → ⊥)) → Reads NotNone EndsParameter (terminals_of tokens) i room r
unfolding NotNone
not_none_reads tokens i l j room r listing here e none h =
    let words = read_of (λ _. true) (read_both (kind_read tokens i l room listing here (λ f. cc) e) none) in
    let only = only_of (λ _. true) (only_seq (sound_token _) (sound_token _) (only_token _ Anywhere) (leads_anywhere (Token (kind.Keyword word.None)) Anywhere) (only_token _ Anywhere)) in
    passed_reads r (step_or false (good_of _ good_not_none_words) not_ends_none here) (λ a k reading. read_left _ reading) (closed_reads r (good_of _ good_not_none_words) only (λ us k g. tt) local_parameter words h)
