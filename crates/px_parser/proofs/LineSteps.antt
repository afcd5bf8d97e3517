-- How the simple statements of a line are read.
use Rattle.std.proofs.Common.{◌≡◌, ℕ, suc, ◌+◌, List, [], ◌∷◌, ◌++◌, ◌⊎◌, inl, inr, refl, sym, subst, ◌∙◌, arith}
use Rattle.px_lexer.specs.declared.spelling.Operator.TheVariants as sign
use Rattle.px_lexer.specs.declared.token_list.TokenKind.{TokenKind}
use Rattle.px_lexer.specs.declared.token_list.TokenKind.TheVariants as kind
use Rattle.px_tree.specs.declared.statements.Stmt.{Stmt}
use Rattle.px_exprs.specs.declared.readings.Unread.{Unread}
use Rattle.px_lexer.specs.Terminals.{Terminal, HasKind, IsOperator}
use Rattle.px_exprs.specs.Runs.{nesting_limit}
use Rattle.px_exprs.proofs.Agreement.{agree_back}
use Rattle.px_exprs.proofs.Keeping.{kind_carried}
use Rattle.px_parser.specs.Shapes.{Token, Seq, Many}
use Rattle.px_parser.specs.Parsing.{strict}
use Rattle.px_parser.specs.Readings.{IsUnread, IsReading, Anywhere}
use Rattle.px_parser.specs.StatementGrammar.{Simple, Line}
use Rattle.px_parser.specs.Ends.{EndsSimple}
use Rattle.px_parser.proofs.Shapely.{fresh_token, good_token, good_seq}
use Rattle.px_parser.proofs.Onlies.{leads_token}
use Rattle.px_parser.proofs.Steps.{Step, step_first, step_of, step_twice}
use Rattle.px_parser.proofs.ListedSteps.{Front, front_more, listed_last, listed_ended, step_listed_first, step_listed_next}
use Rattle.px_parser.proofs.SimpleShapes.{Simples, IsNewline, good_simple, good_simples, only_simple, leads_simple, no_simple_newline, semicolon_apart}
use Rattle.px_parser.proofs.SimpleSteps.{token_refused}

abbrev semicolon : TokenKind
semicolon = kind.Operator sign.Semicolon

-- the statements so far, with `;` between them
pub record IsLineSoFar (ts : List Terminal) (i room : ℕ) (xs : List Stmt) (to : ℕ) : Type 0 where
  pub before : List Stmt
  pub final : Stmt
  pub at : ℕ
  pub tree : xs ≡ before ++ final ∷ []
  pub front : Front (kind.Operator sign.Semicolon) Simple (strict nesting_limit) ts i before room at
  pub read : IsReading Simple EndsSimple ts at room final to

pub line_begins : {ts : List Terminal} {i room to : ℕ} {s : Stmt} → IsReading Simple EndsSimple ts i room s to → IsLineSoFar ts i room (s ∷ []) to
line_begins {i = i} {s = s} h = record { before = []; final = s; at = i; tree = refl; front = Many.none; read = h }

line_front : {ts : List Terminal} {i room to : ℕ} {xs : List Stmt} → IsLineSoFar ts i room xs to → IsOperator ts to sign.Semicolon → Front semicolon Simple (strict nesting_limit) ts i xs room (suc to)
line_front {ts} {i} {room} {to} {xs} h stands =
    subst (λ ys. Front semicolon Simple (strict nesting_limit) ts i ys room (suc to)) (sym h.tree) (front_more semicolon h.front h.read.derived stands)

pub line_more : {ts : List Terminal} {i room to p j : ℕ} {xs : List Stmt} {s : Stmt} → IsLineSoFar ts i room xs to → IsOperator ts to sign.Semicolon → p ≡ suc to → IsReading Simple EndsSimple ts p room s j → IsLineSoFar ts i room (xs ++ s ∷ []) j
line_more {ts} {i} {room} {to} {p} {j} {xs} {s} h stands e x = record {
  before = xs;
  final = s;
  at = p;
  tree = refl;
  front = subst (λ k. Front semicolon Simple (strict nesting_limit) ts i xs room k) (sym e) (line_front h stands);
  read = x;
}

-- the newline behind them
simples_line : (ts : List Terminal) (i room : ℕ) → Step Simples IsNewline Line Anywhere ts i i room
unfolding Line
simples_line ts i room =
    let first : Step Simples IsNewline (Seq Simples (Token kind.Newline)) Anywhere ts i i room =
    step_first {Y = λ _. Token kind.Newline} {R = Anywhere} ts i room good_simples.sound good_simples.rises (λ a. fresh_token kind.Newline) (λ a. leads_token kind.Newline Anywhere IsNewline (λ us k g. g)) in
    step_twice first (step_of (λ p. p.0) Anywhere ts i room (good_seq good_simples (good_token kind.Newline)).rises)

pub line_first : (ts : List Terminal) (i room : ℕ) → Step Simple EndsSimple Line Anywhere ts i i room
line_first ts i room = step_twice (step_listed_first {S = IsNewline} semicolon ts i room good_simple.rises) (simples_line ts i room)

pub line_next : {ts : List Terminal} {i room to p : ℕ} {xs : List Stmt} → IsLineSoFar ts i room xs to → IsOperator ts to sign.Semicolon → p ≡ suc to → (IsNewline ts p → ⊥) → Step Simple EndsSimple Line Anywhere ts i p room
line_next {ts} {i} {room} {to} {p} {xs} h stands e none =
    let front = subst (λ k. Front semicolon Simple (strict nesting_limit) ts i xs room k) (sym e) (line_front h stands) in
    step_twice (step_listed_next {S = IsNewline} semicolon ts i p room xs good_simple.sound good_simple.rises only_simple leads_simple no_simple_newline semicolon_apart (λ us k g. inl g) (λ us k g. inr g) front
    (λ us agree end. none (kind_carried (suc p) (agree_back us ts agree) end (omega arith)))) (simples_line ts i room)

line_by : {ts : List Terminal} {i room q j : ℕ} {xs : List Stmt} {t : Unit {0}} → Simples (strict nesting_limit) ts i xs room q → IsReading (Token kind.Newline) Anywhere ts q room t j → IsReading Line Anywhere ts i room xs j
unfolding Line
line_by {q = q} {xs = xs} {t = t} h w = record { derived = record { inner = (xs, t); read = record { middle = q; first = h; second = w.derived }; tree = refl }; stops = tt; within = w.within }

no_more : (xs : List Stmt) (s : Stmt) → xs ++ s ∷ [] ≡ [] → ⊥
no_more [] s e = cc
no_more (x ∷ xs) s e = cc

-- no `;` stands behind the last
pub line_ends : {ts : List Terminal} {i room to j : ℕ} {xs : List Stmt} {t : Unit {0}} → IsLineSoFar ts i room xs to → IsReading (Token kind.Newline) Anywhere ts to room t j → IsReading Line Anywhere ts i room xs j
line_ends {ts} {i} {room} {to} {j} {xs} {t} h w = line_by (subst (λ ys. Simples (strict nesting_limit) ts i ys room to) (sym h.tree) (listed_last semicolon h.front h.read.derived)) w

-- a `;` stands behind the last
pub line_ends_behind : {ts : List Terminal} {i room to p j : ℕ} {xs : List Stmt} {t : Unit {0}} → IsLineSoFar ts i room xs to → IsOperator ts to sign.Semicolon → p ≡ suc to → IsReading (Token kind.Newline) Anywhere ts p room t j
    → IsReading Line Anywhere ts i room xs j
line_ends_behind {ts} {i} {room} {to} {p} {j} {xs} {t} h stands e w =
    let front = subst (λ k. Front semicolon Simple (strict nesting_limit) ts i xs room k) (sym e) (line_front h stands) in
    line_by (listed_ended semicolon front (λ none. no_more h.before h.final (sym h.tree ∙ none))) w

-- a newline that stands there is read
pub line_newline : {ts : List Terminal} {q : ℕ} (i room : ℕ) → HasKind ts q kind.Newline → (u : Unread) → IsUnread (Token kind.Newline) Anywhere ts q room u → IsUnread Line Anywhere ts i room u
line_newline i room stands u h = token_refused u h (λ missing. absurd (missing stands))

-- where no `;` stands behind a statement, a newline does
pub newline_behind : {ts : List Terminal} {at room to : ℕ} {s : Stmt} → IsReading Simple EndsSimple ts at room s to → (IsOperator ts to sign.Semicolon → ⊥) → HasKind ts to kind.Newline
newline_behind h none = elim (h.stops) [ inl e ↦ absurd (none e) | inr e ↦ e ]

-- where the newline stands at the end of a line whose last statement ends at an index
pub data EndsLine (ts : List Terminal) (to q : ℕ) : Type 0 where
  behind_semicolon : IsOperator ts to sign.Semicolon → q ≡ suc to → IsNewline ts q → EndsLine ts to q
  behind_simple : (IsOperator ts to sign.Semicolon → ⊥) → q ≡ to → EndsLine ts to q

pub line_exit : {ts : List Terminal} {to q : ℕ} → (IsOperator ts to sign.Semicolon × IsNewline ts (to + 1)) ⊎ (IsOperator ts to sign.Semicolon → ⊥)
    → (IsOperator ts to sign.Semicolon × (q ≡ to + 1)) ⊎ ((IsOperator ts to sign.Semicolon → ⊥) × (q ≡ to)) → EndsLine ts to q
line_exit {ts = ts} (inl t) (inl b) = EndsLine.behind_semicolon b.0 (omega (arith, b.1)) (subst (IsNewline ts) (sym b.1) t.1)
line_exit (inl t) (inr b) = EndsLine.behind_simple b.0 b.1
line_exit (inr t) (inl b) = absurd (t b.0)
line_exit (inr t) (inr b) = EndsLine.behind_simple b.0 b.1

pub ends_newline : {ts : List Terminal} {i room to q : ℕ} {xs : List Stmt} → IsLineSoFar ts i room xs to → EndsLine ts to q → IsNewline ts q
ends_newline h (EndsLine.behind_semicolon stands e there) = there
ends_newline {ts = ts} h (EndsLine.behind_simple none e) = subst (IsNewline ts) (sym e) (newline_behind h.read none)

pub ends_read : {ts : List Terminal} {i room to q j : ℕ} {xs : List Stmt} {t : Unit {0}} → IsLineSoFar ts i room xs to → EndsLine ts to q → IsReading (Token kind.Newline) Anywhere ts q room t j → IsReading Line Anywhere ts i room xs j
ends_read h (EndsLine.behind_semicolon stands e there) w = line_ends_behind h stands e w
ends_read {ts = ts} {room = room} {j = j} {t = t} h (EndsLine.behind_simple none e) w = line_ends h (subst (λ k. IsReading (Token kind.Newline) Anywhere ts k room t j) e w)
