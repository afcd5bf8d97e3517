-- What the readers of single tokens answer.
use Rattle.std.proofs.Common.{◌≡◌, ℕ, suc, ◌+◌, ◌<◌, Bool, List, length, Result, Ok, Err, MatchResult, IsTrue, IsFalse, refl, sym, subst, arith}
use Rattle.px_lexer.specs.declared.token_list.Tokens.{Tokens}
use Rattle.px_lexer.specs.declared.token_list.TokenKind.{TokenKind}
use Rattle.px_lexer.specs.declared.token_list.TokenKind.TheVariants as kind
use Rattle.px_exprs.specs.declared.readings.Unread.{Unread}
use Rattle.px_exprs.specs.declared.readings.Unread.TheVariants as unread
use Rattle.px_lexer.specs.Terminals.{Terminal, HasKind, IsName, terminals_of}
use Rattle.px_exprs.specs.Readings.{Stops}
use Rattle.px_exprs.specs.Words.{IsStuckAt, IsNamed}
use Rattle.px_exprs.proofs.Agreement.{agree_back}
use Rattle.px_exprs.proofs.Keeping.{kind_carried, name_carried}
use Rattle.px_lexer.proofs.TokenAccess.{length_terminals, name_kind}
use Rattle.px_parser.specs.declared.readings.Found.{Found}
use Rattle.px_parser.specs.Listings.{IsListing}
use Rattle.px_parser.specs.Shapes.{Shape, Token, Name, Soft}
use Rattle.px_parser.specs.Readings.{IsStuck, IsUnread, IsMisread, IsReading, ReadsTokens, Anywhere}
use Rattle.px_parser.proofs.Shapely.{fresh_token, fresh_name, fresh_soft}
use Rattle.px_parser.proofs.Steps.{Step, fails, stuck_here}

-- a reader that is stuck at an index says so
pub unread_at : {A : Type 0} {X : Shape A} {S : Stops} {ts : List Terminal} {from room k : ℕ} → (u : Unread) → IsStuckAt k u → IsStuck X S ts from room k → IsUnread X S ts from room u
unread_at {X = X} {S = S} {ts = ts} {from = from} {room = room} (unread.Stuck i) e h = subst (IsStuck X S ts from room) (sym e) h
unread_at (unread.TooDeep i) e h = absurd e
unread_at unread.NoMemory e h = tt

-- what the reader of tokens says is what a reader says
pub misread : {A : Type 0} {X : Shape A} {S : Stops} {ts : List Terminal} {from room : ℕ} {u : Unread} → IsMisread X S ts from room u → IsUnread X S ts from room u
misread {u} h = unread_at u h.is h.stuck

-- where a part of tokens isn't read
pub misread_by : {A B : Type 0} {X : Shape A} {Y : Shape B} {S R : Stops} {ts : List Terminal} {from to room : ℕ} {u : Unread} → Step X S Y R ts to from room → IsMisread X S ts from room u → IsMisread Y R ts to room u
misread_by step h = record { at = h.at; is = h.is; stuck = fails step (unread.Stuck h.at) h.stuck }

-- A token of one kind

-- a token stands behind it
pub token_read : (tokens : Tokens) (i room : ℕ) (k : TokenKind) → IsListing tokens → (k ≡ kind.End → ⊥) → HasKind (terminals_of tokens) i k → IsReading (Token k) Anywhere (terminals_of tokens) i room tt (suc i)
token_read tokens i room k listing other stands = record {
  derived = record { stands = stands; end = refl };
  stops = tt;
  within = omega (arith, listing.goes_on i k stands other, length_terminals tokens);
}

pub token_stuck : (ts : List Terminal) (i room : ℕ) (k : TokenKind) → i < length ts → (HasKind ts i k → ⊥) → IsStuck (Token k) Anywhere ts i room i
token_stuck ts i room k inside none = stuck_here ts i room (fresh_token k) inside (λ us agree mode t n j x s. none (kind_carried (suc i) (agree_back us ts agree) x.stands (omega arith)))

pub soft_read : (tokens : Tokens) (i room : ℕ) (name : List ℕ) → IsListing tokens → IsName (terminals_of tokens) i name → IsReading (Soft name) Anywhere (terminals_of tokens) i room tt (suc i)
soft_read tokens i room name listing stands = record {
  derived = record { stands = stands; end = refl };
  stops = tt;
  within = omega (arith, listing.goes_on i kind.Name (name_kind stands) (λ e. cc), length_terminals tokens);
}

pub soft_stuck : (ts : List Terminal) (i room : ℕ) (name : List ℕ) → i < length ts → (IsName ts i name → ⊥) → IsStuck (Soft name) Anywhere ts i room i
soft_stuck ts i room name inside none = stuck_here ts i room (fresh_soft name) inside (λ us agree mode t n j x s. none (name_carried (suc i) (agree_back us ts agree) x.stands (omega arith)))

pub name_read : (tokens : Tokens) (i room : ℕ) (name : List ℕ) → IsListing tokens → IsName (terminals_of tokens) i name → IsReading Name Anywhere (terminals_of tokens) i room name (i + 1)
name_read tokens i room name listing stands = record {
  derived = record { stands = stands; end = omega arith };
  stops = tt;
  within = omega (arith, listing.goes_on i kind.Name (name_kind stands) (λ e. cc), length_terminals tokens);
}

pub name_stuck : (ts : List Terminal) (i room : ℕ) → i < length ts → ((name : List ℕ) → IsName ts i name → ⊥) → IsStuck Name Anywhere ts i room i
name_stuck ts i room inside none = stuck_here ts i room fresh_name inside (λ us agree mode t n j x s. none t (name_carried (suc i) (agree_back us ts agree) x.stands (omega arith)))

-- Answers

-- what is answered where it is known whether the token stands there
abbrev IsToken : Bool → ℕ → Result (Found (Unit {0})) Unread → Type 0
IsToken told i result = MatchResult result (λ found. IsTrue told × (found.to ≡ i + 1)) (λ unread. IsFalse told × IsStuckAt i unread)

pub token_answer : (tokens : Tokens) (i : ℕ) (k : TokenKind) (told : Bool) (result : Result (Found (Unit {0})) Unread) → IsListing tokens → (k ≡ kind.End → ⊥) → i < length tokens.list → (IsTrue told → HasKind (terminals_of tokens) i k)
    → (IsFalse told → HasKind (terminals_of tokens) i k → ⊥) → IsToken told i result → ReadsTokens (Token k) Anywhere (terminals_of tokens) i result
token_answer tokens i k told (Ok found) listing other inside holds fails h room =
    subst (IsReading (Token k) Anywhere (terminals_of tokens) i room tt) (omega (arith, h.1)) (token_read tokens i room k listing other (holds h.0))
token_answer tokens i k told (Err u) listing other inside holds fails h room =
    record { at = i; is = h.1; stuck = token_stuck (terminals_of tokens) i room k (omega (arith, inside, length_terminals tokens)) (fails h.0) }

pub soft_answer : (tokens : Tokens) (i : ℕ) (name : List ℕ) (told : Bool) (result : Result (Found (Unit {0})) Unread) → IsListing tokens → i < length tokens.list → (IsTrue told → IsName (terminals_of tokens) i name)
    → (IsFalse told → IsName (terminals_of tokens) i name → ⊥) → IsToken told i result → ReadsTokens (Soft name) Anywhere (terminals_of tokens) i result
soft_answer tokens i name told (Ok found) listing inside holds fails h room =
    subst (IsReading (Soft name) Anywhere (terminals_of tokens) i room tt) (omega (arith, h.1)) (soft_read tokens i room name listing (holds h.0))
soft_answer tokens i name told (Err u) listing inside holds fails h room =
    record { at = i; is = h.1; stuck = soft_stuck (terminals_of tokens) i room name (omega (arith, inside, length_terminals tokens)) (fails h.0) }

pub name_refused : (tokens : Tokens) (i room : ℕ) (u : Unread) → i < length tokens.list → IsNamed (terminals_of tokens) i (Err u) → IsUnread Name Anywhere (terminals_of tokens) i room u
name_refused tokens i room (unread.Stuck k) inside h = unread_at (unread.Stuck k) h.0 (name_stuck (terminals_of tokens) i room (omega (arith, inside, length_terminals tokens)) h.1)
name_refused tokens i room (unread.TooDeep k) inside h = absurd h
name_refused tokens i room unread.NoMemory inside h = tt
