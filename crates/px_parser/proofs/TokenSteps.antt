-- Steps to the parts of a form with single tokens before or behind it, or with its place.
use Rattle.std.proofs.Common.{◌≡◌, ℕ, suc, ◌+◌, ◌<◌, List, length, refl, arith}
use Rattle.px_base.specs.declared.refusals.Span.{Span}
use Rattle.px_lexer.specs.declared.token_list.Tokens.{Tokens}
use Rattle.px_lexer.specs.declared.token_list.TokenKind.{TokenKind}
use Rattle.px_lexer.specs.declared.token_list.TokenKind.TheVariants as kind
use Rattle.px_lexer.specs.Terminals.{Terminal, HasKind, IsAt, terminals_of}
use Rattle.px_exprs.specs.Readings.{Stops}
use Rattle.px_exprs.specs.Runs.{nesting_limit}
use Rattle.px_lexer.proofs.TokenAccess.{length_terminals}
use Rattle.px_parser.specs.Listings.{IsListing}
use Rattle.px_parser.specs.Shapes.{Mode, Shape, Token, Here, Placed, Seq, After, Before}
use Rattle.px_parser.specs.Parsing.{strict}
use Rattle.px_parser.specs.Readings.{IsReading, Anywhere}
use Rattle.px_parser.proofs.Shapely.{Good, good_token, good_here, good_seq, sound_token, fresh_token}
use Rattle.px_parser.proofs.Onlies.{Only, leads_anywhere, leads_token, only_token, only_here}
use Rattle.px_parser.proofs.Steps.{Step, step_first, step_second, step_of, step_twice}

-- Derivations

pub after_by : {A : Type 0} {X : Shape A} {k : TokenKind} {mode : Mode} {ts : List Terminal} {i n j : ℕ} {t : A} → HasKind ts i k → X mode ts (suc i) t n j → After k X mode ts i t n j
after_by {i = i} {t = t} stands x = record { inner = (tt, t); read = record { middle = suc i; first = record { stands = stands; end = refl }; second = x }; tree = refl }

pub before_by : {A : Type 0} {X : Shape A} {k : TokenKind} {mode : Mode} {ts : List Terminal} {i n j : ℕ} {t : A} → X mode ts i t n j → HasKind ts j k → Before X k mode ts i t n (suc j)
before_by {j = j} {t = t} x stands = record { inner = (t, tt); read = record { middle = j; first = x; second = record { stands = stands; end = refl } }; tree = refl }

pub placed_by : {A : Type 0} {X : Shape A} {mode : Mode} {ts : List Terminal} {i n j : ℕ} {at : Span} {t : A} → IsAt ts i at → X mode ts i t n j → Placed X mode ts i (at, t) n j
placed_by {i = i} placed x = record { middle = i; first = record { placed = placed; end = refl }; second = x }

pub here_by : {A : Type 0} {X : Shape A} {mode : Mode} {ts : List Terminal} {i n j : ℕ} {t : A} → X mode ts i t n j → Seq Here X mode ts i (i, t) n j
here_by {i = i} x = record { middle = i; first = record { counted = refl; end = refl }; second = x }

pub counted_by : {k : TokenKind} {mode : Mode} {ts : List Terminal} {i n : ℕ} → HasKind ts i k → Before Here k mode ts i i n (suc i)
counted_by {i = i} stands = before_by (record { counted = refl; end = refl }) stands

-- the same, where the token was read

pub after_read : {A : Type 0} {X : Shape A} {k : TokenKind} {mode : Mode} {ts : List Terminal} {i l n j : ℕ} {t : A} → Token k mode ts i tt n l → X mode ts l t n j → After k X mode ts i t n j
after_read {l = l} {t = t} token x = record { inner = (tt, t); read = record { middle = l; first = token; second = x }; tree = refl }

pub before_read : {A : Type 0} {X : Shape A} {k : TokenKind} {mode : Mode} {ts : List Terminal} {i l n j : ℕ} {t : A} → X mode ts i t n l → Token k mode ts l tt n j → Before X k mode ts i t n j
before_read {l = l} {t = t} x token = record { inner = (t, tt); read = record { middle = l; first = x; second = token }; tree = refl }

pub counted_read : {k : TokenKind} {mode : Mode} {ts : List Terminal} {i n j : ℕ} → Token k mode ts i tt n j → Before Here k mode ts i i n j
counted_read token = before_read (record { counted = refl; end = refl }) token

-- Steps

-- the token, and the form behind it

pub step_token : {A : Type 0} {X : Shape A} (k : TokenKind) (S : Stops) (ts : List Terminal) (i room : ℕ) → Good X → Step (Token k) Anywhere (After k X) S ts i i room
step_token {X = X} k S ts i room good =
    step_twice (step_first ts i room (sound_token k) (good_token k).rises (λ a. good.fresh) (λ a. leads_anywhere X S)) (step_of (λ p. p.1) S ts i room (good_seq (good_token k) good).rises)

pub step_after : {A : Type 0} {X : Shape A} {k : TokenKind} (S : Stops) (ts : List Terminal) (i room : ℕ) → Good X → HasKind ts i k → Step X S (After k X) S ts i (suc i) room
step_after {X = X} {k} S ts i room good stands =
    step_twice (step_second ts i (suc i) room tt (sound_token k) (good_token k).rises (only_token k Anywhere) (λ b. leads_anywhere X S) good.rises (record { stands = stands; end = refl }) tt) (step_of (λ p. p.1) S ts i room (good_seq (good_token k) good).rises)

-- the same, where the token was read
pub step_behind : {A : Type 0} {X : Shape A} {k : TokenKind} (S : Stops) (ts : List Terminal) (i l room : ℕ) → Good X → Token k (strict nesting_limit) ts i tt room l → Step X S (After k X) S ts i l room
step_behind {X = X} {k} S ts i l room good token =
    step_twice (step_second ts i l room tt (sound_token k) (good_token k).rises (only_token k Anywhere) (λ b. leads_anywhere X S) good.rises token tt) (step_of (λ p. p.1) S ts i room (good_seq (good_token k) good).rises)

-- the form, and the token behind it

pub step_before : {A : Type 0} {X : Shape A} {M : Stops} (k : TokenKind) (S : Stops) (ts : List Terminal) (i room : ℕ) → Good X → ((us : List Terminal) (j : ℕ) → HasKind us j k → M us j) → Step X M (Before X k) S ts i i room
step_before {X = X} {M = M} k S ts i room good ends =
    step_twice (step_first ts i room good.sound good.rises (λ a. fresh_token k) (λ a. leads_token k S M ends)) (step_of (λ p. p.0) S ts i room (good_seq good (good_token k)).rises)

pub step_token_behind : {A : Type 0} {X : Shape A} {M : Stops} (k : TokenKind) (S : Stops) (ts : List Terminal) (i l room : ℕ) (t : A) → Good X → Only X M → ((us : List Terminal) (j : ℕ) → HasKind us j k → M us j) → X (strict nesting_limit) ts i t room l
    → M ts l → Step (Token k) S (Before X k) S ts i l room
step_token_behind {X = X} {M = M} k S ts i l room t good only ends x stop =
    step_twice (step_second ts i l room t good.sound good.rises only (λ b. leads_token k S M ends) (good_token k).rises x stop) (step_of (λ p. p.0) S ts i room (good_seq good (good_token k)).rises)

-- the token, with its index
pub step_counted : (k : TokenKind) (S : Stops) (ts : List Terminal) (i room : ℕ) → Step (Token k) S (Before Here k) S ts i i room
step_counted k S ts i room = step_token_behind k S ts i i room i good_here (only_here Anywhere) (λ us j h. tt) (record { counted = refl; end = refl }) tt

-- Inside the list

-- the token behind one that is read
pub reading_inside : {A : Type 0} {X : Shape A} {S : Stops} (tokens : Tokens) {i room j : ℕ} {t : A} → IsReading X S (terminals_of tokens) i room t j → j < length tokens.list
reading_inside tokens reading = omega (arith, reading.within, length_terminals tokens)

pub next_inside : (tokens : Tokens) (i : ℕ) (k : TokenKind) → IsListing tokens → HasKind (terminals_of tokens) i k → (k ≡ kind.End → ⊥) → i + 1 < length tokens.list
next_inside tokens i k listing stands other = omega (arith, listing.goes_on i k stands other)
