-- Forms that are read one behind the other: what was read is a part of the whole, and so is what comes next.
use Rattle.std.proofs.Common.{◌≡◌, ℕ, suc, ◌<◌, List, length, refl, subst, arith}
use Rattle.px_base.specs.declared.refusals.Span.{Span}
use Rattle.px_lexer.specs.declared.token_list.TokenKind.{TokenKind}
use Rattle.px_lexer.specs.declared.token_list.TokenKind.TheVariants as kind
use Rattle.px_lexer.specs.declared.token_list.Tokens.{Tokens}
use Rattle.px_exprs.specs.declared.readings.Unread.TheVariants as unread
use Rattle.px_lexer.specs.Terminals.{Terminal, HasKind, IsName, IsAt, terminals_of}
use Rattle.px_exprs.specs.Readings.{Stops}
use Rattle.px_exprs.specs.Runs.{nesting_limit}
use Rattle.px_exprs.proofs.Agreement.{agree_same, agree_back}
use Rattle.px_exprs.proofs.Keeping.{kind_carried}
use Rattle.px_lexer.proofs.TokenAccess.{length_terminals, name_kind}
use Rattle.px_parser.specs.Shapes.{Shape, Token, Soft, Here, Placed, Gives, Seq, Either, Of, After, Before, Or}
use Rattle.px_parser.specs.Parsing.{strict}
use Rattle.px_parser.specs.Readings.{IsReading, IsStuck, Anywhere}
use Rattle.px_parser.specs.Listings.{IsListing}
use Rattle.px_parser.specs.Ends.{IsBefore}
use Rattle.px_parser.proofs.Shapely.{Solid, Good, good_token, good_seq, good_here, stands_there}
use Rattle.px_parser.proofs.Onlies.{Leads, Clash, Only, leads_anywhere, leads_token, only_token, only_here}
use Rattle.px_parser.proofs.Steps.{Step, Never, Local, fails, step_first, step_second, step_of, step_left, step_twice, step_narrower, stuck_behind}
use Rattle.px_parser.proofs.KindLaws.{IsNot}

-- What was read

pub read_both : {A B : Type 0} {X : Shape A} {Y : Shape B} {M R : Stops} {ts : List Terminal} {i l j room : ℕ} {a : A} {b : B} → IsReading X M ts i room a l → IsReading Y R ts l room b j → IsReading (Seq X Y) R ts i room (a, b) j
read_both {l = l} x y = record { derived = record { middle = l; first = x.derived; second = y.derived }; stops = y.stops; within = y.within }

pub read_of : {A B : Type 0} {X : Shape A} {S : Stops} {ts : List Terminal} {i j room : ℕ} {a : A} (f : A → B) → IsReading X S ts i room a j → IsReading (Of f X) S ts i room (f a) j
read_of {a = a} f x = record { derived = record { inner = a; read = x.derived; tree = refl }; stops = x.stops; within = x.within }

pub read_left : {A : Type 0} {X : Shape A} {S : Stops} {ts : List Terminal} {i j room : ℕ} {a : A} (Y : Shape A) → IsReading X S ts i room a j → IsReading (Either X Y) S ts i room a j
read_left Y x = record { derived = Either.left x.derived; stops = x.stops; within = x.within }

pub read_right : {A : Type 0} {Y : Shape A} {S : Stops} {ts : List Terminal} {i j room : ℕ} {a : A} (X : Shape A) → IsReading Y S ts i room a j → IsReading (Either X Y) S ts i room a j
read_right X y = record { derived = Either.right y.derived; stops = y.stops; within = y.within }

pub read_after : {A : Type 0} {X : Shape A} {S : Stops} {ts : List Terminal} {i l j room : ℕ} {t : Unit {0}} {a : A} (k : TokenKind) → IsReading (Token k) Anywhere ts i room t l → IsReading X S ts l room a j
    → IsReading (After k X) S ts i room a j
read_after k token x = read_of _ (read_both token x)

pub read_before : {A : Type 0} {X : Shape A} {M S : Stops} {ts : List Terminal} {i l j room : ℕ} {t : Unit {0}} {a : A} (k : TokenKind) → IsReading X M ts i room a l → IsReading (Token k) S ts l room t j
    → IsReading (Before X k) S ts i room a j
read_before k x token = read_of _ (read_both x token)

pub read_placed : {A : Type 0} {X : Shape A} {S : Stops} {ts : List Terminal} {i j room : ℕ} {at : Span} {a : A} → IsAt ts i at → IsReading X S ts i room a j → IsReading (Placed X) S ts i room (at, a) j
read_placed {i = i} at x = record { derived = record { middle = i; first = record { placed = at; end = refl }; second = x.derived }; stops = x.stops; within = x.within }

pub read_here : {A : Type 0} {X : Shape A} {S : Stops} {ts : List Terminal} {i j room : ℕ} {a : A} → IsReading X S ts i room a j → IsReading (Seq Here X) S ts i room (i, a) j
read_here {i = i} x = record { derived = record { middle = i; first = record { counted = refl; end = refl }; second = x.derived }; stops = x.stops; within = x.within }

-- the index of a token that ends a form
pub read_end : {S : Stops} {ts : List Terminal} {i j room : ℕ} {t : Unit {0}} (k : TokenKind) → IsReading (Token k) S ts i room t j → IsReading (Before Here k) S ts i room i j
read_end k token = read_of _ (read_here token)

pub read_absent : {A : Type 0} {S : Stops} {ts : List Terminal} {i room : ℕ} (X : Shape A) (absent : A) → S ts i → i < length ts → IsReading (Or absent X) S ts i room absent i
read_absent X absent stop inside = record { derived = Either.right (record { tree = refl; end = refl }); stops = stop; within = inside }

-- it may end there by another law too
pub read_ends : {A : Type 0} {X : Shape A} {S R : Stops} {ts : List Terminal} {i j room : ℕ} {a : A} → IsReading X S ts i room a j → R ts j → IsReading X R ts i room a j
read_ends x stop = record { derived = x.derived; stops = stop; within = x.within }

-- Single tokens

pub inside_terminals : (tokens : Tokens) (i : ℕ) → i < length tokens.list → i < length (terminals_of tokens)
inside_terminals tokens i lt = omega (arith, lt, length_terminals tokens)

pub inside_tokens : (tokens : Tokens) (i : ℕ) → i < length (terminals_of tokens) → i < length tokens.list
inside_tokens tokens i lt = omega (arith, lt, length_terminals tokens)

pub kind_goes_on : (tokens : Tokens) (i j : ℕ) {k : TokenKind} → IsListing tokens → HasKind (terminals_of tokens) i k → (k ≡ kind.End → ⊥) → j ≡ suc i → j < length tokens.list
kind_goes_on tokens i j listing h other e = omega (arith, listing.goes_on i _ h other, e)

pub name_goes_on : (tokens : Tokens) (i j : ℕ) {name : List ℕ} → IsListing tokens → IsName (terminals_of tokens) i name → j ≡ suc i → j < length tokens.list
name_goes_on tokens i j listing h e = kind_goes_on tokens i j listing (name_kind h) (λ f. cc) e

pub kind_read : (tokens : Tokens) (i j room : ℕ) {k : TokenKind} → IsListing tokens → HasKind (terminals_of tokens) i k → (k ≡ kind.End → ⊥) → j ≡ suc i → IsReading (Token k) Anywhere (terminals_of tokens) i room tt j
kind_read tokens i j room listing h other e = record { derived = record { stands = h; end = e }; stops = tt; within = inside_terminals tokens j (kind_goes_on tokens i j listing h other e) }

pub spelled_read : (tokens : Tokens) (i j room : ℕ) {name : List ℕ} → IsListing tokens → IsName (terminals_of tokens) i name → j ≡ suc i → IsReading (Soft name) Anywhere (terminals_of tokens) i room tt j
spelled_read tokens i j room listing h e = record { derived = record { stands = h; end = e }; stops = tt; within = inside_terminals tokens j (name_goes_on tokens i j listing h e) }

-- Steps

pub step_front : {A B : Type 0} {X : Shape A} {Y : Shape B} {M R : Stops} {ts : List Terminal} {i room : ℕ} → Good X → Good Y → Leads Y R M → Step X M (Seq X Y) R ts i i room
step_front {ts = ts} {i = i} {room = room} x y leads = step_first ts i room x.sound x.rises (λ b. y.fresh) (λ b. leads)

pub step_back : {A B : Type 0} {X : Shape A} {Y : Shape B} {M R : Stops} {ts : List Terminal} {i l room : ℕ} {a : A} → Good X → Good Y → Only X M → Leads Y R M → IsReading X M ts i room a l → Step Y R (Seq X Y) R ts i l room
step_back {ts = ts} {i = i} {l = l} {room = room} {a = a} x y only leads reading = step_second ts i l room a x.sound x.rises only (λ b. leads) y.rises reading.derived reading.stops

pub step_made : {A B : Type 0} {X : Shape A} {S : Stops} {ts : List Terminal} {i room : ℕ} (f : A → B) → Good X → Step X S (Of f X) S ts i i room
step_made {S = S} {ts = ts} {i = i} {room = room} f x = step_of f S ts i room x.rises

pub step_word : {A : Type 0} {X : Shape A} {S : Stops} {ts : List Terminal} {i room : ℕ} (k : TokenKind) → Good X → Step (Token k) Anywhere (After k X) S ts i i room
step_word {X = X} {S = S} k x = step_twice (step_front (good_token k) x (leads_anywhere X S)) (step_made _ (good_seq (good_token k) x))

pub step_after : {A : Type 0} {X : Shape A} {S : Stops} {ts : List Terminal} {i l room : ℕ} {t : Unit {0}} (k : TokenKind) → Good X → IsReading (Token k) Anywhere ts i room t l → Step X S (After k X) S ts i l room
step_after {X = X} {S = S} k x token = step_twice (step_back (good_token k) x (only_token k Anywhere) (leads_anywhere X S) token) (step_made _ (good_seq (good_token k) x))

pub step_before : {A : Type 0} {X : Shape A} {M S : Stops} {ts : List Terminal} {i room : ℕ} (k : TokenKind) → Good X → ((us : List Terminal) (p : ℕ) → HasKind us p k → M us p) → Step X M (Before X k) S ts i i room
step_before {M = M} {S = S} k x ends = step_twice (step_front x (good_token k) (leads_token k S M ends)) (step_made _ (good_seq x (good_token k)))

pub step_end : {A : Type 0} {X : Shape A} {M S : Stops} {ts : List Terminal} {i l room : ℕ} {a : A} (k : TokenKind) → Good X → Only X M → ((us : List Terminal) (p : ℕ) → HasKind us p k → M us p) → IsReading X M ts i room a l
    → Step (Token k) S (Before X k) S ts i l room
step_end {M = M} {S = S} k x only ends reading = step_twice (step_back x (good_token k) only (leads_token k S M ends) reading) (step_made _ (good_seq x (good_token k)))

pub step_number : {A : Type 0} {X : Shape A} {S : Stops} {ts : List Terminal} {i room : ℕ} → Good X → Step X S (Seq Here X) S ts i i room
step_number {X = X} {S = S} {ts = ts} {i = i} {room = room} x =
    let here : Here (strict nesting_limit) ts i i room i = record { counted = refl; end = refl } in
    step_second ts i i room i good_here.sound good_here.rises (only_here Anywhere) (λ b. leads_anywhere X S) x.rises here tt

-- the index of a token that ends a form
pub step_numbered_end : {S : Stops} {ts : List Terminal} {i room : ℕ} (k : TokenKind) → Step (Token k) S (Before Here k) S ts i i room
step_numbered_end k = step_twice (step_number (good_token k)) (step_made _ (good_seq good_here (good_token k)))

pub step_placed : {A : Type 0} {X : Shape A} {S : Stops} {ts : List Terminal} {i room : ℕ} → Good X → Solid X → Step X S (Placed X) S ts i i room
step_placed {X = X} {i = i} good solid = record {
  forward = omega arith;
  rising = good.rises;
  make = λ mode us n e agree long least le opens x.
      let first = stands_there us i (solid.grows x) in
      record {
        tokens = us;
        same = agree_same us;
        long = omega arith;
        tree = (first.0.at, e);
        derived = record { middle = i; first = record { placed = record { token = first.0; stands = first.1; placed = refl }; end = refl }; second = x };
      };
  split = λ mode us n f j agree sees y stop. record { tree = f.1; end = j; derived = subst (λ k. X mode us k f.1 n j) y.first.end y.second; stops = stop };
}

-- a form that isn't left out
pub never_left_out : {A : Type 0} {S T : Stops} (absent : A) (ts : List Terminal) (i : ℕ) → Clash T S → T ts i → Never (Gives absent) S ts i
never_left_out {S = S} absent ts i clash h us agree mode t n j x s = clash ts us i agree h (subst (S us) x.end s)

pub step_or : {A : Type 0} {X : Shape A} {S T : Stops} {ts : List Terminal} {i room : ℕ} (absent : A) → Good X → Clash T S → T ts i → Step X S (Or absent X) S ts i i room
step_or {ts = ts} {i = i} {room = room} absent x clash h = step_left ts i room x.rises (never_left_out absent ts i clash h)

-- the same form, that may end in fewer places
pub step_ends : {A : Type 0} {X : Shape A} {S R : Stops} {ts : List Terminal} {i room : ℕ} → Good X → ((us : List Terminal) (k : ℕ) → R us k → S us k) → Step X S X R ts i i room
step_ends {ts = ts} {i = i} {room = room} x narrower = step_narrower ts i room x.rises narrower

pub step_anywhere : {A : Type 0} {X : Shape A} {R : Stops} {ts : List Terminal} {i room : ℕ} → Good X → Step X Anywhere X R ts i i room
step_anywhere x = step_ends x (λ us k r. tt)

-- Refusals

pub ended_stuck : {A : Type 0} {X : Shape A} {S R : Stops} {ts : List Terminal} {i l room : ℕ} {t : A} → Good X → Only X S → ((us : List Terminal) (k : ℕ) → R us k → S us k) → Local R → IsReading X S ts i room t l → (R ts l → ⊥)
    → IsStuck X R ts i room l
ended_stuck {ts = ts} {i = i} {l = l} {room = room} {t = t} x only narrower local reading missing = stuck_behind ts i l room t x.sound x.rises only narrower local reading.derived reading.stops missing reading.within

pub local_kind : (k : TokenKind) → Local (IsBefore k)
local_kind k ts us i agree h = kind_carried (suc i) (agree_back us ts agree) h (omega arith)

pub local_other : (k : TokenKind) → Local (IsNot k)
local_other k ts us i agree none h = none (kind_carried (suc i) agree h (omega arith))

-- a refusal at one token
pub stuck_of : {A B : Type 0} {X : Shape A} {S : Stops} {Y : Shape B} {R : Stops} {ts : List Terminal} {i l room k : ℕ} → Step X S Y R ts i l room → IsStuck X S ts l room k → IsStuck Y R ts i room k
stuck_of {k = k} step stuck = fails step (unread.Stuck k) stuck
