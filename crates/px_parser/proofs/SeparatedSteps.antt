-- How a list is read whose elements have a separator between them.
use Rattle.std.proofs.Common.{◌≡◌, ℕ, suc, ◌<◌, List, [], ◌∷◌, ◌++◌, inr, length, ap, ◌∙◌, arith}
use Rattle.px_lexer.specs.declared.token_list.TokenKind.{TokenKind}
use Rattle.px_lexer.specs.Terminals.{Terminal, HasKind}
use Rattle.px_exprs.specs.Readings.{Stops, Agree}
use Rattle.px_exprs.specs.Runs.{nesting_limit}
use Rattle.px_exprs.proofs.Agreement.{agree_back}
use Rattle.px_exprs.proofs.Keeping.{kind_carried}
use Rattle.px_parser.specs.Shapes.{Shape, Token, Many, After, Separated}
use Rattle.px_parser.specs.Parsing.{strict}
use Rattle.px_parser.specs.Readings.{IsReading, IsStuck, Anywhere}
use Rattle.px_parser.specs.Ends.{IsBefore}
use Rattle.px_parser.proofs.Shapely.{Good, good_seq, good_many, good_after}
use Rattle.px_parser.proofs.Onlies.{Leads, Clash, Only, leads_many, leads_after, only_after}
use Rattle.px_parser.proofs.Steps.{Step, Local, step_many, step_twice, many_more, stuck_here}
use Rattle.px_parser.proofs.ReadingSteps.{step_front, step_back, step_made, step_after, read_after, stuck_of}

-- the elements from an index on, as far as they were read
pub record IsSeparated {A : Type 0} (k : TokenKind) (X : Shape A) (M : Stops) (ts : List Terminal) (i : ℕ) (xs : List A) (l : ℕ) : Type 0 where
  pub head : A
  pub others : List A
  pub middle : ℕ
  pub tree : xs ≡ head ∷ others
  pub first : (room : ℕ) → IsReading X M ts i room head middle
  pub rest : (room : ℕ) → Many (After k X) (strict nesting_limit) ts middle others room l
  pub stops : M ts l
  pub within : l < length ts

pub separated_one : {A : Type 0} {X : Shape A} {M : Stops} {ts : List Terminal} {i l : ℕ} {xs ys : List A} {x : A} (k : TokenKind) → xs ≡ [] → ys ≡ xs ++ x ∷ [] → ((room : ℕ) → IsReading X M ts i room x l) → IsSeparated k X M ts i ys l
separated_one {l = l} {x = x} k none e reading = record {
  head = x;
  others = [];
  middle = l;
  tree = e ∙ ap (λ zs. zs ++ x ∷ []) none;
  first = reading;
  rest = λ room. Many.none;
  stops = (reading 0).stops;
  within = (reading 0).within;
}

pub separated_more : {A : Type 0} {X : Shape A} {M : Stops} {ts : List Terminal} {i l m j : ℕ} {xs ys : List A} {x : A} (k : TokenKind) → IsSeparated k X M ts i xs l → ys ≡ xs ++ x ∷ [] → ((room : ℕ) → IsReading (Token k) Anywhere ts l room tt m)
    → ((room : ℕ) → IsReading X M ts m room x j) → IsSeparated k X M ts i ys j
separated_more {x = x} k before e token reading = record {
  head = before.head;
  others = before.others ++ x ∷ [];
  middle = before.middle;
  tree = e ∙ ap (λ zs. zs ++ x ∷ []) before.tree;
  first = before.first;
  rest = λ room. many_more (before.rest room) (read_after k (token room) (reading room)).derived;
  stops = (reading 0).stops;
  within = (reading 0).within;
}

pub separated_read : {A : Type 0} {X : Shape A} {M S : Stops} {ts : List Terminal} {i l room : ℕ} {xs : List A} (k : TokenKind) → IsSeparated k X M ts i xs l → S ts l → IsReading (Separated k X) S ts i room xs l
separated_read {room = room} k before stop = record {
  derived = record { inner = (before.head, before.others); read = record { middle = before.middle; first = (before.first room).derived; second = before.rest room }; tree = before.tree };
  stops = stop;
  within = before.within;
}

-- Steps

leads_others : {A : Type 0} (X : Shape A) {M S : Stops} (k : TokenKind) → ((us : List Terminal) (p : ℕ) → HasKind us p k → M us p) → ((us : List Terminal) (p : ℕ) → S us p → M us p) → Leads (Many (After k X)) S M
leads_others X {M = M} k sep ends = leads_many (leads_after X k Anywhere M sep) ends

good_others : {A : Type 0} {X : Shape A} (k : TokenKind) → Good X → Good (Many (After k X))
good_others k x = good_many (good_after k x)

pub step_separated_first : {A : Type 0} {X : Shape A} {M S : Stops} {ts : List Terminal} {i room : ℕ} (k : TokenKind) → Good X → ((us : List Terminal) (p : ℕ) → HasKind us p k → M us p) → ((us : List Terminal) (p : ℕ) → S us p → M us p)
    → Step X M (Separated k X) S ts i i room
step_separated_first {X = X} k x sep ends = step_twice (step_front x (good_others k x) (leads_others X k sep ends)) (step_made _ (good_seq x (good_others k x)))

-- a separator and one more element, where the list doesn't end
pub step_separated_next : {A : Type 0} {X : Shape A} {M S : Stops} {ts : List Terminal} {i l room : ℕ} {xs : List A} (k : TokenKind) → Good X → Only X M → ((us : List Terminal) (p : ℕ) → HasKind us p k → M us p)
    → ((us : List Terminal) (p : ℕ) → S us p → M us p) → Clash (IsBefore k) S → IsSeparated k X M ts i xs l → ((us : List Terminal) → Agree (suc l) us ts → S us l → ⊥) → Step (After k X) M (Separated k X) S ts i l room
step_separated_next {X = X} {S = S} {ts = ts} {l = l} {room = room} k x only sep ends apart before goes_on =
    let after = good_after k x in
    let begin : Leads (After k X) Anywhere (IsBefore k) = leads_after X k Anywhere (IsBefore k) (λ us p h. h) in
    let near = step_many {S = S} ts before.middle l room before.others after.sound after.rises (only_after k x.sound only) begin apart sep ends (before.rest room) (inr before.stops) goes_on in
    step_twice near (step_twice (step_back x (good_others k x) only (leads_others X k sep ends) (before.first room)) (step_made _ (good_seq x (good_others k x))))

-- one more element behind the separator
pub step_separated : {A : Type 0} {X : Shape A} {M S : Stops} {ts : List Terminal} {i l m room : ℕ} {xs : List A} (k : TokenKind) → Good X → Only X M → ((us : List Terminal) (p : ℕ) → HasKind us p k → M us p)
    → ((us : List Terminal) (p : ℕ) → S us p → M us p) → Clash (IsBefore k) S → IsSeparated k X M ts i xs l → IsReading (Token k) Anywhere ts l room tt m → Step X M (Separated k X) S ts i m room
step_separated {S = S} {ts = ts} {l = l} k x only sep ends apart before token =
    step_twice (step_after k x token) (step_separated_next {S = S} k x only sep ends apart before (λ us agree s. apart ts us l agree token.derived.stands s))

-- neither a separator nor the end of the list
pub separated_stuck : {A : Type 0} {X : Shape A} {M S : Stops} {ts : List Terminal} {i l room : ℕ} {xs : List A} (k : TokenKind) → Good X → Only X M → ((us : List Terminal) (p : ℕ) → HasKind us p k → M us p)
    → ((us : List Terminal) (p : ℕ) → S us p → M us p) → Clash (IsBefore k) S → Local S → IsSeparated k X M ts i xs l → (HasKind ts l k → ⊥) → (S ts l → ⊥) → IsStuck (Separated k X) S ts i room l
separated_stuck {X = X} {S = S} {ts = ts} {l = l} {room = room} k x only sep ends apart local before none missing =
    stuck_of (step_separated_next {S = S} k x only sep ends apart before (λ us agree s. missing (local ts us l agree s)))
    (stuck_here ts l room (good_after k x).fresh before.within (λ us agree mode t n j y s. none (kind_carried (suc l) (agree_back us ts agree) y.read.first.stands (omega arith))))
