-- The steps to what stands behind a token, a place or an index.
use Rattle.std.proofs.Common.{ℕ, suc, List, refl, subst, arith}
use Rattle.px_lexer.specs.declared.token_list.TokenKind.{TokenKind}
use Rattle.px_lexer.specs.Terminals.{Terminal, HasKind}
use Rattle.px_exprs.specs.Readings.{Stops}
use Rattle.px_exprs.proofs.Agreement.{agree_same}
use Rattle.px_parser.specs.Shapes.{Shape, Here, Placed, Seq, After}
use Rattle.px_parser.specs.Readings.{Anywhere}
use Rattle.px_parser.proofs.Shapely.{Solid, IsRising, good_token, rises_seq, stands_there}
use Rattle.px_parser.proofs.Onlies.{leads_anywhere, only_token}
use Rattle.px_parser.proofs.Steps.{Step, step_second, step_of, step_twice}

-- the same form with the place of its first token
pub step_placed : {A : Type 0} {X : Shape A} (S : Stops) (ts : List Terminal) (i room : ℕ) → Solid X → IsRising X → Step X S (Placed X) S ts i i room
step_placed {X = X} S ts i room solid rising = record {
  forward = omega arith;
  rising = rising;
  make = λ mode us n e agree long least le opens x.
      let first = stands_there us i (solid.grows x) in
      record {
        tokens = us;
        same = agree_same us;
        long = omega arith;
        tree = (first.0.at, e);
        derived = record { middle = i; first = record { placed = record { token = first.0; stands = first.1; placed = refl }; end = refl }; second = x };
      };
  split = λ mode us n f j agree sees y stop.
      let moved : X mode us i f.1 n j = subst (λ k. X mode us k f.1 n j) y.first.end y.second in
      record { tree = f.1; end = j; derived = moved; stops = stop };
}

-- the same form with the index of its first token
pub step_here : {A : Type 0} {X : Shape A} (S : Stops) (ts : List Terminal) (i room : ℕ) → IsRising X → Step X S (Seq Here X) S ts i i room
step_here {X = X} S ts i room rising = record {
  forward = omega arith;
  rising = rising;
  make = λ mode us n e agree long least le opens x. record {
    tokens = us;
    same = agree_same us;
    long = omega arith;
    tree = (i, e);
    derived = record { middle = i; first = record { counted = refl; end = refl }; second = x };
  };
  split = λ mode us n f j agree sees y stop.
      let moved : X mode us i f.1 n j = subst (λ k. X mode us k f.1 n j) y.first.end y.second in
      record { tree = f.1; end = j; derived = moved; stops = stop };
}

-- what stands behind a token
pub step_after : {A : Type 0} {X : Shape A} (k : TokenKind) (S : Stops) (ts : List Terminal) (i room : ℕ) → IsRising X → HasKind ts i k → Step X S (After k X) S ts i (suc i) room
step_after {X = X} k S ts i room rising stands =
    let token = good_token k in
    step_twice (step_second {Y = λ _. X} {M = Anywhere} {R = S} ts i (suc i) room tt token.sound token.rises (only_token k Anywhere) (λ _. leads_anywhere X S) rising (record { stands = stands; end = refl }) tt)
    (step_of (λ p. p.1) S ts i room (λ mode other n m le more. rises_seq (token.rises mode other n m le more) (rising mode other n m le more)))
