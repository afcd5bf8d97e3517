-- Forms that are an operand, alone or with a tail.
use Rattle.std.proofs.Common.{◌≡◌, ℕ, suc, max, ◌+◌, ◌≤◌, ◌<◌, length, take, List, sym, subst, arith}
use Rattle.std.proofs.lemmas.List.{length-take-le}
use Rattle.px_lexer.specs.declared.spelling.Keyword.TheVariants as word
use Rattle.px_lexer.specs.Terminals.{Terminal, IsKeyword}
use Rattle.px_exprs.specs.Readings.{Form, Stops, Agree, HasWay, IsReached, IsOver, IsReading}
use Rattle.px_exprs.proofs.Agreement.{agree_same, agree_front}
use Rattle.px_exprs.proofs.Only.{IsOnly}
use Rattle.px_exprs.proofs.Steps.{Step}

-- the two forms of a form that is an operand, alone or with a tail
pub data TailedCase {A B : Type 0} (X : Form A) (T : Form B) (deeper : ℕ) (us : List Terminal) (i : ℕ) (f : A) (c j : ℕ) : Type 0 where
  alone : X us i f c j → TailedCase X T deeper us i f c j
  tailed : (e : A) (a k : ℕ) (t : B) (b : ℕ) → X us i e a k → T us k t b j → c ≡ deeper + max a b → TailedCase X T deeper us i f c j

pub record IsTailed {A B : Type 0} (X : Form A) (S : Stops) (T : Form B) (Y : Form A) (R : Stops) (deeper : ℕ) : Type 0 where
  pub alone : {us : List Terminal} {i d j : ℕ} {e : A} → X us i e d j → Y us i e d j
  pub tailed : {us : List Terminal} {i a k b j : ℕ} {e : A} {t : B} → X us i e a k → T us k t b j → (f : A) × Y us i f (deeper + max a b) j
  pub cases : {us : List Terminal} {i c j : ℕ} {f : A} → Y us i f c j → TailedCase X T deeper us i f c j
  pub only : {us : List Terminal} {i d j : ℕ} {e : A} → X us i e d j → IsOnly (X us i) (S us) e d j
  pub carried : {ts us : List Terminal} (n : ℕ) {i d j : ℕ} {e : A} → Agree n us ts → X ts i e d j → (i < j) × (j ≤ n → X us i e d j)
  pub local : {ts us : List Terminal} {j : ℕ} → Agree (suc j) us ts → S ts j → S us j
  pub stops : {us : List Terminal} {j : ℕ} → R us j → S us j
  pub tail_stops : {us : List Terminal} {k b j : ℕ} {t : B} → T us k t b j → S us k

-- the operand is the first part
pub first_step : {A B : Type 0} {X : Form A} {S : Stops} {T : Form B} {Y : Form A} {R : Stops} {deeper : ℕ} → IsTailed X S T Y R deeper → (ts : List Terminal) (i room : ℕ) → Step X S Y R ts i i room room
first_step {X = X} {S = S} {R = R} {deeper = deeper} laws ts i room = record {
  forward = omega arith;
  make = λ us agree long e d x. (record { tokens = us; same = agree_same us; long = omega arith; tree = e; depth = d; derived = laws.alone x }, λ le. le);
  split = λ us agree f c j whole stop.
      elim (laws.cases whole) [
        | TailedCase.alone x ↦ (record { tree = f; depth = c; end = j; derived = x; stops = laws.stops stop }, λ lt. lt)
        | TailedCase.tailed e a k t b x tail deep ↦ (record { tree = e; depth = a; end = k; derived = x; stops = laws.tail_stops tail }, λ lt. omega (arith, lt, deep))
      ];
}

-- A form over tokens that go on with these has the same operand, and a tail behind it
record Tail {B : Type 0} (T : Form B) (deeper : ℕ) (us : List Terminal) (k a c j : ℕ) : Type 0 where
  pub tree : B
  pub depth : ℕ
  pub derived : T us k tree depth j
  pub deep : c ≡ deeper + max a depth

has_tail : {A B : Type 0} {X : Form A} {S : Stops} {T : Form B} {Y : Form A} {R : Stops} {deeper : ℕ} → IsTailed X S T Y R deeper → {us : List Terminal} {i a k : ℕ} {e : A} → X us i e a k → S us k → (R us k → ⊥)
    → (f : A) (c j : ℕ) → Y us i f c j → R us j → Tail T deeper us k a c j
has_tail {T = T} {R = R} {deeper = deeper} laws {us} {a = a} x s none f c j whole stop =
    elim (laws.cases whole) [
      | TailedCase.alone y ↦
          (let same = laws.only x s _ _ _ y (laws.stops stop) in
          absurd (none (subst (λ n. R us n) (sym same.end) stop)))
      | TailedCase.tailed e b m t d y tail deep ↦
          (let same = laws.only x s _ _ _ y (laws.tail_stops tail) in
          record { tree = t; depth = d; derived = subst (λ n. T us n t d j) (sym same.end) tail; deep = omega (arith, deep, same.depth) })
    ]

-- behind an operand at which the form can't end, the tail is a part
pub tail_step : {A B : Type 0} {X : Form A} {S : Stops} {T : Form B} {Y : Form A} {R : Stops} {deeper : ℕ} → IsTailed X S T Y R deeper → {ts : List Terminal} {i a k inner : ℕ} {e : A} → X ts i e a k → S ts k
    → a ≤ inner → ((us : List Terminal) → Agree (suc k) us ts → R us k → ⊥) → Step T R Y R ts i k inner (deeper + inner)
tail_step {deeper = deeper} laws {ts} {i} {a} {k} {inner} x s shallow none = record {
  forward = omega (arith, (laws.carried k (agree_same ts) x).0);
  make = λ us agree long t d tail.
      let whole = laws.tailed ((laws.carried k agree x).1 (omega arith)) tail in
      (record { tokens = us; same = agree_same us; long = omega arith; tree = whole.0; depth = deeper + max a d; derived = whole.1 }, λ le. omega (arith, shallow, le));
  split = λ us agree f c j whole stop.
      let tail = has_tail laws ((laws.carried (suc k) agree x).1 (omega arith)) (laws.local agree s) (none us agree) f c j whole stop in
      (record { tree = tail.tree; depth = tail.depth; end = j; derived = tail.derived; stops = stop }, λ lt. omega (arith, tail.deep, lt));
}

-- where a tail begins and there is no room for it, the form is nested too deep from there on
pub tail_over : {A B : Type 0} {X : Form A} {S : Stops} {T : Form B} {Y : Form A} {R : Stops} {deeper : ℕ} → IsTailed X S T Y R deeper → {ts : List Terminal} {i a k room : ℕ} {e : A} → X ts i e a k → S ts k
    → k < length ts → a ≤ room → room < deeper + a → ((us : List Terminal) → Agree (suc k) us ts → R us k → ⊥) → (IsKeyword ts k word.Sizeof → ⊥) → HasWay T ts k (suc k) → IsOver Y R ts i room k
tail_over {X = X} {Y = Y} {deeper = deeper} laws {ts} {i} {a} {k} {room} {e} x s within shallow deep none counted way =
    let cut : X (take k ts) i e a k = (laws.carried k (agree_front k ts) x).1 (omega arith) in
    let long : length (take k ts) ≡ k = length-take-le k ts (omega (arith, within)) in
    let whole = laws.tailed ((laws.carried (suc k) way.same x).1 (omega arith)) way.derived in
    record {
      forward = omega (arith, (laws.carried k (agree_same ts) x).0);
      within = within;
      counted = counted;
      reached = IsReached.reached (record {
        way = record {
          tokens = take k ts;
          same = agree_front k ts;
          long = omega (arith, long);
          tree = e;
          depth = a;
          derived = laws.alone (subst (λ n. X (take k ts) i e a n) (sym long) cut);
        };
        shallow = shallow;
      });
      way = record { tokens = way.tokens; same = way.same; long = way.long; tree = whole.0; depth = deeper + max a way.depth; derived = whole.1 };
      deep = λ us agree f c j derived stop.
          let tail = has_tail laws ((laws.carried (suc k) agree x).1 (omega arith)) (laws.local agree s) (none us agree) f c j derived stop in
          omega (arith, tail.deep, deep);
    }

pub read_alone : {A B : Type 0} {X : Form A} {S : Stops} {T : Form B} {Y : Form A} {R : Stops} {deeper : ℕ} → IsTailed X S T Y R deeper → {ts : List Terminal} {i room d k : ℕ} {e : A} → IsReading X S ts i room e d k → R ts k
    → IsReading Y R ts i room e d k
read_alone laws reading stop = record { derived = laws.alone reading.derived; shallow = reading.shallow; stops = stop; within = reading.within }
