-- How the reading of a part tells of the whole: where a part is refused, the whole is.
use Rattle.std.proofs.Common.{ℕ, suc, ◌≤◌, ◌<◌, length, List, arith}
use Rattle.px_exprs.specs.declared.readings.Unread.{Unread}
use Rattle.px_exprs.specs.declared.readings.Unread.TheVariants as unread
use Rattle.px_lexer.specs.Terminals.{Terminal}
use Rattle.px_exprs.proofs.Agreement.{agree_carried, agree_through}
use Rattle.px_exprs.specs.Readings.{Form, Stops, Agree, HasWay, HasShallow, IsReached, IsUnread}

-- tokens that go on with these and make the form, from an index to their end
pub record Made {B : Type 0} (Y : Form B) (us : List Terminal) (i : ℕ) : Type 0 where
  pub tokens : List Terminal
  pub same : Agree (length us) tokens us
  pub long : length us ≤ length tokens
  pub tree : B
  pub depth : ℕ
  pub derived : Y tokens i tree depth (length tokens)

-- a part of a form that ends where it may end
pub record Part {A : Type 0} (X : Form A) (S : Stops) (us : List Terminal) (l : ℕ) : Type 0 where
  pub tree : A
  pub depth : ℕ
  pub end : ℕ
  pub derived : X us l tree depth end
  pub stops : S us end

-- The form X from l on is a part of the form Y from i on, where the tokens before l are known: X can be completed to Y, and each Y
-- has an X there. With it the nesting of Y is within its bound just where that of X is.
pub record Step {A B : Type 0} (X : Form A) (S : Stops) (Y : Form B) (R : Stops) (ts : List Terminal) (i l inner outer : ℕ) : Type 0 where
  pub forward : i ≤ l
  pub make : (us : List Terminal) → Agree l us ts → l ≤ length us → (e : A) (d : ℕ) → X us l e d (length us) → (made : Made Y us i) × (d ≤ inner → made.depth ≤ outer)
  pub split : (us : List Terminal) → Agree (suc l) us ts → (f : B) (c j : ℕ) → Y us i f c j → R us j → (part : Part X S us l) × (inner < part.depth → outer < c)

pub way_made : {A B : Type 0} {X : Form A} {S : Stops} {Y : Form B} {R : Stops} {ts : List Terminal} {i l inner outer k : ℕ} → Step X S Y R ts i l inner outer → l ≤ k → HasWay X ts l k → HasWay Y ts i k
way_made step le way =
    let made = (step.make way.tokens (agree_carried _ _ way.same le) (omega (arith, le, way.long)) way.tree way.depth way.derived).0 in
    record {
      tokens = made.tokens;
      same = agree_through _ _ _ (agree_carried _ _ made.same way.long) way.same;
      long = omega (arith, made.long, way.long);
      tree = made.tree;
      depth = made.depth;
      derived = made.derived;
    }

pub shallow_made : {A B : Type 0} {X : Form A} {S : Stops} {Y : Form B} {R : Stops} {ts : List Terminal} {i l inner outer k : ℕ} → Step X S Y R ts i l inner outer → l ≤ k → HasShallow X ts l k inner
    → HasShallow Y ts i k outer
shallow_made step le h =
    let way = h.way in
    let making = step.make way.tokens (agree_carried _ _ way.same le) (omega (arith, le, way.long)) way.tree way.depth way.derived in
    let made = making.0 in
    record {
      way = record {
        tokens = made.tokens;
        same = agree_through _ _ _ (agree_carried _ _ made.same way.long) way.same;
        long = omega (arith, made.long, way.long);
        tree = made.tree;
        depth = made.depth;
        derived = made.derived;
      };
      shallow = making.1 h.shallow;
    }

pub reached_made : {A B : Type 0} {X : Form A} {S : Stops} {Y : Form B} {R : Stops} {ts : List Terminal} {i l inner outer k : ℕ} → Step X S Y R ts i l inner outer → l ≤ k → IsReached X ts l k inner
    → IsReached Y ts i k outer
reached_made step le (IsReached.reached way) = IsReached.reached (shallow_made step le way)
reached_made step le (IsReached.behind_sizeof m e from keyword before way) =
    IsReached.behind_sizeof m e (omega (arith, step.forward, from)) keyword (shallow_made step from before) (way_made step le way)

-- where a part isn't read, the whole isn't, for the same reason at the same token
pub fails : {A B : Type 0} {X : Form A} {S : Stops} {Y : Form B} {R : Stops} {ts : List Terminal} {i l inner outer : ℕ} → Step X S Y R ts i l inner outer → (u : Unread) → IsUnread X S ts l inner u
    → IsUnread Y R ts i outer u
fails step (unread.Stuck k) stuck = record {
  forward = omega (arith, step.forward, stuck.forward);
  within = stuck.within;
  reached = reached_made step stuck.forward stuck.reached;
  none = λ us agree tree depth j whole stop.
      let part = (step.split us (agree_carried _ _ agree (omega (arith, stuck.forward))) tree depth j whole stop).0 in
      stuck.none us agree part.tree part.depth part.end part.derived part.stops;
}
fails step (unread.TooDeep k) over = record {
  forward = omega (arith, step.forward, over.forward);
  within = over.within;
  counted = over.counted;
  reached = reached_made step over.forward over.reached;
  way = way_made step (omega (arith, over.forward)) over.way;
  deep = λ us agree tree depth j whole stop.
      let found = step.split us (agree_carried _ _ agree (omega (arith, over.forward))) tree depth j whole stop in
      let part = found.0 in
      found.1 (over.deep us agree part.tree part.depth part.end part.derived part.stops);
}
fails step unread.NoMemory h = tt

-- a part of a part is a part
pub step_twice : {A B C : Type 0} {X : Form A} {S : Stops} {Y : Form B} {R : Stops} {Z : Form C} {Q : Stops} {ts : List Terminal} {i m l inner middle outer : ℕ} → Step X S Y R ts m l inner middle
    → Step Y R Z Q ts i m middle outer → Step X S Z Q ts i l inner outer
step_twice near far = record {
  forward = omega (arith, near.forward, far.forward);
  make = λ us agree long e d part.
      let one = near.make us agree long e d part in
      let first = one.0 in
      let two = far.make first.tokens (agree_through _ _ _ (agree_carried _ _ first.same (omega (arith, near.forward, long))) (agree_carried _ _ agree near.forward)) (omega (arith, first.long, near.forward, long)) first.tree
      first.depth first.derived in
      let second = two.0 in (
        record {
          tokens = second.tokens;
          same = agree_through _ _ _ (agree_carried _ _ second.same first.long) first.same;
          long = omega (arith, first.long, second.long);
          tree = second.tree;
          depth = second.depth;
          derived = second.derived;
        },
        λ le. two.1 (one.1 le),
      );
  split = λ us agree f c j whole stop.
      let two = far.split us (agree_carried _ _ agree (omega (arith, near.forward))) f c j whole stop in
      let middle = two.0 in
      let one = near.split us agree middle.tree middle.depth middle.end middle.derived middle.stops in
      (one.0, λ lt. two.1 (one.1 lt));
}
