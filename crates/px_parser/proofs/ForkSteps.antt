-- Two forms that begin with the same token and differ in the next one: where the form of that next token isn't read, neither is.
use Rattle.std.proofs.Common.{◌≡◌, ℕ, suc, ◌≤◌, ◌<◌, ◌⊎◌, inl, inr, List, length, take, subst, arith, max}
use Rattle.std.proofs.lemmas.List.{length-take-le}
use Rattle.px_lexer.specs.declared.token_list.TokenKind.{TokenKind}
use Rattle.px_exprs.specs.declared.readings.Unread.{Unread}
use Rattle.px_exprs.specs.declared.readings.Unread.TheVariants as unread
use Rattle.px_lexer.specs.Terminals.{Terminal, HasKind}
use Rattle.px_exprs.specs.Readings.{Stops, Agree}
use Rattle.px_exprs.specs.Runs.{nesting_limit}
use Rattle.px_exprs.proofs.Agreement.{agree_back, agree_through, agree_carried, agree_front}
use Rattle.px_exprs.proofs.Keeping.{kind_carried}
use Rattle.px_parser.specs.Shapes.{Mode, Shape}
use Rattle.px_parser.specs.Parsing.{strict, looks_before, unseen_from}
use Rattle.px_parser.specs.Readings.{IsUnread, Anywhere}
use Rattle.px_parser.proofs.Shapely.{AtLeast, Opens, IsFresh, opens_longer}
use Rattle.px_parser.proofs.Steps.{Step, strict_rises, reached_made, way_made, arrived_made, strict_unseen, opens_unseen}
use Rattle.px_parser.proofs.TypedNames.{same_or_below}

-- the end of no form
abbrev pub Nowhere : Stops
Nowhere ts i = ⊥

-- a form that begins with the first tokens up to an index
pub record BegunBy {A : Type 0} (X : Shape A) (mode : Mode) (ts : List Terminal) (i n : ℕ) : Type 0 where
  pub tokens : List Terminal
  pub same : Agree (suc i) tokens ts
  pub tree : A
  pub derived : X mode tokens i tree n (length tokens)

pub begun_by : {A B : Type 0} {X : Shape A} {W : Shape B} (ts : List Terminal) (i room : ℕ) → IsFresh W → Step W Anywhere X Anywhere ts i (suc i) room → i < length ts → (mode : Mode) (n : ℕ) → AtLeast (strict nesting_limit) mode → room ≤ n
    → ((us : List Terminal) → suc i ≤ length us → Opens mode us n) → BegunBy X mode ts i n
begun_by {W = W} ts i room fresh step inside mode n least le opens =
    let cut : length (take (suc i) ts) ≡ suc i = length-take-le (suc i) ts (omega (arith, inside)) in
    let open_here = opens (take (suc i) ts) (omega (arith, cut)) in
    let more = fresh mode (take (suc i) ts) n open_here in
    let agree : Agree (suc i) more.tokens ts = agree_through more.tokens (take (suc i) ts) ts (subst (λ k. Agree k more.tokens (take (suc i) ts)) cut more.same) (agree_front (suc i) ts) in
    let part : W mode more.tokens (suc i) more.tree n (length more.tokens) = subst (λ k. W mode more.tokens k more.tree n (length more.tokens)) cut more.derived in
    let long : suc i ≤ length more.tokens = omega (arith, more.long, cut) in
    let made = step.make mode more.tokens n more.tree agree long least le (opens_longer (take (suc i) ts) more.tokens more.long open_here) part in
    record {
      tokens = made.tokens;
      same = agree_through made.tokens more.tokens ts (agree_carried made.tokens more.tokens made.same long) agree;
      tree = made.tree;
      derived = made.derived;
    }

-- Z is X or Y, which begin with the same kind of token; with the next token it isn't Y
pub fails_beside : {A B : Type 0} {X Z : Shape A} {W : Shape B} (Y : Shape A) (ts : List Terminal) (i room : ℕ) (k : TokenKind) → Step X Anywhere Z Nowhere ts i i room
    → ((mode : Mode) (us : List Terminal) (t : A) (n j : ℕ) → Z mode us i t n j → X mode us i t n j ⊎ Y mode us i t n j) → ((mode : Mode) (us : List Terminal) (t : A) (n j : ℕ) → Y mode us i t n j → HasKind us i k)
    → ((mode : Mode) (us : List Terminal) (t : A) (n j : ℕ) → Agree (suc (suc i)) us ts → Y mode us i t n j → ⊥) → IsFresh W → (HasKind ts i k → Step W Anywhere X Anywhere ts i (suc i) room)
    → (u : Unread) → IsUnread X Anywhere ts i room u → IsUnread Z Anywhere ts i room u
fails_beside Y ts i room k whole parts begins apart fresh behind (unread.Stuck m) stuck = record {
  forward = stuck.forward;
  within = stuck.within;
  reached = arrived_made whole stuck.forward stuck.reached;
  none = λ us agree limit tree blocks j z stop. elim (parts (strict limit) us tree blocks j z) [
    | inl x ↦ stuck.none us agree limit tree blocks j x tt
    | inr y ↦ (elim (same_or_below i m stuck.forward) [
      | inl e ↦ (
          let token = kind_carried (suc i) (agree_back us ts (agree_carried us ts agree (omega (arith, e)))) (begins (strict limit) us tree blocks j y) (omega arith) in
          let begun = begun_by ts i room fresh (behind token) (omega (arith, e, stuck.within)) (strict nesting_limit) (suc room) (strict_rises nesting_limit nesting_limit (omega arith)) (omega arith) (λ vs long. Opens.blocks (omega arith)) in
          stuck.none begun.tokens (subst (λ n. Agree (suc n) begun.tokens ts) e begun.same) nesting_limit begun.tree (suc room) (length begun.tokens) begun.derived tt)
      | inr lt ↦ apart (strict limit) us tree blocks j (agree_carried us ts agree (omega (arith, lt))) y
    ])
  ];
}
fails_beside Y ts i room k whole parts begins apart fresh behind (unread.TooDeep m) over = record {
  forward = over.forward;
  within = over.within;
  reached = reached_made whole over.forward over.reached;
  apart = λ together. way_made whole (omega (arith, over.forward)) (over.apart together);
  counted = λ keyword us agree limit tree j z stop. elim (parts (unseen_from limit (suc m)) us tree room j z) [
    | inl x ↦ over.counted keyword us agree limit tree j x tt
    | inr y ↦ (elim (same_or_below i m over.forward) [
      | inl e ↦ (
          let most = max nesting_limit limit in
          let token = kind_carried (suc i) (agree_back us ts (agree_carried us ts agree (omega (arith, e)))) (begins (unseen_from limit (suc m)) us tree room j y) (omega arith) in
          let begun = begun_by ts i room fresh (behind token) (omega (arith, e, over.within)) (unseen_from most (suc m)) room (strict_unseen nesting_limit most (suc m) (omega arith)) (omega arith) (λ vs long. opens_unseen most (suc m) vs room (omega (arith, e, long))) in
          over.counted keyword begun.tokens (subst (λ n. Agree (suc n) begun.tokens ts) e begun.same) most begun.tree (length begun.tokens) begun.derived tt)
      | inr lt ↦ apart (unseen_from limit (suc m)) us tree room j (agree_carried us ts agree (omega (arith, lt))) y
    ])
  ];
  way = way_made whole (omega (arith, over.forward)) over.way;
  deep = λ us agree tree j z stop. elim (parts (looks_before (suc m)) us tree room j z) [
    | inl x ↦ over.deep us agree tree j x tt
    | inr y ↦ (elim (same_or_below i m over.forward) [
      | inl e ↦ (
          let token = kind_carried (suc i) (agree_back us ts (agree_carried us ts agree (omega (arith, e)))) (begins (looks_before (suc m)) us tree room j y) (omega arith) in
          let begun = begun_by ts i room fresh (behind token) (omega (arith, e, over.within)) (looks_before (suc m)) room (strict_unseen nesting_limit nesting_limit (suc m) (omega arith)) (omega arith) (λ vs long. opens_unseen nesting_limit (suc m) vs room (omega (arith, e, long))) in
          over.deep begun.tokens (subst (λ n. Agree (suc n) begun.tokens ts) e begun.same) begun.tree (length begun.tokens) begun.derived tt)
      | inr lt ↦ apart (looks_before (suc m)) us tree room j (agree_carried us ts agree (omega (arith, lt))) y
    ])
  ];
}
fails_beside Y ts i room k whole parts begins apart fresh behind unread.NoMemory h = tt
