-- A listed table that passes the test keeps the rules, but for what is said of each instruction beside.
use Rattle.std.proofs.Common.{◌≡◌, inl, inr, ℕ, zero, suc, ◌+◌, ◌<◌, ℤ, pos, negsuc, ◌≤ℤ◌, int_eq, Bool, true, false, not, ◌&&◌, ◌||◌, List}
use Rattle.std.proofs.Common.{[], ◌∷◌, slice_get, Option, Some, None, is_none, Contains, refl, sym, subst, arith, le→leb, eqb-true, eq-eqb}
use Rattle.std.proofs.Common.{leb-true, nat_eq, nat_le}
use Rattle.std.proofs.lemmas.List.Elements.{Contains-append_right}
use Rattle.px_regcode.specs.declared.operands.Register.{Register}
use Rattle.px_regcode.specs.declared.operands.RegKind.{RegKind}
use Rattle.px_regcode.specs.declared.operands.RegKind.TheVariants as kind
use Rattle.px_regcode.specs.declared.codes.Code.{Code}
use Rattle.px_regcode.specs.declared.codes.Start.{Start}
use Rattle.px_regcode.specs.declared.codes.Start.TheVariants as start
use Rattle.px_regcode.specs.declared.plans.LoopPlan.{LoopPlan}
use Rattle.px_regcode.specs.declared.instructions.Instr.{Instr}
use Rattle.px_regcode.specs.declared.instructions.Instr.TheVariants as instr
use Rattle.px_regcode.specs.Images.{ImageParts, IsAt}
use Rattle.px_regcode.specs.Facts.{State, empty, whole, object, held, lent, fault, Phase, Stage, outside, inside, FrameFact, Way}
use Rattle.px_regcode.specs.Facts.{successors}
use Rattle.px_regcode.specs.Paths.{FreePath, spends, called, is_ticket}
use Rattle.px_regcode.specs.Shapes.{IsOfKind, Meets, Need, number, reference, reference_or_nothing, view, view_or_nothing, view_of, over}
use Rattle.px_regcode.specs.Shapes.{over_or_nothing, pickable, widenable, a_fault, something, anything, of_kind, arguments_of, plan_of}
use Rattle.px_regcode.specs.Shapes.{needs, plan_needs}
use Rattle.px_regcode.specs.Formed.{KeepsShape, KeepsKinds, KeepsReferences, KeepsViews, KeepsOrder, Keeps, KeepsRules, shape, kinds}
use Rattle.px_regcode.specs.Formed.{references, views, order, is_owned, stood_there, times, names, may_be_left, Holds, is_held, is_enter}
use Rattle.px_regcode.specs.Formed.{is_leave}
use Rattle.px_regcode.specs.Listed
use Rattle.px_regcode.proofs.Tests.{AllTrue, all_of, both, contrary, implied, one_of, false_of, not_both, every_in, every_at, every_of_in}
use Rattle.px_regcode.proofs.Tests.{int_is, int_is_not}

-- ---- kinds

of_kinds : (s : State) (k : RegKind) → Listed.is_of_kind s k ≡ true → IsOfKind s k
unfolding Listed.is_of_kind IsOfKind
of_kinds whole kind.Whole is = tt
of_kinds (object stood) kind.Object is = tt
of_kinds (held rank stood) (kind.View n) is = eqb-true rank n is
of_kinds (lent rank from gone) (kind.View n) is = eqb-true rank n is
of_kinds empty kind.Empty is = tt
of_kinds fault kind.Fault is = tt
of_kinds s k is = cc

met : (s : State) (need : Need) → Listed.meets s need ≡ true → Meets s need
unfolding Listed.meets Meets
met whole number is = tt
met (object stood) reference is = tt
met (object stood) reference_or_nothing is = tt
met empty reference_or_nothing is = tt
met (held rank stood) view is = tt
met (lent rank from gone) view is = tt
met (held rank stood) view_or_nothing is = tt
met (lent rank from gone) view_or_nothing is = tt
met empty view_or_nothing is = tt
met (held rank stood) (view_of n) is = eqb-true rank n is
met (lent rank from gone) (view_of n) is = eqb-true rank n is
met (held rank stood) (over n) is = leb-true (suc n) rank is
met (lent rank from gone) (over n) is = leb-true (suc n) rank is
met (held rank stood) (over_or_nothing n) is = leb-true (suc n) rank is
met (lent rank from gone) (over_or_nothing n) is = leb-true (suc n) rank is
met empty (over_or_nothing n) is = tt
met (held rank stood) (pickable n) is = let p = both (nat_le 2 rank) (nat_le (suc n) rank) is in
    (leb-true 2 rank p.0, leb-true (suc n) rank p.1)
met (lent rank from gone) (pickable n) is = let p = both (nat_le 2 rank) (nat_le (suc n) rank) is in
    (leb-true 2 rank p.0, leb-true (suc n) rank p.1)
met (held rank stood) (widenable n) is = let p = both (nat_le (suc rank) 3) (nat_le n rank) is in
    (leb-true (suc rank) 3 p.0, leb-true n rank p.1)
met (lent rank from gone) (widenable n) is = let p = both (nat_le (suc rank) 3) (nat_le n rank) is in
    (leb-true (suc rank) 3 p.0, leb-true n rank p.1)
met fault a_fault is = tt
met empty something is = cc
met whole something is = tt
met (object stood) something is = tt
met (held rank stood) something is = tt
met (lent rank from gone) something is = tt
met fault something is = tt
met whole anything is = tt
met (object stood) anything is = tt
met (held rank stood) anything is = tt
met (lent rank from gone) anything is = tt
met empty anything is = tt
met fault anything is = tt
met whole (of_kind k) is = of_kinds whole k is
met (object stood) (of_kind k) is = of_kinds (object stood) k is
met (held rank stood) (of_kind k) is = of_kinds (held rank stood) k is
met (lent rank from gone) (of_kind k) is = of_kinds (lent rank from gone) k is
met empty (of_kind k) is = of_kinds empty k is
met fault (of_kind k) is = of_kinds fault k is
met s need is = cc

equal_names : (r : ℕ) → nat_eq r r ≡ true
equal_names r = eq-eqb r r refl

-- a test of the facts of one register
of_one : (r : ℕ) (s : State) (test : State → Bool) (facts : List (ℕ × State))
    → Listed.every (λ q. not (nat_eq r q.0) || test q.1) facts ≡ true
    → Contains facts (r, s) → test s ≡ true
of_one r s test facts is may = implied (nat_eq r r) (test s) (every_in (λ q. not (nat_eq r q.0) || test q.1) facts is (r, s) may)
    (equal_names r)

fits : (args : List Register) (params : List RegKind) (facts : List (ℕ × State)) → Listed.arguments_fit args params facts ≡ true
    → (n : ℕ) (a : Register) (k : RegKind) (s : State) → slice_get args n ≡ Some a → slice_get params n ≡ Some k
    → Contains facts (a.number, s) → IsOfKind s k
fits [] params facts is n a k s at asked may = cc
fits (x ∷ args) [] facts is n a k s at asked may = cc
fits (x ∷ args) (y ∷ params) facts is zero a k s at asked may =
    let parts = both (Listed.every (λ q. not (nat_eq x.number q.0) || Listed.is_of_kind q.1 y) facts)
    (Listed.arguments_fit args params facts) is in
    let x_is : x ≡ a = cc in
    let y_is : y ≡ k = cc in
    subst (λ z. IsOfKind s z) y_is
    (of_kinds s y (of_one x.number s (λ t. Listed.is_of_kind t y) facts parts.0 (subst (λ z. Contains facts (z.number, s)) (sym x_is) may)))
fits (x ∷ args) (y ∷ params) facts is (suc n) a k s at asked may =
    let parts = both (Listed.every (λ q. not (nat_eq x.number q.0) || Listed.is_of_kind q.1 y) facts)
    (Listed.arguments_fit args params facts) is in
    fits args params facts parts.1 n a k s at asked may

-- ---- what is said beside

stated_at : (image : ImageParts) (code : Code) (places : List Listed.Place) (pc : ℕ) (is : List Instr)
    → Listed.AreStated image code places pc is
    → (k : ℕ) (i : Instr) → slice_get is k ≡ Some i → Listed.IsStated image code i (Listed.place_in places (pc + k)).frame
stated_at image code places pc [] stated k i at = cc
stated_at image code places pc (x ∷ xs) stated zero i at =
    let same : x ≡ i = cc in
    let place : pc ≡ pc + 0 = omega arith in
    subst (λ n. Listed.IsStated image code i (Listed.place_in places n).frame) place
    (subst (λ z. Listed.IsStated image code z (Listed.place_in places pc).frame) same stated.0)
stated_at image code places pc (x ∷ xs) stated (suc k) i at =
    let place : suc pc + k ≡ pc + suc k = omega arith in
    subst (λ n. Listed.IsStated image code i (Listed.place_in places n).frame) place
    (stated_at image code places (suc pc) xs stated.1 k i at)

stated_in : (image : ImageParts) (table : List (List Listed.Place)) (f : ℕ) (cs : List Code) → Listed.AllStated image table f cs
    → (k : ℕ) (code : Code) → slice_get cs k ≡ Some code → Listed.AreStated image code (Listed.places_of table (f + k)) 0 code.instrs
stated_in image table f [] stated k code at = cc
stated_in image table f (x ∷ xs) stated zero code at =
    let same : x ≡ code = cc in
    let place : f ≡ f + 0 = omega arith in
    subst (λ n. Listed.AreStated image code (Listed.places_of table n) 0 code.instrs) place
    (subst (λ z. Listed.AreStated image z (Listed.places_of table f) 0 z.instrs) same stated.0)
stated_in image table f (x ∷ xs) stated (suc k) code at =
    let place : suc f + k ≡ f + suc k = omega arith in
    subst (λ n. Listed.AreStated image code (Listed.places_of table n) 0 code.instrs) place
    (stated_in image table (suc f) xs stated.1 k code at)

-- ---- the rules

own : (f : ℕ) (o : Option LoopPlan) → Listed.is_own f o ≡ true → (plan : LoopPlan) → o ≡ Some plan → plan.function ≡ f
own f o is plan at =
    let given : Listed.is_own f (Some plan) ≡ true = subst (λ z. Listed.is_own f z ≡ true) at is in
    eqb-true plan.function f given

is_enter_at : (o : Option Instr) → Listed.is_enter_in o ≡ true → o ≡ Some instr.Enter
is_enter_at None is = cc
is_enter_at (Some instr.Enter) is = refl
is_enter_at (Some i) is = cc

begun_held : (s : Start) → is_held s ≡ true → s ≡ start.Held
begun_held start.Held is = refl
begun_held start.Any is = cc

held_outside : (s : Stage) → Listed.is_outside s ≡ true → s ≡ outside
held_outside outside is = refl
held_outside (inside n phase) is = cc

over_zero : (z : ℤ) → Listed.is_over z ≡ true → pos 1 ≤ℤ z
over_zero (pos zero) is = cc
over_zero (pos (suc n)) is = omega (arith, le→leb)
over_zero (negsuc n) is = cc

held_by : (s : Start) (fact : FrameFact) → Listed.holds s fact ≡ true → Holds s fact
held_by s fact is = by_count (Listed.is_over fact.count) refl
  where
    by_count : (b : Bool) → Listed.is_over fact.count ≡ b → Holds s fact
    by_count true over_is = inl (over_zero fact.count over_is)
    by_count false over_is =
        let rest = one_of (Listed.is_over fact.count) _ is over_is in
        let parts = both (int_eq fact.count (pos 0) && Listed.is_outside fact.stage) (is_held s) rest in
        let front = both (int_eq fact.count (pos 0)) (Listed.is_outside fact.stage) parts.0 in
        inr (int_is fact.count (pos 0) front.0, held_outside fact.stage front.1, begun_held s parts.1)

owned_stood : (s : State) → (not (is_owned s) || stood_there s) ≡ true → is_owned s ≡ true → stood_there s ≡ true
owned_stood s is owned = implied (is_owned s) (stood_there s) is owned

left_stood : (left : Bool) (s : State) → (not left || not (is_owned s) || stood_there s) ≡ true → left ≡ true → is_owned s ≡ true
    → stood_there s ≡ true
left_stood true s is here owned = owned_stood s is owned
left_stood false s is here owned = cc

no : not true ≡ true → ⊥
no is = cc

after_ticket : (ticket enter : Bool) → Listed.same_flag ticket enter ≡ true → ticket ≡ true → enter ≡ true
after_ticket true enter is here = is
after_ticket false enter is here = cc

before_flag : (ticket enter : Bool) → Listed.same_flag ticket enter ≡ true → enter ≡ true → ticket ≡ true
before_flag true enter is here = refl
before_flag false true is here = cc
before_flag false false is here = cc

same_option : (a b : Code) (o : Option Code) → o ≡ Some a → o ≡ Some b → a ≡ b
same_option a b o is_a is_b = cc

one_fact : {o : Option FrameFact} {a b : FrameFact} → o ≡ Some a → o ≡ Some b → b ≡ a
one_fact is_a is_b = cc

inner_call : (o : Option ℕ) (g : ℕ) → o ≡ Some g → (stage : Stage) (n : ℕ) (phase : Phase) → stage ≡ inside n phase
    → (is_none o || Listed.is_outside stage) ≡ true → ⊥
inner_call None g calls stage n phase is test = cc
inner_call (Some h) g calls outside n phase is test = cc
inner_call (Some h) g calls (inside m p) n phase is test = cc

module _
    (image : ImageParts) (table : List (List Listed.Place)) (kept : Listed.keeps_rules image table ≡ true)
    (stated : Listed.AllStated image table 0 image.codes) where
  kept_at : (f pc : ℕ) (code : Code) (i : Instr) (fact : FrameFact) → slice_get image.codes f ≡ Some code
      → slice_get code.instrs pc ≡ Some i
      → Listed.frames_of table f pc fact → Listed.keeps_all image table f pc code i (Some fact) ≡ true
  unfolding Listed.keeps_rules
  kept_at f pc code i fact at is may =
      let all = every_at (λ f code. Listed.every_from 0
      (λ pc i. Listed.keeps_all image table f pc code i (Listed.place_at table f pc).frame) code.instrs) image.codes kept f code at in
      let one = every_at (λ pc i. Listed.keeps_all image table f pc code i (Listed.place_at table f pc).frame) code.instrs all pc i is in
      subst (λ o. Listed.keeps_all image table f pc code i o ≡ true) may one

  stated_of : (f pc : ℕ) (code : Code) (i : Instr) (fact : FrameFact) → slice_get image.codes f ≡ Some code
      → slice_get code.instrs pc ≡ Some i
      → Listed.frames_of table f pc fact → Listed.IsStated image code i (Some fact)
  stated_of f pc code i fact at is may =
      let zero_f : 0 + f ≡ f = omega arith in
      let zero_pc : 0 + pc ≡ pc = omega arith in
      let in_code = subst (λ n. Listed.AreStated image code (Listed.places_of table n) 0 code.instrs) zero_f
      (stated_in image table 0 image.codes stated f code at) in
      let one = subst (λ n. Listed.IsStated image code i (Listed.place_in (Listed.places_of table f) n).frame) zero_pc
      (stated_at image code (Listed.places_of table f) 0 code.instrs in_code pc i is) in
      subst (λ o. Listed.IsStated image code i o) may one

  -- the five parts of the test of an instruction

  passed : (f pc : ℕ) (code : Code) (i : Instr) (fact : FrameFact) → slice_get image.codes f ≡ Some code → slice_get code.instrs pc ≡ Some i
      → Listed.frames_of table f pc fact
      → AllTrue (Listed.rule_tests image table f pc code i fact)
  passed f pc code i fact at is may = all_of (Listed.rule_tests image table f pc code i fact) (kept_at f pc code i fact at is may)

  -- ---- shape

  shape_free : (f pc : ℕ) (code : Code) (i : Instr) (fact : FrameFact) → Listed.keeps_shape image table f pc code i fact ≡ true
      → spends i ≡ false → (way : Way) (to : ℕ) → Contains (successors image pc i fact) (way, to)
      → (Listed.place_at table f to).rank < (Listed.place_at table f pc).rank
  shape_free f pc code i fact is free way to next =
      let falls = one_of (spends i) _ (all_of (Listed.shape_tests image table f pc code i fact) is).1.1.1.1.0 free in
      leb-true _ _ (every_in _ _ falls (way, to) next)

  path_falls : (f pc to : ℕ) → FreePath image (Listed.frames_of table) f pc to
      → (Listed.place_at table f to).rank < (Listed.place_at table f pc).rank
  path_falls f pc to (FreePath.step {i} {way} {fact} here at free next) =
      shape_free f pc at.code i fact (passed f pc at.code i fact at.is_code at.is_instr here).0 free way to next
  path_falls f pc to (FreePath.steps {mid} p q) = omega (arith, path_falls f pc mid p, path_falls f mid to q)

  shape_kept : (f pc : ℕ) (code : Code) (i : Instr) (fact : FrameFact) → slice_get image.codes f ≡ Some code
      → slice_get code.instrs pc ≡ Some i
      → Listed.frames_of table f pc fact → KeepsShape image (Listed.frames_of table) (Listed.registers_of table) f pc code i fact
  shape_kept f pc code i fact at is may =
      let all = passed f pc code i fact at is may in
      let test = all_of (Listed.shape_tests image table f pc code i fact) all.0 in
      record {
        named = λ r n. leb-true _ _ (every_in _ _ test.0 r n);
        followers = λ way to n. leb-true _ _ (every_in _ _ test.1.0 (way, to) n);
        places = λ k n. leb-true _ _ (every_in _ _ test.1.1.0 k n);
        shaped = (stated_of f pc code i fact at is may).0;
        arguments = λ other n a k s calls given asked here.
            fits (arguments_of i) other.params _
            (subst (λ o. Listed.arguments_fit (arguments_of i) (Listed.params_of o) (Listed.place_at table f pc).registers ≡ true)
            calls test.1.1.1.0) n a k s given asked here;
        no_free_path = λ p. absurd (omega (arith, path_falls f pc pc p));
        own_plan = λ plan runs. own f (plan_of image i) test.1.1.1.1.1.0 plan runs;
        plan_kinds = λ r need s asked here. met s need (of_one r s (λ t. Listed.meets t need) _
            (every_in _ _ all.1.0 (r, need) (Contains-append_right (needs code.result i) (plan_needs (plan_of image i)) (r, need) asked))
            here);
      }

  kinds_kept : (f pc : ℕ) (code : Code) (i : Instr) (fact : FrameFact) → slice_get image.codes f ≡ Some code
      → slice_get code.instrs pc ≡ Some i
      → Listed.frames_of table f pc fact → KeepsKinds image (Listed.registers_of table) f pc code i
  kinds_kept f pc code i fact at is may =
      let test = (passed f pc code i fact at is may).1.0 in
      record {
        kinds = λ r need s asked here. met s need (of_one r s (λ t. Listed.meets t need) _ (every_in _ _ test (r, need) asked) here);
        given = (stated_of f pc code i fact at is may).1;
      }

  references_kept : (f pc : ℕ) (code : Code) (i : Instr) (fact : FrameFact) → slice_get image.codes f ≡ Some code
      → slice_get code.instrs pc ≡ Some i
      → Listed.frames_of table f pc fact → KeepsReferences image (Listed.registers_of table) f pc i fact
  references_kept f pc code i fact at is may =
      let test = all_of (Listed.references_tests image (Listed.place_at table f pc).registers i fact)
      (passed f pc code i fact at is may).1.1.0 in
      record {
        kept = λ r s n here. false_of _ (every_of_in _ _ (λ r s. not (is_owned s)) test.0 r s n here);
        taken_once = λ r s n here owned. eqb-true _ _
            (implied _ _ (every_of_in _ _ (λ r s. not (is_owned s) || nat_eq (times r (names i)) 1) test.1.0 r s n here) owned);
        written_once = λ r n. eqb-true _ _ (every_in (λ r. nat_eq (times r (names i)) 1) _ test.1.1.0 r n);
        none_left = λ r s ends here left owned.
            left_stood (may_be_left i r s) s
            (every_in (λ q. not (may_be_left i q.0 q.1) || not (is_owned q.1) || stood_there q.1) _ (implied _ _ test.1.1.1.0 ends)
            (r, s) here) left owned;
        none_behind = λ r s ends here owned.
            owned_stood s (every_in (λ q. not (is_owned q.1) || stood_there q.1) _ (implied _ _ test.1.1.1.1.0 ends) (r, s) here) owned;
        untaken = λ r s n here. false_of _ (every_of_in _ _ (λ r s. not (stood_there s)) test.1.1.1.1.1.0 r s n here);
      }

  views_kept : (f pc : ℕ) (code : Code) (i : Instr) (fact : FrameFact) → slice_get image.codes f ≡ Some code
      → slice_get code.instrs pc ≡ Some i
      → Listed.frames_of table f pc fact → KeepsViews image (Listed.registers_of table) f pc code i
  views_kept f pc code i fact at is may =
      let test = all_of (Listed.views_tests image (Listed.place_at table f pc).registers code i)
      (passed f pc code i fact at is may).1.1.1.0 in
      record {
        given = λ r rank from gone n here. no (every_of_in _ _ (λ r s. not (Listed.is_lent s)) test.0 r (lent rank from gone) n here);
        acquired = λ r rank stood n here. no (every_of_in _ _ (λ r s. not (Listed.is_held_view s)) test.1.0 r (held rank stood) n here);
        live = λ r rank from n here. no (every_of_in _ _ (λ r s. not (Listed.is_lost s)) test.1.1.0 r (lent rank from true) n here);
      }

  before_enter : (f pc : ℕ) (code : Code) (i : Instr) → slice_get image.codes f ≡ Some code → slice_get code.instrs pc ≡ Some i
      → is_enter i ≡ true
      → (from : ℕ) (before : Instr) (way : Way) (was : FrameFact) → Listed.frames_of table f from was → IsAt image f from before
      → Contains (successors image from before was) (way, pc) → is_ticket before ≡ true
  before_enter f pc code i at is enter from before way was here there next =
      let test = all_of (Listed.order_tests image from there.code before was)
      (passed f from there.code before was there.is_code there.is_instr here).1.1.1.1.0 in
      let flags = every_in _ _ test.1.0 (way, pc) next in
      let same_code : there.code ≡ code = same_option there.code code (slice_get image.codes f) there.is_code at in
      let entered : Listed.is_enter_in (slice_get there.code.instrs pc) ≡ true =
      subst (λ c. Listed.is_enter_in (slice_get c.instrs pc) ≡ true) (sym same_code)
      (subst (λ o. Listed.is_enter_in o ≡ true) (sym is) enter) in
      before_flag (is_ticket before) _ flags entered

  order_kept : (f pc : ℕ) (code : Code) (i : Instr) (fact : FrameFact) → slice_get image.codes f ≡ Some code
      → slice_get code.instrs pc ≡ Some i
      → Listed.frames_of table f pc fact → KeepsOrder image (Listed.frames_of table) f pc code i fact
  order_kept f pc code i fact at is may =
      let test = all_of (Listed.order_tests image pc code i fact) (passed f pc code i fact at is may).1.1.1.1.0 in
      record {
        locked = λ asks. held_by code.start fact (implied _ _ test.0 asks);
        tickets = λ ticket way to next. record {
          code = code;
          is_code = at;
          is_instr = is_enter_at _ (after_ticket (is_ticket i) _ (every_in _ _ test.1.0 (way, to) next) ticket);
        };
        enters = λ enter from before way was here there next.
            before_enter f pc code i at is enter from before way was here there next;
        begins = λ enter first. contrary (nat_eq pc 0) (eq-eqb pc 0 first) (not_both (is_enter i) (nat_eq pc 0) test.1.1.0 enter);
        ends = λ ends. int_is _ _ (implied _ _ test.1.1.1.0 ends);
        between = λ between. int_is _ _ (implied _ _ test.1.1.1.1.0 between);
        no_more = λ enter. int_is_not _ _ (not_both (is_enter i) _ test.1.1.1.1.1.0 enter);
        no_less = λ leave. int_is_not _ _ (not_both (is_leave i) _ test.1.1.1.1.1.1.0 leave);
        stands = (stated_of f pc code i fact at is may).2;
        no_inner_loop = λ g n phase calls inner below. inner_call (called i) g calls fact.stage n phase inner test.1.1.1.1.1.1.1.0;
        no_inner_members = λ g n phase calls inner below. inner_call (called i) g calls fact.stage n phase inner test.1.1.1.1.1.1.1.0;
        one = λ other here. one_fact may here;
      }

  pub rules_kept : KeepsRules image (Listed.frames_of table) (Listed.registers_of table)
  unfolding Keeps
  rules_kept f pc code i fact shape at is may = shape_kept f pc code i fact at is may
  rules_kept f pc code i fact kinds at is may = kinds_kept f pc code i fact at is may
  rules_kept f pc code i fact references at is may = references_kept f pc code i fact at is may
  rules_kept f pc code i fact views at is may = views_kept f pc code i fact at is may
  rules_kept f pc code i fact order at is may = order_kept f pc code i fact at is may
