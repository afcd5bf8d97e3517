-- An image is formed where each of its functions has a table: at each instruction the handler, what each register may hold, and a number
-- that grows on every way on.
use Rattle.std.proofs.Common.{◌≡◌, inl, inr, ℕ, zero, suc, ◌<◌, pos, Bool, true, false, List, [], ◌∷◌, ◌++◌, length, Option, Some, None, Contains, refl, sym, ap, ◌∙◌, subst, arith}
use Rattle.std.specs.Prelude.{slice_get}
use Rattle.std.proofs.lemmas.List.Elements.{Contains-append_cases}
use Rattle.px_regcode.specs.declared.operands.RegKind.{RegKind}
use Rattle.px_regcode.specs.declared.codes.Code.{Code}
use Rattle.px_regcode.specs.declared.codes.Start.TheVariants as start
use Rattle.px_regcode.specs.declared.plans.LoopPlan.{LoopPlan}
use Rattle.px_regcode.specs.declared.instructions.Instr.{Instr}
use Rattle.px_regcode.specs.Images.{ImageParts, IsAt}
use Rattle.px_regcode.specs.Effects.{reads, writes, empties}
use Rattle.px_regcode.specs.Operands.{takes, targets}
use Rattle.px_regcode.specs.Facts.{State, empty, whole, object, held, lent, fault, FrameFact, frame_fact, outside, Way, successors, frame_after}
use Rattle.px_regcode.specs.Facts.{numbers_of, plan_writes, makes, hands_on, first_state}
use Rattle.px_regcode.specs.Shapes.{IsShaped, Need, Meets, needs, plan_of, plan_needs}
use Rattle.px_regcode.specs.Paths.{FreePath}
use Rattle.px_regcode.specs.Plans.{IsPlan}
use Rattle.px_regcode.specs.Tables.{IsTable}
use Rattle.px_regcode.specs.Formed.{IsFormed, IsCode, KeepsRules, Rule, shape, kinds, references, views, order, Keeps, KeepsShape, KeepsKinds}
use Rattle.px_regcode.specs.Formed.{KeepsReferences, KeepsViews, KeepsOrder, is_owned, stood_there, may_end, may_be_left, times, names, owning_writes, IsGiven}
use Rattle.px_regcode.proofs.Tables.{is_formed}
use Rattle.px_regcode.proofs.Tests.{Each, each_in, element_at}
use Rattle.px_code_laws.specs.Whole.{IsWhole}
use Rattle.px_code_laws.proofs.Straight.{Kind, bare, numeric, owning, unowned, releasable, May, Kinds, Ordinary}

pub record Place : Type 0 where
  pub handler : Option ℕ
  pub kinds : Kinds
  pub rank : ℕ

abbrev pub fact_at : Place → FrameFact
fact_at p = frame_fact p.handler (pos 0) outside

-- a way from one place to another
pub record Leads (image : ImageParts) (here to : Place) (i : Instr) (way : Way) : Type 0 where
  pub frame : frame_after i way (fact_at here) ≡ fact_at to
  pub later : here.rank < to.rank
  pub made : Each (λ p. May (to.kinds p.0) p.1) (makes image outside i way)
  pub handed : (r : ℕ) (s : State) → May (here.kinds r) s → Each (λ p. May (to.kinds p.0) p.1) (hands_on image outside i way r s)

-- an instruction keeps the rules where it stands
pub record Holds (image : ImageParts) (code : Code) (place : ℕ → Place) (here : Place) (pc : ℕ) (i : Instr) : Type 0 where
  pub ordinary : Ordinary image i
  pub named : Each (λ r. r < code.registers) (numbers_of (reads i ++ writes i ++ empties i))
  pub shaped : IsShaped image code i
  pub given : IsGiven code.result i
  pub asked : Each (λ p. (s : State) → May (here.kinds p.0) s → Meets s p.1) (needs code.result i)
  pub kept : Each (λ r. (s : State) → May (here.kinds r) s → is_owned s ≡ false) (numbers_of (writes i))
  pub taken : Each (λ r. (s : State) → May (here.kinds r) s → is_owned s ≡ true → times r (names i) ≡ 1) (numbers_of (takes i))
  pub written : Each (λ r. times r (names i) ≡ 1) (owning_writes image i)
  pub left : may_end i (fact_at here) ≡ true → (r : ℕ) (s : State) → May (here.kinds r) s → may_be_left i r s ≡ true → is_owned s ≡ false
  pub targets_in : (k : ℕ) → Contains (targets i) k → k < length code.instrs
  pub inside : (way : Way) (to : ℕ) → Contains (successors image pc i (fact_at here)) (way, to) → to < length code.instrs
  pub leads : (way : Way) (to : ℕ) → Contains (successors image pc i (fact_at here)) (way, to) → Leads image here (place to) i way

pub record IsTabled (image : ImageParts) (code : Code) (place : ℕ → Place) : Type 0 where
  pub handler : (place 0).handler ≡ None
  pub kinds : (r : ℕ) → (place 0).kinds r ≡ bare
  pub params : code.params ≡ []
  pub start : code.start ≡ start.Held
  pub holds : (pc : ℕ) (i : Instr) → slice_get code.instrs pc ≡ Some i → Holds image code place (place pc) pc i

-- ---- what no register holds

never_stood : (k : Kind) (s : State) → May k s → stood_there s ≡ false
never_stood bare (object stood) may = absurd may
never_stood numeric (object stood) may = absurd may
never_stood unowned (object stood) may = absurd may
never_stood owning (object true) may = absurd may
never_stood releasable (object true) may = absurd may
never_stood owning (object false) may = refl
never_stood releasable (object false) may = refl
never_stood bare (held rank stood) may = absurd may
never_stood numeric (held rank stood) may = absurd may
never_stood unowned (held rank stood) may = absurd may
never_stood owning (held rank stood) may = absurd may
never_stood releasable (held rank stood) may = absurd may
never_stood k empty may = refl
never_stood k whole may = refl
never_stood k (lent rank from gone) may = refl
never_stood k fault may = refl

no_lent : (k : Kind) (rank from : ℕ) (gone : Bool) → May k (lent rank from gone) → ⊥
no_lent bare rank from gone may = may
no_lent numeric rank from gone may = may
no_lent owning rank from gone may = may
no_lent unowned rank from gone may = may
no_lent releasable rank from gone may = may

no_held : (k : Kind) (rank : ℕ) (stood : Bool) → May k (held rank stood) → ⊥
no_held bare rank stood may = may
no_held numeric rank stood may = may
no_held owning rank stood may = may
no_held unowned rank stood may = may
no_held releasable rank stood may = may

owned_not : (b : Bool) → b ≡ true → b ≡ false → {X : Type 0} → X
owned_not b is is_not = absurd (cc)

-- without a plan nothing more is asked

asks_no_more : (image : ImageParts) (i : Instr) (asked : List (ℕ × Need)) (p : ℕ × Need) → plan_of image i ≡ None → Contains (asked ++ plan_needs (plan_of image i)) p
    → Contains asked p
asks_no_more image i asked p none named =
    elim (Contains-append_cases asked (plan_needs (plan_of image i)) p named) [
      | inl mine ↦ mine
      | inr other ↦ absurd (nothing (subst (λ o. Contains (plan_needs o) p) none other))
    ]
  where
    nothing : {X : Type 0} {x : X} → Contains [] x → ⊥
    nothing (k, lt, at) = omega (arith, lt)

writes_no_more : (xs ys : List ℕ) (r : ℕ) → ys ≡ [] → Contains (xs ++ ys) r → Contains xs r
writes_no_more xs ys r none named =
    elim (Contains-append_cases xs ys r named) [
      | inl mine ↦ mine
      | inr other ↦ absurd (nothing (subst (λ l. Contains l r) none other))
    ]
  where
    nothing : {X : Type 0} {x : X} → Contains [] x → ⊥
    nothing (k, lt, at) = omega (arith, lt)

first_of_none : (params : List RegKind) (r : ℕ) → params ≡ [] → first_state (slice_get params r) ≡ empty
first_of_none params r is = ap (λ l. first_state (slice_get l r)) is

-- ---- images

module _ (image : ImageParts) (places : ℕ → ℕ → Place) (loops : image.loops ≡ [])
    (all : (f : ℕ) (code : Code) → slice_get image.codes f ≡ Some code → IsTabled image code (places f)) where
  abbrev frames : ℕ → ℕ → FrameFact → Type 0
  frames f pc fact = fact ≡ fact_at (places f pc)

  abbrev registers : ℕ → ℕ → ℕ → State → Type 0
  registers f pc r s = May ((places f pc).kinds r) s

  holds_at : (f pc : ℕ) (i : Instr) (at : IsAt image f pc i) → Holds image at.code (places f) (places f pc) pc i
  holds_at f pc i at = (all f at.code at.is_code).holds pc i at.is_instr

  led : (f pc to : ℕ) (i : Instr) (way : Way) (fact : FrameFact) → frames f pc fact → IsAt image f pc i
      → Contains (successors image pc i fact) (way, to) → Leads image (places f pc) (places f to) i way
  led f pc to i way fact here at next =
      (holds_at f pc i at).leads way to (subst (λ x. Contains (successors image pc i x) (way, to)) here next)

  rises : (f pc to : ℕ) → FreePath image frames f pc to → (places f pc).rank < (places f to).rank
  rises f pc to (FreePath.step {i} {way} {fact} here at free next) = (led f pc to i way fact here at next).later
  rises f pc to (FreePath.steps {mid} p q) = let a = rises f pc mid p in let b = rises f mid to q in omega (arith, a, b)

  table : IsTable image frames registers
  table = record {
    entry = λ f lt. let c = element_at image.codes f lt in ap (λ h. frame_fact h (pos 0) outside) (sym (all f c.0 c.1).handler);
    follows = λ f pc to i way fact here at next.
        ap (λ x. frame_after i way x) here ∙ (led f pc to i way fact here at next).frame;
    parameters = λ f r code is less. let t = all f code is in
        subst (λ k. May k (first_state (slice_get code.params r))) (sym (t.kinds r))
        (subst (λ s. May bare s) (sym (first_of_none code.params r t.params)) tt);
    made = λ f pc to r i way fact s here at next makes_it.
        each_in (λ p. May ((places f to).kinds p.0) p.1) (makes image outside i way) (led f pc to i way fact here at next).made (r, s)
        (subst (λ x. Contains (makes image x.stage i way) (r, s)) here makes_it);
    handed = λ f pc to r d i way fact s t here at next before hands.
        each_in (λ p. May ((places f to).kinds p.0) p.1) (hands_on image outside i way r s)
        ((led f pc to i way fact here at next).handed r s before) (d, t)
        (subst (λ x. Contains (hands_on image x.stage i way r s) (d, t)) here hands);
  }

  module _ (f pc : ℕ) (code : Code) (i : Instr) (is : slice_get image.codes f ≡ Some code) (h : Holds image code (places f) (places f pc) pc i) where
    shape_kept : KeepsShape image frames registers f pc code i (fact_at (places f pc))
    shape_kept = record {
      named = λ r named. each_in (λ r. r < code.registers) (numbers_of (reads i ++ writes i ++ empties i)) h.named r named;
      followers = h.inside;
      places = h.targets_in;
      shaped = h.shaped;
      arguments = λ other n a k s called given parameter may. absurd (h.ordinary.no_arguments other n a called given);
      no_free_path = λ p. let up = rises f pc pc p in omega (arith, up);
      own_plan = λ plan planned. let none = h.ordinary.no_plan in cc;
      plan_kinds = λ r need s asked may. absurd (nothing (subst (λ o. Contains (plan_needs o) (r, need)) h.ordinary.no_plan asked));
    }
      where
        nothing : {X : Type 0} {x : X} → Contains [] x → ⊥
        nothing (k, lt, at) = omega (arith, lt)

    kinds_kept : KeepsKinds image registers f pc code i
    kinds_kept = record {
      kinds = λ r need s asked may. each_in (λ p. (s : State) → May ((places f pc).kinds p.0) s → Meets s p.1) (needs code.result i) h.asked (r, need)
          (asks_no_more image i (needs code.result i) (r, need) h.ordinary.no_plan asked) s may;
      given = h.given;
    }

    references_kept : KeepsReferences image registers f pc i (fact_at (places f pc))
    references_kept = record {
      kept = λ r s named may. each_in (λ r. (s : State) → May ((places f pc).kinds r) s → is_owned s ≡ false) (numbers_of (writes i)) h.kept r
          (writes_no_more (numbers_of (writes i)) (plan_writes image outside i) r h.ordinary.no_copies named) s may;
      taken_once = λ r s named may owned. each_in (λ r. (s : State) → May ((places f pc).kinds r) s → is_owned s ≡ true → times r (names i) ≡ 1)
          (numbers_of (takes i)) h.taken r named s may owned;
      written_once = λ r named. each_in (λ r. times r (names i) ≡ 1) (owning_writes image i) h.written r named;
      none_left = λ r s ends may leaves owned. let not_owned = h.left ends r s may leaves in cc;
      none_behind = λ r s ends may owned. let not_ends = h.ordinary.no_iteration in cc;
      untaken = λ r s named may. never_stood ((places f pc).kinds r) s may;
    }

    views_kept : KeepsViews image registers f pc code i
    views_kept = record {
      given = λ r rank from gone named may. no_lent ((places f pc).kinds r) rank from gone may;
      acquired = λ r rank stood named may. no_held ((places f pc).kinds r) rank stood may;
      live = λ r rank from named may. no_lent ((places f pc).kinds r) rank from true may;
    }

    order_kept : code.start ≡ start.Held → KeepsOrder image frames f pc code i (fact_at (places f pc))
    order_kept held_at_start = record {
      locked = λ asks. inr (refl, refl, held_at_start);
      tickets = λ ticket. let no = h.ordinary.no_ticket in cc;
      enters = λ enter. let no = h.ordinary.no_enter in cc;
      begins = λ enter. let no = h.ordinary.no_enter in cc;
      ends = λ ends. refl;
      between = λ between. refl;
      no_more = λ enter. let no = h.ordinary.no_enter in cc;
      no_less = λ leave. let no = h.ordinary.no_leave in cc;
      stands = h.ordinary.stands;
      no_inner_loop = λ g n phase calls stage. cc;
      no_inner_members = λ g n phase calls stage. cc;
      one = λ other may. may;
    }

    at_place : (rule : Rule) → code.start ≡ start.Held → Keeps image frames registers f pc code i (fact_at (places f pc)) rule
    unfolding Keeps
    at_place shape held_at_start = shape_kept
    at_place kinds held_at_start = kinds_kept
    at_place references held_at_start = references_kept
    at_place views held_at_start = views_kept
    at_place order held_at_start = order_kept held_at_start

  rules : KeepsRules image frames registers
  rules f pc code i fact rule is at here =
      let t = all f code is in
      subst (λ x. Keeps image frames registers f pc code i x rule) (sym here) (at_place f pc code i is (t.holds pc i at) rule t.start)

  no_plans : (n : ℕ) (plan : LoopPlan) → slice_get image.loops n ≡ Some plan → IsPlan image n plan
  no_plans n plan at = let none : slice_get image.loops n ≡ None = ap (λ l. slice_get l n) loops in cc

  pub formed_by_places : (first : Code) → slice_get image.codes 0 ≡ Some first → IsWhole image
      → ((f : ℕ) (code : Code) → slice_get image.codes f ≡ Some code → IsCode code) → IsFormed image
  formed_by_places first is_first image_is coded = is_formed image frames registers (record {
    first = first;
    is_first = is_first;
    is_module = image_is.first first is_first;
    names = image_is.names;
    functions = coded;
    plans = no_plans;
    table = table;
    rules = rules;
  })

-- ---- tables of all functions

pub record Tabled (image : ImageParts) (code : Code) : Type 0 where
  pub place : ℕ → Place
  pub is_tabled : IsTabled image code place

abbrev nowhere : Place
nowhere = record { handler = None; kinds = λ r. bare; rank = 0 }

each_from : {X : Type 0} (P : X → Type 0) (xs : List X) → ((k : ℕ) (x : X) → slice_get xs k ≡ Some x → P x) → Each P xs
each_from P [] all = tt
each_from P (x ∷ xs) all = (all 0 x refl, each_from P xs (λ k y at. all (suc k) y at))

places_of : (image : ImageParts) (codes : List Code) → Each (Tabled image) codes → ℕ → ℕ → Place
places_of image [] all f pc = nowhere
places_of image (code ∷ codes) all zero pc = all.0.place pc
places_of image (code ∷ codes) all (suc f) pc = places_of image codes all.1 f pc

are_tabled : (image : ImageParts) (codes : List Code) (all : Each (Tabled image) codes) (f : ℕ) (code : Code) → slice_get codes f ≡ Some code
    → IsTabled image code (places_of image codes all f)
unfolding places_of
are_tabled image [] all f code at = cc
are_tabled image (other ∷ codes) all zero code at =
    let same : other ≡ code = cc in subst (λ c. IsTabled image c all.0.place) same all.0.is_tabled
are_tabled image (other ∷ codes) all (suc f) code at = are_tabled image codes all.1 f code at

pub formed_by_tables : (image : ImageParts) → IsWhole image → ((f : ℕ) (code : Code) → slice_get image.codes f ≡ Some code → Tabled image code)
    → ((f : ℕ) (code : Code) → slice_get image.codes f ≡ Some code → IsCode code)
    → (first : Code) → slice_get image.codes 0 ≡ Some first → IsFormed image
formed_by_tables image image_is all coded first is_first =
    let each = each_from (Tabled image) image.codes all in
    formed_by_places image (places_of image image.codes each) image_is.loops (are_tabled image image.codes each) first is_first image_is coded
