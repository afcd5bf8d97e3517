-- Code with a parallel loop that is formed, and a test of the code of a loop that calls nothing and takes no lock.
use Rattle.std.proofs.Common.{◌≡◌, ◌≢◌, inl, ℕ, zero, suc, ◌<◌, ◌≤◌, pos, negsuc, Bool, true, false, not, ◌&&◌, ◌||◌, List, [], ◌∷◌}
use Rattle.std.proofs.Common.{slice_get}
use Rattle.std.proofs.Common.{codes, Option, Some, None, is_none, refl, ap, subst, arith}
use Rattle.px_base.specs.declared.c_types.BinOp.{BinOp}
use Rattle.px_base.specs.declared.c_types.BinOp.TheVariants as op
use Rattle.px_base.specs.declared.c_types.CType.TheVariants.{Long, Bint}
use Rattle.px_base.specs.declared.c_types.Schedule.TheVariants.{Static}
use Rattle.px_regcode.specs.declared.operands.Register.{Register}
use Rattle.px_regcode.specs.declared.operands.RegKind.TheVariants as kind
use Rattle.px_regcode.specs.declared.codes.Code.{Code}
use Rattle.px_regcode.specs.declared.codes.Start.TheVariants as start
use Rattle.px_regcode.specs.declared.plans.LoopPlan.{LoopPlan}
use Rattle.px_regcode.specs.declared.plans.PlanCopy.{PlanCopy}
use Rattle.px_regcode.specs.declared.plans.Role.TheVariants as role
use Rattle.px_regcode.specs.declared.instructions.Instr.{Instr}
use Rattle.px_regcode.specs.declared.instructions.Instr.TheVariants as instr
use Rattle.px_regcode.specs.Images.{ImageParts, IsAt}
use Rattle.px_regcode.specs.Effects.{is_object, may_fault, reads, writes, gives_whole, gives_object, empties}
use Rattle.px_regcode.specs.Operands.{targets, takes}
use Rattle.px_regcode.specs.Facts.{State, empty, whole, FrameFact, frame_fact, outside, inside, Phase, to_look, to_claim, to_begin}
use Rattle.px_regcode.specs.Facts.{in_iteration, successors, frame_done, frame_after, makes, derives, hands_on}
use Rattle.px_regcode.specs.Shapes.{IsShaped, IsReducing, needs}
use Rattle.px_regcode.specs.Paths.{is_ticket, called}
use Rattle.px_regcode.specs.Plans.{IsPlan, BodyMay, BodyReaches, BodyCalls, IsDepth}
use Rattle.px_regcode.specs.Formed.{IsFormed, IsKind, StandsIn, owning_writes}
use Rattle.px_regcode.specs.Listed.{Place, place_in, every, every_from, is_fact, is_closed, keeps_rules, AllStated, same_state, same_fact}
use Rattle.px_regcode.specs.Listed.{is_of_kind, meets}
use Rattle.px_regcode.proofs.Tests.{both, neither, contrary, false_of, each_in, every_in, every_at, fact_is}
use Rattle.px_regcode.proofs.FormedCode.{formed_by_test}

-- ---- the code of a loop by a list of its places

abbrev pub is_calling : Instr → Bool
is_calling i = not (is_none (called i))

-- it begins as the loop does, has what its instructions lead to, and has no instruction of a sort

abbrev pub goes_on : ImageParts → List Place → (Instr → Bool) → ℕ → Instr → Option FrameFact → Bool
goes_on image places such pc i None = true
goes_on image places such pc i (Some fact) =
    every (λ next. is_fact (place_in places next.1).frame (frame_after i next.0 fact)) (successors image pc i fact) && not (such i)

unfoldable pub is_free_of : (Instr → Bool) → ImageParts → List Place → ℕ → LoopPlan → Code → Bool
is_free_of such image places n plan code =
    is_fact (place_in places plan.start).frame (frame_fact None (pos 0) (inside n to_look))
    && every_from 0 (λ pc i. goes_on image places such pc i (place_in places pc).frame) code.instrs

module _
    (such : Instr → Bool) (image : ImageParts) (places : List Place) (n : ℕ) (plan : LoopPlan) (code : Code)
    (there : slice_get image.codes plan.function ≡ Some code) (free : is_free_of such image places n plan code ≡ true) where
  places_on : (pc : ℕ) (i : Instr) (fact : FrameFact) → IsAt image plan.function pc i → (place_in places pc).frame ≡ Some fact
      → goes_on image places such pc i (Some fact) ≡ true
  unfolding is_free_of
  places_on pc i fact at may =
      let same : at.code ≡ code = cc in
      let is : slice_get code.instrs pc ≡ Some i = subst (λ c. slice_get c.instrs pc ≡ Some i) same at.is_instr in
      let one = every_at (λ pc i. goes_on image places such pc i (place_in places pc).frame) code.instrs (both _ _ free).1 pc i is in
      subst (λ o. goes_on image places such pc i o ≡ true) may one

  has_places : (pc : ℕ) (fact : FrameFact) → BodyMay image n plan pc fact → (place_in places pc).frame ≡ Some fact
  unfolding is_free_of
  has_places pc fact BodyMay.entry = fact_is _ _ (both _ _ free).0
  has_places to fact (BodyMay.follows {pc} {i} {way} {fact = was} before at next) =
      let here = places_on pc i was at (has_places pc was before) in
      fact_is _ _ (every_in (λ next. is_fact (place_in places next.1).frame (frame_after i next.0 was)) _ (both _ _ here).0 (way, to) next)

  stays_free : (pc : ℕ) (i : Instr) (fact : FrameFact) → BodyMay image n plan pc fact → IsAt image plan.function pc i → such i ≡ false
  stays_free pc i fact may at = false_of (such i) (both _ _ (places_on pc i fact at (has_places pc fact may))).1

  module _ (calls : (i : Instr) → such i ≡ false → is_calling i ≡ false) where
    calls_nothing : (pc g : ℕ) (i : Instr) (fact : FrameFact) → BodyMay image n plan pc fact → IsAt image plan.function pc i
        → called i ≡ Some g → ⊥
    calls_nothing pc g i fact may at is = no_call (called i) g (calls i (stays_free pc i fact may at)) is
      where
        no_call : (o : Option ℕ) (g : ℕ) → not (is_none o) ≡ false → o ≡ Some g → ⊥
        no_call None g none is = cc
        no_call (Some h) g none is = cc

    pub opens_no_frame : IsDepth image n plan (Some 0)
    opens_no_frame = ((λ g k in_body opens. none g in_body), inl refl)
      where
        none : {k : ℕ} (g : ℕ) → BodyCalls image n plan g → k ≤ 0
        none g (BodyCalls.at {pc} {i} {fact} may at is) = absurd (calls_nothing pc g i fact may at is)

    pub takes_no_lock : ((i : Instr) → such i ≡ false → is_ticket i ≡ false) → BodyReaches image n plan is_ticket → ⊥
    takes_no_lock tickets (BodyReaches.itself {pc} {i} {fact} may at ticket) =
        contrary (is_ticket i) ticket (tickets i (stays_free pc i fact may at))
    takes_no_lock tickets (BodyReaches.by_call {pc} {g} {i} {fact} may at is below) = absurd (calls_nothing pc g i fact may at is)

-- ---- an image with a parallel loop that adds its indices

abbrev r : ℕ → Register
r n = record { number = n }

abbrev adding : List Instr
adding =
    instr.Const (r 0) (pos 0) ∷ instr.Const (r 1) (pos 10) ∷ instr.Const (r 2) (pos 1) ∷ instr.Const (r 3) (pos 0) ∷ instr.Const (r 4)
    (pos 0)
    ∷ instr.Handle 17 ∷ instr.Leave ∷ instr.Loop 0 None 8 ∷ instr.Ticket ∷ instr.Enter ∷ instr.Unhandle ∷ instr.Finish
    ∷ instr.Look ∷ instr.Claim ∷ instr.Begin ∷ instr.Reduce op.Add Long (r 4) (r 3) ∷ instr.End
    ∷ instr.Ticket ∷ instr.Enter ∷ instr.Throw ∷ []

abbrev adding_code : Code
adding_code = record {
  name = codes "module";
  params = [];
  result = kind.Empty;
  start = start.Held;
  registers = 5;
  instrs = adding;
  lines = 1 ∷ 1 ∷ 1 ∷ 1 ∷ 1 ∷ 1 ∷ 1 ∷ 1 ∷ 1 ∷ 1 ∷ 1 ∷ 1 ∷ 1 ∷ 1 ∷ 1 ∷ 1 ∷ 1 ∷ 1 ∷ 1 ∷ 1 ∷ [];
}

abbrev sum_copy : PlanCopy
sum_copy = record { register = 4; ctype = Long; role = role.Reduction op.Add }

abbrev adding_plan : LoopPlan
adding_plan = record {
  function = 0;
  start = 12;
  index = Long;
  schedule = Static;
  args = record { first = 0; past = 1; by = 2; team = None; size = None; counter = 3 };
  takes_lock = false;
  depth = Some 0;
  copies = sum_copy ∷ [];
  views = [];
}

abbrev adding_image : ImageParts
adding_image = record { codes = adding_code ∷ []; loops = adding_plan ∷ []; constants = [] }

abbrev numbers : State → State → State → State → State → List (ℕ × State)
numbers a b c d e = (0, a) ∷ (1, b) ∷ (2, c) ∷ (3, d) ∷ (4, e) ∷ []

abbrev with_all : FrameFact → ℕ → Place
with_all fact rank = record { frame = Some fact; registers = numbers whole whole whole whole whole; rank = rank }

abbrev at_entry : List (ℕ × State) → ℕ → Place
at_entry registers rank = record { frame = Some (frame_fact None (pos 0) outside); registers = registers; rank = rank }

abbrev in_loop : Phase → ℕ → Place
in_loop phase rank = with_all (frame_fact None (pos 0) (inside 0 phase)) rank

abbrev loop_places : List Place
loop_places =
    in_loop to_look 3 ∷ in_loop to_claim 2 ∷ in_loop to_begin 1 ∷ in_loop in_iteration 5 ∷ in_loop in_iteration 4 ∷ []

abbrev free : Option ℕ → Place
free handler = with_all (frame_fact handler (negsuc 0) outside) 0

abbrev adding_table : List (List Place)
adding_table =
    (at_entry (numbers empty empty empty empty empty) 12 ∷ at_entry (numbers whole empty empty empty empty) 11
    ∷ at_entry (numbers whole whole empty empty empty) 10 ∷ at_entry (numbers whole whole whole empty empty) 9
    ∷ at_entry (numbers whole whole whole whole empty) 8 ∷ at_entry (numbers whole whole whole whole whole) 7
    ∷ with_all (frame_fact (Some 17) (pos 0) outside) 6 ∷ with_all (frame_fact (Some 17) (negsuc 0) outside) 5
    ∷ with_all (frame_fact (Some 17) (negsuc 0) outside) 4 ∷ with_all (frame_fact (Some 17) (negsuc 0) outside) 3
    ∷ with_all (frame_fact (Some 17) (pos 0) outside) 2 ∷ with_all (frame_fact None (pos 0) outside) 1
    ∷ in_loop to_look 3 ∷ in_loop to_claim 2 ∷ in_loop to_begin 1 ∷ in_loop in_iteration 5 ∷ in_loop in_iteration 4
    ∷ with_all (frame_fact None (negsuc 0) outside) 3 ∷ with_all (frame_fact None (negsuc 0) outside) 2
    ∷ with_all (frame_fact None (pos 0) outside) 1 ∷ []) ∷ []

-- the places of the loop's code alone
abbrev nowhere : Place
nowhere = record { frame = None; registers = []; rank = 0 }

abbrev body_places : List Place
body_places =
    nowhere ∷ nowhere ∷ nowhere ∷ nowhere ∷ nowhere ∷ nowhere ∷ nowhere ∷ nowhere ∷ nowhere ∷ nowhere ∷ nowhere ∷ nowhere ∷ loop_places

adding_closed : is_closed adding_image adding_table ≡ true
unfolding is_closed successors same_fact same_state frame_after frame_done may_fault writes gives_whole gives_object empties makes derives
    hands_on
adding_closed = refl

adding_kept : keeps_rules adding_image adding_table ≡ true
unfolding keeps_rules reads writes empties takes targets successors may_fault is_object needs owning_writes gives_object is_of_kind meets
adding_kept = refl

abbrev asks : Instr → Bool
asks i = is_ticket i || is_calling i

adding_free : is_free_of asks adding_image body_places 0 adding_plan adding_code ≡ true
unfolding is_free_of successors same_fact frame_after frame_done may_fault
adding_free = refl

asks_call : (i : Instr) → asks i ≡ false → is_calling i ≡ false
asks_call i is = (neither (is_ticket i) (is_calling i) is).1

asks_ticket : (i : Instr) → asks i ≡ false → is_ticket i ≡ false
asks_ticket i is = (neither (is_ticket i) (is_calling i) is).0

adding_is_plan : IsPlan adding_image 0 adding_plan
adding_is_plan = record {
  code = adding_code;
  is_there = refl;
  start = omega arith;
  registers = λ r named. each_in (λ r. r < 5) (0 ∷ 1 ∷ 2 ∷ 3 ∷ 4 ∷ [])
      (omega arith, (omega arith, (omega arith, (omega arith, (omega arith, tt))))) r named;
  reductions = λ copy o named is. reduced copy o is (each_in (λ c. sum_copy ≡ c) (sum_copy ∷ []) (refl, tt) copy named);
  lock = (
    (λ is. cc),
    λ reaches. absurd (takes_no_lock asks adding_image body_places 0 adding_plan adding_code refl adding_free asks_call asks_ticket
        reaches),
  );
  depth = opens_no_frame asks adding_image body_places 0 adding_plan adding_code refl adding_free asks_call;
}
  where
    reduced : (copy : PlanCopy) (o : BinOp) → copy.role ≡ role.Reduction o → sum_copy ≡ copy → (copy.ctype ≢ Bint) × IsReducing o
    reduced copy o is same =
        let ctype : Long ≡ copy.ctype = ap (λ c. c.ctype) same in
        let which : op.Add ≡ o = cc in
        ((λ bint. cc), subst IsReducing which tt)

adding_stated : AllStated adding_image adding_table 0 adding_image.codes
unfolding IsShaped StandsIn
adding_stated =
    let plain : Unit {0} × Unit {0} × Unit {0} = (tt, tt, tt) in (
      (
        ((record { le = tt }, record { le = tt }), tt, tt),
        (
          ((record { le = tt }, record { le = tt }), tt, tt),
          (
            ((record { le = tt }, record { le = tt }), tt, tt),
            (
              ((record { le = tt }, record { le = tt }), tt, tt),
              (
                ((record { le = tt }, record { le = tt }), tt, tt),
                (
                  plain,
                  (
                    plain,
                    (
                      ((omega arith, tt), tt, tt),
                      (
                        plain,
                        (
                          plain,
                          (
                            plain,
                            (
                              (refl, tt, tt),
                              (plain, (plain, (plain, ((((λ is. cc), tt), tt, tt), (plain, (plain, (plain, (plain, tt)))))))),
                            ),
                          ),
                        ),
                      ),
                    ),
                  ),
                ),
              ),
            ),
          ),
        ),
      ),
      tt,
    )

pub loop_code_is_formed : IsFormed adding_image
loop_code_is_formed =
    formed_by_test adding_code [] adding_image adding_table refl adding_closed adding_kept adding_stated
    (record { name = refl; start = refl; result = refl; params = refl }) tt (
      record {
        some = omega arith;
        lines = refl;
        room = omega arith;
        kinds = λ k named. each_in IsKind (kind.Empty ∷ []) (tt, tt) k named;
      },
      tt,
    )
    plans
  where
    plans : (n : ℕ) (plan : LoopPlan) → slice_get (adding_plan ∷ []) n ≡ Some plan → IsPlan adding_image n plan
    plans zero plan at = let same : adding_plan ≡ plan = cc in subst (λ p. IsPlan adding_image 0 p) same adding_is_plan
    plans (suc n) plan at = cc
