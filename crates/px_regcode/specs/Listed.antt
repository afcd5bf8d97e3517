-- Tables that are lists, and a test of them: where it passes, code is formed but for what stands in the loops' plans.
use Rattle.std.specs.Prelude.{◌≡◌, ℕ, zero, suc, nat_eq, nat_le, ℤ, pos, negsuc, ◌&&◌, ◌||◌, not, Bool, true, false}
use Rattle.std.specs.Ordering.{int_eq}
use Rattle.std.specs.Prelude.{List, [], ◌∷◌, ◌++◌, length, slice_get, Option, Some, None, is_none, Contains}
use Rattle.px_regcode.specs.declared.operands.Register.{Register}
use Rattle.px_regcode.specs.declared.operands.RegKind.{RegKind}
use Rattle.px_regcode.specs.declared.operands.RegKind.TheVariants as kind
use Rattle.px_regcode.specs.declared.codes.Code.{Code}
use Rattle.px_regcode.specs.declared.codes.Start.{Start}
use Rattle.px_regcode.specs.declared.plans.LoopPlan.{LoopPlan}
use Rattle.px_regcode.specs.declared.instructions.Instr.{Instr}
use Rattle.px_regcode.specs.Images.{ImageParts}
use Rattle.px_regcode.specs.Effects.{reads, writes, empties}
use Rattle.px_regcode.specs.Operands.{takes, targets}
use Rattle.px_regcode.specs.Facts.{State, empty, whole, object, held, lent, fault, Phase, to_look, to_claim, to_begin, in_iteration, Stage}
use Rattle.px_regcode.specs.Facts.{outside, inside}
use Rattle.px_regcode.specs.Facts.{FrameFact, frame_fact, Way, successors, frame_after, first_state, makes, hands_on, numbers_of}
use Rattle.px_regcode.specs.Facts.{plan_writes, acquires}
use Rattle.px_regcode.specs.Paths.{spends, called, is_ticket}
use Rattle.px_regcode.specs.Shapes.{IsShaped, Need, number, reference, reference_or_nothing, view, view_or_nothing, view_of, over}
use Rattle.px_regcode.specs.Shapes.{over_or_nothing, pickable, widenable, a_fault, something, anything, of_kind, arguments_of, plan_of}
use Rattle.px_regcode.specs.Shapes.{all_needs, registers_in}
use Rattle.px_regcode.specs.Formed.{callee, IsGiven, is_owned, stood_there, owning_writes, times, names, may_end, ends_iteration}
use Rattle.px_regcode.specs.Formed.{may_be_left, gets, is_held, asks_lock, is_enter, is_leave, is_between, StandsIn}

-- what a table has of an instruction: its frame fact, if it has one, its register facts, and a number that falls on each path that
-- passes no `turn`, no `call` and no `begin`
pub record Place : Type 0 where
  pub frame : Option FrameFact
  pub registers : List (ℕ × State)
  pub rank : ℕ

abbrev pub place_in : List Place → ℕ → Place
place_in [] pc = record { frame = None; registers = []; rank = 0 }
place_in (p ∷ ps) zero = p
place_in (p ∷ ps) (suc pc) = place_in ps pc

abbrev pub places_of : List (List Place) → ℕ → List Place
places_of [] f = []
places_of (ps ∷ table) zero = ps
places_of (ps ∷ table) (suc f) = places_of table f

-- the place of an instruction of a function
abbrev pub place_at : List (List Place) → ℕ → ℕ → Place
place_at table f pc = place_in (places_of table f) pc

-- the table, as it is asked for
abbrev pub frames_of : List (List Place) → ℕ → ℕ → FrameFact → Type 0
frames_of table f pc fact = (place_at table f pc).frame ≡ Some fact

abbrev pub registers_of : List (List Place) → ℕ → ℕ → ℕ → State → Type 0
registers_of table f pc r s = Contains (place_at table f pc).registers (r, s)

-- ---- equal facts

abbrev pub same_flag : Bool → Bool → Bool
same_flag true b = b
same_flag false b = not b

unfoldable pub same_state : State → State → Bool
same_state empty empty = true
same_state whole whole = true
same_state (object a) (object b) = same_flag a b
same_state (held n a) (held m b) = nat_eq n m && same_flag a b
same_state (lent n r a) (lent m q b) = nat_eq n m && nat_eq r q && same_flag a b
same_state fault fault = true
same_state s t = false

abbrev pub same_target : Option ℕ → Option ℕ → Bool
same_target None None = true
same_target (Some k) (Some j) = nat_eq k j
same_target k j = false

abbrev pub same_phase : Phase → Phase → Bool
same_phase to_look to_look = true
same_phase to_claim to_claim = true
same_phase to_begin to_begin = true
same_phase in_iteration in_iteration = true
same_phase p q = false

abbrev pub same_stage : Stage → Stage → Bool
same_stage outside outside = true
same_stage (inside n p) (inside m q) = nat_eq n m && same_phase p q
same_stage a b = false

unfoldable pub same_fact : FrameFact → FrameFact → Bool
same_fact a b = same_target a.handler b.handler && int_eq a.count b.count && same_stage a.stage b.stage

abbrev pub is_fact : Option FrameFact → FrameFact → Bool
is_fact None fact = false
is_fact (Some other) fact = same_fact other fact

-- ---- tests of lists

abbrev pub every : {X : Type 0} → (X → Bool) → List X → Bool
every test [] = true
every test (x ∷ xs) = test x && every test xs

abbrev pub all_true : List Bool → Bool
all_true [] = true
all_true (b ∷ bs) = b && all_true bs

-- each element, with its place from a number on
abbrev pub every_from : {X : Type 0} → ℕ → (ℕ → X → Bool) → List X → Bool
every_from n test [] = true
every_from n test (x ∷ xs) = test n x && every_from (suc n) test xs

abbrev pub every_below : ℕ → (ℕ → Bool) → Bool
every_below zero test = true
every_below (suc n) test = test n && every_below n test

abbrev pub has_fact : List (ℕ × State) → ℕ × State → Bool
has_fact [] q = false
has_fact (p ∷ ps) q = (nat_eq p.0 q.0 && same_state p.1 q.1) || has_fact ps q

-- a test of each fact of one of these registers
abbrev pub every_of : List ℕ → List (ℕ × State) → (ℕ → State → Bool) → Bool
every_of rs facts test = every (λ r. every (λ q. not (nat_eq r q.0) || test r q.1) facts) rs

-- ---- closed tables

-- what a done, left or faulting instruction hands on is in the table where it leads
abbrev pub hands_all : ImageParts → List (List Place) → ℕ → ℕ → Instr → FrameFact → Way × ℕ → Bool
hands_all image table f pc i fact next =
    is_fact (place_at table f next.1).frame (frame_after i next.0 fact)
    && every (λ q. has_fact (place_at table f next.1).registers q) (makes image fact.stage i next.0)
    && every (λ p. every (λ q. has_fact (place_at table f next.1).registers q) (hands_on image fact.stage i next.0 p.0 p.1))
    (place_at table f pc).registers

abbrev pub is_closed_at : ImageParts → List (List Place) → ℕ → ℕ → Instr → Option FrameFact → Bool
is_closed_at image table f pc i None = true
is_closed_at image table f pc i (Some fact) = every (λ next. hands_all image table f pc i fact next) (successors image pc i fact)

abbrev pub is_closed_code : ImageParts → List (List Place) → ℕ → Code → Bool
is_closed_code image table f code =
    is_fact (place_at table f 0).frame (frame_fact None (pos 0) outside)
    && every_below code.registers (λ r. has_fact (place_at table f 0).registers (r, first_state (slice_get code.params r)))
    && every_from 0 (λ pc i. is_closed_at image table f pc i (place_at table f pc).frame) code.instrs

unfoldable pub is_closed : ImageParts → List (List Place) → Bool
is_closed image table = every_from 0 (λ f code. is_closed_code image table f code) image.codes

-- ---- tests of the rules

unfoldable pub is_of_kind : State → RegKind → Bool
is_of_kind whole kind.Whole = true
is_of_kind (object stood) kind.Object = true
is_of_kind (held rank stood) (kind.View n) = nat_eq rank n
is_of_kind (lent rank from gone) (kind.View n) = nat_eq rank n
is_of_kind empty kind.Empty = true
is_of_kind fault kind.Fault = true
is_of_kind s k = false

unfoldable pub meets : State → Need → Bool
meets whole number = true
meets (object stood) reference = true
meets (object stood) reference_or_nothing = true
meets empty reference_or_nothing = true
meets (held rank stood) view = true
meets (lent rank from gone) view = true
meets (held rank stood) view_or_nothing = true
meets (lent rank from gone) view_or_nothing = true
meets empty view_or_nothing = true
meets (held rank stood) (view_of n) = nat_eq rank n
meets (lent rank from gone) (view_of n) = nat_eq rank n
meets (held rank stood) (over n) = nat_le (suc n) rank
meets (lent rank from gone) (over n) = nat_le (suc n) rank
meets (held rank stood) (over_or_nothing n) = nat_le (suc n) rank
meets (lent rank from gone) (over_or_nothing n) = nat_le (suc n) rank
meets empty (over_or_nothing n) = true
meets (held rank stood) (pickable n) = nat_le 2 rank && nat_le (suc n) rank
meets (lent rank from gone) (pickable n) = nat_le 2 rank && nat_le (suc n) rank
meets (held rank stood) (widenable n) = nat_le (suc rank) 3 && nat_le n rank
meets (lent rank from gone) (widenable n) = nat_le (suc rank) 3 && nat_le n rank
meets fault a_fault = true
meets empty something = false
meets s something = true
meets s anything = true
meets s (of_kind k) = is_of_kind s k
meets s need = false

-- the arguments of a call have the kinds of the parameters
abbrev pub arguments_fit : List Register → List RegKind → List (ℕ × State) → Bool
arguments_fit [] ks facts = true
arguments_fit (a ∷ args) [] facts = true
arguments_fit (a ∷ args) (k ∷ ks) facts =
    every (λ q. not (nat_eq a.number q.0) || is_of_kind q.1 k) facts && arguments_fit args ks facts

abbrev pub params_of : Option Code → List RegKind
params_of None = []
params_of (Some code) = code.params

abbrev pub is_own : ℕ → Option LoopPlan → Bool
is_own f None = true
is_own f (Some plan) = nat_eq plan.function f

abbrev pub shape_tests : ImageParts → List (List Place) → ℕ → ℕ → Code → Instr → FrameFact → List Bool
shape_tests image table f pc code i fact =
    every (λ r. nat_le (suc r) code.registers) (numbers_of (reads i ++ writes i ++ empties i))
    ∷ every (λ p. nat_le (suc p.1) (length code.instrs)) (successors image pc i fact)
    ∷ every (λ k. nat_le (suc k) (length code.instrs)) (targets i)
    ∷ arguments_fit (arguments_of i) (params_of (callee image i)) (place_at table f pc).registers
    ∷ (spends i || every (λ p. nat_le (suc (place_at table f p.1).rank) (place_at table f pc).rank) (successors image pc i fact))
    ∷ is_own f (plan_of image i) ∷ []

abbrev pub keeps_shape : ImageParts → List (List Place) → ℕ → ℕ → Code → Instr → FrameFact → Bool
keeps_shape image table f pc code i fact = all_true (shape_tests image table f pc code i fact)

abbrev pub keeps_kinds : ImageParts → List (ℕ × State) → Code → Instr → Bool
keeps_kinds image facts code i =
    every (λ asked. every (λ q. not (nat_eq asked.0 q.0) || meets q.1 asked.1) facts) (all_needs image code.result i)

abbrev pub references_tests : ImageParts → List (ℕ × State) → Instr → FrameFact → List Bool
references_tests image facts i fact =
    every_of (numbers_of (writes i) ++ plan_writes image fact.stage i) facts (λ r s. not (is_owned s))
    ∷ every_of (numbers_of (takes i)) facts (λ r s. not (is_owned s) || nat_eq (times r (names i)) 1)
    ∷ every (λ r. nat_eq (times r (names i)) 1) (owning_writes image i)
    ∷ (not (may_end i fact) || every (λ q. not (may_be_left i q.0 q.1) || not (is_owned q.1) || stood_there q.1) facts)
    ∷ (not (ends_iteration i) || every (λ q. not (is_owned q.1) || stood_there q.1) facts)
    ∷ every_of (numbers_of (takes i) ++ acquires i) facts (λ r s. not (stood_there s)) ∷ []

abbrev pub keeps_references : ImageParts → List (ℕ × State) → Instr → FrameFact → Bool
keeps_references image facts i fact = all_true (references_tests image facts i fact)

abbrev pub is_lent : State → Bool
is_lent (lent rank from gone) = true
is_lent s = false

abbrev pub is_held_view : State → Bool
is_held_view (held rank stood) = true
is_held_view s = false

abbrev pub is_lost : State → Bool
is_lost (lent rank from gone) = gone
is_lost s = false

abbrev pub views_tests : ImageParts → List (ℕ × State) → Code → Instr → List Bool
views_tests image facts code i =
    every_of (gets i) facts (λ r s. not (is_lent s))
    ∷ every_of (acquires i) facts (λ r s. not (is_held_view s))
    ∷ every_of (registers_in (all_needs image code.result i)) facts (λ r s. not (is_lost s)) ∷ []

abbrev pub keeps_views : ImageParts → List (ℕ × State) → Code → Instr → Bool
keeps_views image facts code i = all_true (views_tests image facts code i)

abbrev pub is_over : ℤ → Bool
is_over (pos zero) = false
is_over (pos (suc n)) = true
is_over (negsuc n) = false

abbrev pub is_outside : Stage → Bool
is_outside outside = true
is_outside (inside n phase) = false

abbrev pub holds : Start → FrameFact → Bool
holds s fact = is_over fact.count || (int_eq fact.count (pos 0) && is_outside fact.stage && is_held s)

abbrev pub is_enter_in : Option Instr → Bool
is_enter_in None = false
is_enter_in (Some i) = is_enter i

-- an `enter` that isn't behind a `ticket` is found where it is led to; a call in the code of a loop doesn't pass this test
abbrev pub order_tests : ImageParts → ℕ → Code → Instr → FrameFact → List Bool
order_tests image pc code i fact =
    (not (asks_lock image i) || holds code.start fact)
    ∷ every (λ p. same_flag (is_ticket i) (is_enter_in (slice_get code.instrs p.1))) (successors image pc i fact)
    ∷ not (is_enter i && nat_eq pc 0)
    ∷ (not (may_end i fact) || int_eq fact.count (pos 0))
    ∷ (not (is_between i) || int_eq fact.count (pos 0))
    ∷ not (is_enter i && int_eq fact.count (pos 64))
    ∷ not (is_leave i && int_eq fact.count (negsuc 0))
    ∷ (is_none (called i) || is_outside fact.stage) ∷ []

abbrev pub keeps_order : ImageParts → ℕ → Code → Instr → FrameFact → Bool
keeps_order image pc code i fact = all_true (order_tests image pc code i fact)

abbrev pub rule_tests : ImageParts → List (List Place) → ℕ → ℕ → Code → Instr → FrameFact → List Bool
rule_tests image table f pc code i fact =
    keeps_shape image table f pc code i fact
    ∷ keeps_kinds image (place_at table f pc).registers code i
    ∷ keeps_references image (place_at table f pc).registers i fact
    ∷ keeps_views image (place_at table f pc).registers code i
    ∷ keeps_order image pc code i fact ∷ []

abbrev pub keeps_all : ImageParts → List (List Place) → ℕ → ℕ → Code → Instr → Option FrameFact → Bool
keeps_all image table f pc code i None = true
keeps_all image table f pc code i (Some fact) = all_true (rule_tests image table f pc code i fact)

unfoldable pub keeps_rules : ImageParts → List (List Place) → Bool
keeps_rules image table =
    every_from 0 (λ f code. every_from 0 (λ pc i. keeps_all image table f pc code i (place_at table f pc).frame) code.instrs) image.codes

-- ---- what is said of each instruction beside

abbrev pub IsStated : ImageParts → Code → Instr → Option FrameFact → Type 0
IsStated image code i None = Unit {0}
IsStated image code i (Some fact) = IsShaped image code i × IsGiven code.result i × StandsIn i fact.stage

abbrev pub AreStated : ImageParts → Code → List Place → ℕ → List Instr → Type 0
AreStated image code places pc [] = Unit {0}
AreStated image code places pc (i ∷ is) = IsStated image code i (place_in places pc).frame × AreStated image code places (suc pc) is

-- the functions from one on
abbrev pub AllStated : ImageParts → List (List Place) → ℕ → List Code → Type 0
AllStated image table f [] = Unit {0}
AllStated image table f (code ∷ codes) = AreStated image code (places_of table f) 0 code.instrs × AllStated image table (suc f) codes
