-- Code that isn't formed: each example breaks one rule.
use Rattle.std.proofs.Common.{◌≡◌, inl, inr, ℕ, ◌<◌, pos, List, [], ◌∷◌, map, length, codes, slice_get, true, false}
use Rattle.std.proofs.Common.{Option, Some, None, refl, ap, arith}
use Rattle.px_base.specs.declared.c_types.CType.TheVariants.{Long}
use Rattle.px_base.specs.declared.c_types.Schedule.TheVariants.{Static}
use Rattle.px_regcode.specs.declared.operands.Register.{Register}
use Rattle.px_regcode.specs.declared.operands.RegKind.{RegKind}
use Rattle.px_regcode.specs.declared.operands.RegKind.TheVariants as kind
use Rattle.px_regcode.specs.declared.codes.Code.{Code}
use Rattle.px_regcode.specs.declared.codes.Start.{Start}
use Rattle.px_regcode.specs.declared.codes.Start.TheVariants as start
use Rattle.px_regcode.specs.declared.plans.LoopPlan.{LoopPlan}
use Rattle.px_regcode.specs.declared.instructions.Instr.{Instr}
use Rattle.px_regcode.specs.declared.instructions.Instr.TheVariants as instr
use Rattle.px_regcode.specs.Images.{ImageParts, IsAt}
use Rattle.px_regcode.specs.Effects.{may_fault, writes, empties, gives_whole, gives_object}
use Rattle.px_regcode.specs.Facts.{empty, object, lent, FrameFact, frame_fact, outside, done, successors, frame_after, frame_done, makes}
use Rattle.px_regcode.specs.Facts.{derives, hands_on, FrameMay, RegisterMay}
use Rattle.px_regcode.specs.Paths.{FreePath}
use Rattle.px_regcode.specs.Shapes.{IsShaped, Meets, needs, something}
use Rattle.px_regcode.specs.Formed.{shape, kinds, references, views, order, Keeps, KeepsShape, KeepsKinds, KeepsReferences, KeepsViews}
use Rattle.px_regcode.specs.Formed.{KeepsOrder, StandsIn, IsFormed}

abbrev r : ℕ → Register
r n = record { number = n }

-- a function of so many registers, with a line for each instruction
abbrev code : List RegKind → RegKind → Start → ℕ → List Instr → Code
code params result begins registers instrs = record {
  name = codes "module";
  params = params;
  result = result;
  start = begins;
  registers = registers;
  instrs = instrs;
  lines = map (λ i. 1) instrs;
}

abbrev main : ℕ → List Instr → Code
main registers instrs = code [] kind.Empty start.Held registers instrs

-- module code alone, and with a function
abbrev alone : ℕ → List Instr → ImageParts
alone registers instrs = record { codes = main registers instrs ∷ []; loops = []; constants = [] }

abbrev beside : Code → ImageParts
beside other = record { codes = main 0 (instr.Finish ∷ []) ∷ other ∷ []; loops = []; constants = [] }

abbrev at_entry : FrameFact
at_entry = frame_fact None (pos 0) outside

enters : (image : ImageParts) (f : ℕ) → f < length image.codes → FrameMay image f 0 at_entry
enters image f lt = FrameMay.entry lt

same_code : (a b : Code) → Some a ≡ Some b → a ≡ b
same_code a b is = cc

-- ---- shape

abbrev jumping : ℕ → ImageParts
jumping k = alone 0 (instr.Jump k ∷ [])

jump_outside : IsFormed (jumping 5) → ⊥
unfolding Keeps successors
jump_outside formed =
    let k : KeepsShape (jumping 5) (FrameMay (jumping 5)) (RegisterMay (jumping 5)) 0 0 _ (instr.Jump 5) at_entry =
    formed.rules 0 0 _ _ _ shape refl refl (enters (jumping 5) 0 (omega arith)) in
    absurd (omega (arith, k.followers done 5 (0, omega arith, refl)))

loop_without_turn : IsFormed (jumping 0) → ⊥
unfolding Keeps successors
loop_without_turn formed =
    let here = enters (jumping 0) 0 (omega arith) in
    let k : KeepsShape (jumping 0) (FrameMay (jumping 0)) (RegisterMay (jumping 0)) 0 0 _ (instr.Jump 0) at_entry =
    formed.rules 0 0 _ _ _ shape refl refl here in
    k.no_free_path (FreePath.step {way = done} here (record { code = _; is_code = refl; is_instr = refl }) refl (0, omega arith, refl))

abbrev number_to_finish : Code
number_to_finish = code [] kind.Whole start.Held 0 (instr.Finish ∷ [])

finish_with_result : IsFormed (beside number_to_finish) → ⊥
unfolding Keeps IsShaped
finish_with_result formed =
    let image = beside number_to_finish in
    let k : KeepsShape image (FrameMay image) (RegisterMay image) 1 0 number_to_finish instr.Finish at_entry =
    formed.rules 1 0 _ _ _ shape refl refl (enters image 1 (omega arith)) in
    let is : kind.Whole ≡ kind.Empty = k.shaped in
    cc

abbrev calls : List Instr
calls = instr.Const (r 0) (pos 1) ∷ instr.Call 1 None (r 0 ∷ []) ∷ instr.Finish ∷ []

abbrev calling : ImageParts
calling = record { codes = main 1 calls ∷ main 0 (instr.Finish ∷ []) ∷ []; loops = []; constants = [] }

call_with_an_argument_more : IsFormed calling → ⊥
unfolding Keeps IsShaped successors frame_after frame_done
call_with_an_argument_more formed =
    let at : IsAt calling 0 0 (instr.Const (r 0) (pos 1)) = record { code = main 1 calls; is_code = refl; is_instr = refl } in
    let here : FrameMay calling 0 1 at_entry = FrameMay.follows {way = done} (enters calling 0 (omega arith)) at (0, omega arith, refl) in
    let k : KeepsShape calling (FrameMay calling) (RegisterMay calling) 0 1 (main 1 calls) (instr.Call 1 None (r 0 ∷ [])) at_entry =
    formed.rules 0 1 _ _ _ shape refl refl here in
    let is : main 0 (instr.Finish ∷ []) ≡ k.shaped.code = same_code _ _ k.shaped.is_there in
    absurd (omega (arith, k.shaped.arguments, ap (λ c. length c.params) is))

-- ---- kinds

abbrev moving : List Instr
moving = instr.Move (r 1) (r 0) ∷ instr.Finish ∷ []

read_before_written : IsFormed (alone 2 moving) → ⊥
unfolding Keeps needs Meets
read_before_written formed =
    let k : KeepsKinds (alone 2 moving) (RegisterMay (alone 2 moving)) 0 0 _ (instr.Move (r 1) (r 0)) =
    formed.rules 0 0 _ _ _ kinds refl refl (enters (alone 2 moving) 0 (omega arith)) in
    k.kinds 0 something empty (0, omega arith, refl) (RegisterMay.entry refl (omega arith))

abbrev returning : List Instr
returning = instr.Return (r 0) ∷ []

return_in_module_code : IsFormed (alone 1 returning) → ⊥
unfolding Keeps
return_in_module_code formed =
    let k : KeepsKinds (alone 1 returning) (RegisterMay (alone 1 returning)) 0 0 (main 1 returning) (instr.Return (r 0)) =
    formed.rules 0 0 _ _ _ kinds refl refl (enters (alone 1 returning) 0 (omega arith)) in
    k.given refl

-- ---- references

abbrev boxing : List Instr → List Instr
boxing rest = instr.Const (r 0) (pos 1) ∷ instr.Box Long (r 1) (r 0) ∷ rest

abbrev boxes : List Instr → ImageParts
boxes rest = alone 2 (boxing rest)

behind_const : (rest : List Instr) → FrameMay (boxes rest) 0 1 at_entry
unfolding successors frame_after frame_done
behind_const rest =
    FrameMay.follows {way = done} (enters (boxes rest) 0 (omega arith))
    (record { code = main 2 (boxing rest); is_code = refl; is_instr = refl }) (0, omega arith, refl)

behind_box : (rest : List Instr) → FrameMay (boxes rest) 0 2 at_entry
unfolding successors frame_after frame_done
behind_box rest =
    FrameMay.follows {way = done} (behind_const rest)
    (record { code = main 2 (boxing rest); is_code = refl; is_instr = refl }) (0, omega arith, refl)

boxed : (rest : List Instr) → RegisterMay (boxes rest) 0 2 1 (object false)
unfolding successors makes gives_whole gives_object empties
boxed rest =
    RegisterMay.made {way = done} (behind_const rest)
    (record { code = main 2 (boxing rest); is_code = refl; is_instr = refl }) (0, omega arith, refl) (0, omega arith, refl)

abbrev overwriting : List Instr
overwriting = instr.Const (r 1) (pos 2) ∷ instr.Finish ∷ []

reference_overwritten : IsFormed (boxes overwriting) → ⊥
unfolding Keeps writes
reference_overwritten formed =
    let k : KeepsReferences (boxes overwriting) (RegisterMay (boxes overwriting)) 0 2 (instr.Const (r 1) (pos 2)) at_entry =
    formed.rules 0 2 (main 2 (boxing overwriting)) _ _ references refl refl (behind_box overwriting) in
    let is : true ≡ false = k.kept 1 (object false) (0, omega arith, refl) (boxed overwriting) in
    cc

reference_left : IsFormed (boxes (instr.Finish ∷ [])) → ⊥
unfolding Keeps
reference_left formed =
    let rest = instr.Finish ∷ [] in
    let k : KeepsReferences (boxes rest) (RegisterMay (boxes rest)) 0 2 instr.Finish at_entry =
    formed.rules 0 2 (main 2 (boxing rest)) _ _ references refl refl (behind_box rest) in
    let is : false ≡ true = k.none_left 1 (object false) refl (boxed rest) refl refl in
    cc

-- the text may not fit, and then nobody lets the object go
abbrev printing : List Instr
printing = instr.Print (r 1 ∷ []) ∷ instr.Drop (r 1) ∷ instr.Finish ∷ []

reference_left_by_a_fault : IsFormed (boxes printing) → ⊥
unfolding Keeps may_fault
reference_left_by_a_fault formed =
    let k : KeepsReferences (boxes printing) (RegisterMay (boxes printing)) 0 2 (instr.Print (r 1 ∷ [])) at_entry =
    formed.rules 0 2 (main 2 (boxing printing)) _ _ references refl refl (behind_box printing) in
    let is : false ≡ true = k.none_left 1 (object false) refl (boxed printing) refl refl in
    cc

-- ---- views

abbrev lending : List Instr
lending = instr.Turned (r 1) (r 0) ∷ instr.Release (r 0) ∷ instr.Extent (r 2) (r 1) 0 ∷ instr.Finish ∷ []

abbrev lends : Code
lends = code (kind.View 1 ∷ []) kind.Empty start.Any 3 lending

abbrev lent_out : ImageParts
lent_out = beside lends

at_lending : (pc : ℕ) (i : Instr) → slice_get lending pc ≡ Some i → IsAt lent_out 1 pc i
at_lending pc i is = record { code = lends; is_code = refl; is_instr = is }

behind_turned : FrameMay lent_out 1 1 at_entry
unfolding successors frame_after frame_done
behind_turned = FrameMay.follows {way = done} (enters lent_out 1 (omega arith)) (at_lending 0 _ refl) (0, omega arith, refl)

behind_release : FrameMay lent_out 1 2 at_entry
unfolding successors frame_after frame_done
behind_release = FrameMay.follows {way = done} behind_turned (at_lending 1 _ refl) (0, omega arith, refl)

lent_view : RegisterMay lent_out 1 1 1 (lent 1 0 false)
unfolding successors hands_on derives empties writes
lent_view =
    RegisterMay.handed {way = done} (enters lent_out 1 (omega arith)) (at_lending 0 _ refl) (0, omega arith, refl)
    (RegisterMay.entry {r = 0} {code = lends} refl (omega arith)) (0, omega arith, refl)

lost_view : RegisterMay lent_out 1 2 1 (lent 1 0 true)
unfolding successors hands_on derives empties writes
lost_view = RegisterMay.handed {way = done} behind_turned (at_lending 1 _ refl) (0, omega arith, refl) lent_view (0, omega arith, refl)

view_read_behind_its_release : IsFormed lent_out → ⊥
unfolding Keeps needs
view_read_behind_its_release formed =
    let k : KeepsViews lent_out (RegisterMay lent_out) 1 2 lends (instr.Extent (r 2) (r 1) 0) =
    formed.rules 1 2 lends _ _ views refl refl behind_release in
    k.live 1 1 0 (0, omega arith, refl) lost_view

-- ---- order

abbrev leaving : Code
leaving = code [] kind.Empty start.Any 0 (instr.Leave ∷ instr.Ticket ∷ instr.Enter ∷ instr.Finish ∷ [])

leave_without_hold : IsFormed (beside leaving) → ⊥
unfolding Keeps
leave_without_hold formed =
    let k : KeepsOrder (beside leaving) (FrameMay (beside leaving)) 1 0 leaving instr.Leave at_entry =
    formed.rules 1 0 _ _ _ order refl refl (enters (beside leaving) 1 (omega arith)) in
    elim (k.locked refl) [
      | inl over ↦ absurd (omega (arith, over))
      | inr held ↦ let is : start.Any ≡ start.Held = held.2 in cc
    ]

abbrev entering : Code
entering = main 0 (instr.Enter ∷ instr.Leave ∷ instr.Finish ∷ [])

enter_without_ticket : IsFormed (beside entering) → ⊥
unfolding Keeps
enter_without_ticket formed =
    let k : KeepsOrder (beside entering) (FrameMay (beside entering)) 1 0 entering instr.Enter at_entry =
    formed.rules 1 0 _ _ _ order refl refl (enters (beside entering) 1 (omega arith)) in
    k.begins refl refl

abbrev looking : List Instr
looking = instr.Look ∷ instr.Finish ∷ []

look_outside_of_a_loop : IsFormed (alone 0 looking) → ⊥
unfolding Keeps StandsIn
look_outside_of_a_loop formed =
    let k : KeepsOrder (alone 0 looking) (FrameMay (alone 0 looking)) 0 0 _ instr.Look at_entry =
    formed.rules 0 0 _ _ _ order refl refl (enters (alone 0 looking) 0 (omega arith)) in
    k.stands

-- one path comes with a handler, another one without
abbrev forking : List Instr
forking =
    instr.Const (r 0) (pos 1) ∷ instr.Branch (r 0) 2 3 ∷ instr.Handle 4 ∷ instr.Turn ∷ instr.Finish ∷ []

abbrev forks : ImageParts
forks = alone 1 forking

at_fork : (pc : ℕ) (i : Instr) → slice_get forking pc ≡ Some i → IsAt forks 0 pc i
at_fork pc i is = record { code = main 1 forking; is_code = refl; is_instr = is }

to_branch : FrameMay forks 0 1 at_entry
unfolding successors frame_after frame_done
to_branch = FrameMay.follows {way = done} (enters forks 0 (omega arith)) (at_fork 0 _ refl) (0, omega arith, refl)

without_handler : FrameMay forks 0 3 at_entry
unfolding successors frame_after frame_done
without_handler = FrameMay.follows {way = done} to_branch (at_fork 1 _ refl) (1, omega arith, refl)

with_handler : FrameMay forks 0 3 (frame_fact (Some 4) (pos 0) outside)
unfolding successors frame_after frame_done
with_handler =
    FrameMay.follows {way = done} (FrameMay.follows {way = done} to_branch (at_fork 1 _ refl) (0, omega arith, refl)) (at_fork 2 _ refl)
    (0, omega arith, refl)

two_frame_facts : IsFormed forks → ⊥
unfolding Keeps
two_frame_facts formed =
    let k : KeepsOrder forks (FrameMay forks) 0 3 _ instr.Turn at_entry = formed.rules 0 3 _ _ _ order refl refl without_handler in
    let is : ◌≡◌ {A = Option ℕ} (Some 4) None = ap (λ f. f.handler) (k.one (frame_fact (Some 4) (pos 0) outside) with_handler) in
    cc

-- ---- plans

abbrev outside_plan : LoopPlan
outside_plan = record {
  function = 0;
  start = 5;
  index = Long;
  schedule = Static;
  args = record { first = 0; past = 0; by = 0; team = None; size = None; counter = 0 };
  takes_lock = false;
  depth = Some 0;
  copies = [];
  views = [];
}

abbrev planned : ImageParts
planned = record { codes = main 1 (instr.Finish ∷ []) ∷ []; loops = outside_plan ∷ []; constants = [] }

plan_starts_outside : IsFormed planned → ⊥
plan_starts_outside formed =
    let plan = formed.plans 0 outside_plan refl in
    let is : main 1 (instr.Finish ∷ []) ≡ plan.code = same_code _ _ plan.is_there in
    absurd (omega (arith, plan.start, ap (λ c. length c.instrs) is))

-- ---- form

no_code : IsFormed (record { codes = []; loops = []; constants = [] }) → ⊥
no_code formed = let is : None ≡ Some formed.first = formed.is_first in cc

abbrev without_lines : Code
without_lines = record {
  name = codes "module";
  params = [];
  result = kind.Empty;
  start = start.Held;
  registers = 0;
  instrs = instr.Finish ∷ [];
  lines = [];
}

lines_missing : IsFormed (record { codes = without_lines ∷ []; loops = []; constants = [] }) → ⊥
lines_missing formed = absurd (omega (arith, (formed.functions 0 without_lines refl).lines))
