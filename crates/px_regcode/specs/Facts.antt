-- The facts of instructions: what may hold of a frame, and of each of its registers, where an instruction stands. They are the least
-- relations that the entry of a function begins and each instruction hands on to those that may follow it.
use Rattle.std.specs.Prelude.{◌≡◌, ℕ, zero, suc, ◌+◌, ◌<◌, nat_eq, ℤ, pos, negsuc, ◌+ℤ◌, int_le, ◌&&◌, ◌||◌, if◌then◌else◌, Bool, true}
use Rattle.std.specs.Prelude.{false}
use Rattle.std.specs.Prelude.{List, [], ◌∷◌, ◌++◌, map, length, slice_get, Option, Some, None, Contains}
use Rattle.px_regcode.specs.declared.operands.Register.{Register}
use Rattle.px_regcode.specs.declared.operands.RegKind.{RegKind}
use Rattle.px_regcode.specs.declared.operands.RegKind.TheVariants as kind
use Rattle.px_regcode.specs.declared.codes.Code.{Code}
use Rattle.px_regcode.specs.declared.plans.LoopPlan.{LoopPlan}
use Rattle.px_regcode.specs.declared.instructions.Instr.{Instr}
use Rattle.px_regcode.specs.declared.instructions.Instr.TheVariants as instr
use Rattle.px_regcode.specs.Images.{ImageParts, IsAt}
use Rattle.px_regcode.specs.Effects.{may_fault, writes, gives_whole, gives_object, empties}

-- What a register holds. In the code of a parallel loop the flag of a reference and of a view that holds its buffer says whether this
-- value stood there at the `loop`; elsewhere it is false. A lent view goes back to a register that holds a view; its flag says whether
-- that one was emptied since.
pub data State : Type 0 where
  empty : State
  whole : State
  object : Bool → State
  held : ℕ → Bool → State
  lent : ℕ → ℕ → Bool → State
  fault : State

-- how far the code of a parallel loop has come on its way to an iteration: which instruction comes next, or that one is open
pub data Phase : Type 0 where
  to_look : Phase
  to_claim : Phase
  to_begin : Phase
  in_iteration : Phase

-- whether an instruction stands in the code of a parallel loop, by the number of the loop
pub data Stage : Type 0 where
  outside : Stage
  inside : ℕ → Phase → Stage

-- what holds of a frame: where its faults go, how often it took the lock more than it gave it back, and its stage
pub record FrameFact : Type 0 where
  pub handler : Option ℕ
  pub count : ℤ
  pub stage : Stage

abbrev pub frame_fact : Option ℕ → ℤ → Stage → FrameFact
frame_fact handler count stage = record { handler = handler; count = count; stage = stage }

-- How an instruction is left: done; at its other target (`next` where there is no item, `loop` behind a `return`); into the code of a
-- parallel loop; or by a fault.
pub data Way : Type 0 where
  done : Way
  aside : Way
  into : Way
  faulted : Way

-- ---- where instructions lead

abbrev pub at_handler : Option ℕ → List (Way × ℕ)
at_handler None = []
at_handler (Some k) = (faulted, k) ∷ []

abbrev pub if_faulting : Bool → Option ℕ → List (Way × ℕ)
if_faulting false h = []
if_faulting true h = at_handler h

abbrev pub start_of : Way → Option LoopPlan → List (Way × ℕ)
start_of way None = []
start_of way (Some plan) = (way, plan.start) ∷ []

abbrev pub back_to_start : List LoopPlan → Stage → List (Way × ℕ)
back_to_start loops outside = []
back_to_start loops (inside n phase) = start_of done (slice_get loops n)

-- The instructions that may follow, each with the way to it; none follows where the frame, the iteration or the member ends. Those that
-- aren't named go on behind themselves, and by a fault where they may raise one.
unfoldable pub successors : ImageParts → ℕ → Instr → FrameFact → List (Way × ℕ)
successors image pc (instr.Jump k) f = (done, k) ∷ []
successors image pc (instr.Branch a k j) f = (done, k) ∷ (done, j) ∷ []
successors image pc (instr.Takes a kinds k) f = (done, pc + 1) ∷ (done, k) ∷ []
successors image pc (instr.Return a) f = []
successors image pc instr.Finish f = []
successors image pc instr.Throw f = []
successors image pc (instr.Loop n d k) f =
    (done, pc + 1) ∷ (aside, k) ∷ start_of into (slice_get image.loops n) ++ at_handler f.handler
successors image pc instr.End f = back_to_start image.loops f.stage
successors image pc (instr.Stop kind a) f = []
successors image pc (instr.Raise kind a) f = at_handler f.handler
successors image pc (instr.Rethrow a) f = at_handler f.handler
successors image pc (instr.Next d a x k) f = (done, pc + 1) ∷ (aside, k) ∷ at_handler f.handler
successors image pc i f = (done, pc + 1) ∷ if_faulting (may_fault i) f.handler

-- ---- what holds of the frame then

-- one hold of the lock more or less; a count that would leave -1 to 64 stays as it is
abbrev pub in_count : ℤ → ℤ → ℤ
in_count old new = if int_le (negsuc 0) new && int_le new (pos 64) then new else old

abbrev pub in_phase : Phase → Stage → Stage
in_phase phase outside = outside
in_phase phase (inside n was) = inside n phase

-- behind an instruction that is done
unfoldable pub frame_done : Instr → FrameFact → FrameFact
frame_done (instr.Handle k) f = frame_fact (Some k) f.count f.stage
frame_done instr.Unhandle f = frame_fact None f.count f.stage
frame_done instr.Enter f = frame_fact f.handler (in_count f.count (f.count +ℤ pos 1)) f.stage
frame_done instr.Leave f = frame_fact f.handler (in_count f.count (f.count +ℤ negsuc 0)) f.stage
frame_done instr.Look f = frame_fact f.handler f.count (in_phase to_claim f.stage)
frame_done instr.Claim f = frame_fact f.handler f.count (in_phase to_begin f.stage)
frame_done instr.Begin f = frame_fact f.handler f.count (in_phase in_iteration f.stage)
frame_done instr.End f = frame_fact f.handler f.count (in_phase to_look f.stage)
frame_done i f = f

abbrev pub loop_stage : Instr → Stage
loop_stage (instr.Loop n d k) = inside n to_look
loop_stage i = outside

unfoldable pub frame_after : Instr → Way → FrameFact → FrameFact
frame_after i done f = frame_done i f
frame_after i aside f = f
frame_after i into f = frame_fact None (pos 0) (loop_stage i)
frame_after i faulted f = frame_fact None f.count f.stage

-- a frame may be so where an instruction of a function stands
pub data FrameMay (image : ImageParts) : ℕ → ℕ → FrameFact → Type 0 where
  entry : {f : ℕ} → f < length image.codes → FrameMay image f 0 (frame_fact None (pos 0) outside)
  follows : {f pc to : ℕ} {i : Instr} {way : Way} {fact : FrameFact}
      → FrameMay image f pc fact → IsAt image f pc i → Contains (successors image pc i fact) (way, to)
      → FrameMay image f to (frame_after i way fact)

-- ---- what holds of registers then

-- what a function is given, and what it gives
abbrev pub state_of : RegKind → State
state_of kind.Whole = whole
state_of kind.Object = object false
state_of (kind.View rank) = held rank false
state_of kind.Empty = empty
state_of kind.Fault = fault

abbrev pub numbers_of : List Register → List ℕ
numbers_of rs = map (λ r. r.number) rs

abbrev pub is_one_of : ℕ → List ℕ → Bool
is_one_of r [] = false
is_one_of r (x ∷ xs) = nat_eq r x || is_one_of r xs

-- those that aren't among others
abbrev pub others_than : List ℕ → List ℕ → List ℕ
others_than away [] = []
others_than away (r ∷ rs) = if is_one_of r away then others_than away rs else r ∷ others_than away rs

-- the registers of the copies of a parallel loop, and that of its index
abbrev pub copies_of : Option LoopPlan → List ℕ
copies_of None = []
copies_of (Some plan) = plan.args.counter ∷ map (λ c. c.register) plan.copies

abbrev pub copies_in : ImageParts → Stage → List ℕ
copies_in image outside = []
copies_in image (inside n phase) = copies_of (slice_get image.loops n)

-- those that the instruction sets to numbers because of the plan of a parallel loop
abbrev pub plan_writes : ImageParts → Stage → Instr → List ℕ
plan_writes image stage instr.Begin = copies_in image stage
plan_writes image stage (instr.Loop n d k) = copies_of (slice_get image.loops n)
plan_writes image stage i = []

-- the register that a `loop` writes behind a `return` in it, and those that a done instruction writes

abbrev pub writes_aside : Instr → List ℕ
writes_aside (instr.Loop n d k) = numbers_of (writes (instr.Loop n d k))
writes_aside i = []

abbrev pub writes_done : Instr → List ℕ
writes_done (instr.Loop n d k) = []
writes_done i = numbers_of (writes i)

-- the registers whose value another register or a function gets, if it is none that is a number
abbrev pub hands_over : Instr → List ℕ
hands_over (instr.Move d a) = a.number ∷ []
hands_over (instr.Call f d args) = numbers_of args
hands_over i = []

-- the register of a view that becomes one that holds its buffer
abbrev pub acquires : Instr → List ℕ
acquires (instr.Acquire a) = a.number ∷ []
acquires i = []

-- the registers that hold behind a done instruction what it says, and not what they held
abbrev pub changes : ImageParts → Stage → Instr → List ℕ
changes image stage i = writes_done i ++ numbers_of (empties i) ++ plan_writes image stage i ++ acquires i

-- the registers that a done instruction empties
abbrev pub emptied : Instr → List ℕ
emptied i = numbers_of (empties i) ++ hands_over i

-- ---- facts that are made of none: what an instruction writes, whatever was before

abbrev pub all_as : State → List ℕ → List (ℕ × State)
all_as s rs = map (λ r. (r, s)) rs

-- what a function gives, where there is such a function
abbrev pub result_of : Option Code → Option RegKind
result_of None = None
result_of (Some code) = Some code.result

abbrev pub as_result : ℕ → Option RegKind → List (ℕ × State)
as_result d None = []
as_result d (Some k) = (d, state_of k) ∷ []

-- what is neither a number nor a reference
abbrev pub gives_else : ImageParts → Instr → List (ℕ × State)
gives_else image (instr.Call f (Some d) args) = as_result d.number (result_of (slice_get image.codes f))
gives_else image (instr.View t d a rank) = (d.number, held rank false) ∷ []
gives_else image (instr.Caught d) = (d.number, fault) ∷ []
gives_else image i = []

unfoldable pub makes : ImageParts → Stage → Instr → Way → List (ℕ × State)
makes image stage i done =
    all_as whole (numbers_of (gives_whole i)) ++ all_as (object false) (numbers_of (gives_object i)) ++ gives_else image i
    ++ all_as empty (others_than (numbers_of (gives_object i)) (numbers_of (empties i))) ++ all_as whole (plan_writes image stage i)
makes image stage i aside = all_as whole (writes_aside i)
makes image stage i into = []
makes image stage i faulted = []

-- ---- facts that are made of another: what stays, and what a register gets of another one

-- what is left where a value was handed over
abbrev pub left_behind : State → State
left_behind whole = whole
left_behind s = empty

-- the value itself in another register, and in the code of a parallel loop that is entered

abbrev pub moved : State → State
moved (object stood) = object false
moved (held rank stood) = held rank false
moved s = s

abbrev pub as_entered : State → State
as_entered (object stood) = object true
as_entered (held rank stood) = held rank true
as_entered s = s

-- a value that a move takes; there is none of an empty register
abbrev pub moved_on : State → List State
moved_on empty = []
moved_on s = moved s ∷ []

-- a view that was made of the one in a register, with so many axes
abbrev pub lent_from : ℕ → ℕ → State → List State
lent_from rank a (held was stood) = lent rank a false ∷ []
lent_from rank a (lent was from gone) = lent rank from gone ∷ []
lent_from rank a s = []

-- the axes of a view, if it is one
abbrev pub rank_of : State → Option ℕ
rank_of (held rank stood) = Some rank
rank_of (lent rank from gone) = Some rank
rank_of s = None

abbrev pub if_rank : Option ℕ → (ℕ → List State) → List State
if_rank None f = []
if_rank (Some rank) f = f rank

-- one axis less, of two or more; and one more, of two or less

abbrev pub picked : ℕ → State → ℕ → List State
picked a s (suc (suc rank)) = lent_from (suc rank) a s
picked a s rank = []

abbrev pub widened : ℕ → State → ℕ → List State
widened a s zero = lent_from 1 a s
widened a s (suc zero) = lent_from 2 a s
widened a s (suc (suc zero)) = lent_from 3 a s
widened a s rank = []

-- a view that holds its buffer stays as it is
abbrev pub acquired : State → List State
acquired (held rank stood) = held rank stood ∷ []
acquired (lent rank from gone) = held rank false ∷ []
acquired s = []

-- facts of one register, which the instruction makes of what another one holds
abbrev pub made_of : ℕ → ℕ → ℕ → List State → List (ℕ × State)
made_of r a d ss = if nat_eq r a then map (λ s. (d, s)) ss else []

-- what a done instruction writes by what it reads
unfoldable pub derives : Instr → ℕ → State → List (ℕ × State)
derives (instr.Move d a) r s = made_of r a.number d.number (moved_on s)
derives (instr.Pick d a axis i wraps) r s = made_of r a.number d.number (if_rank (rank_of s) (picked a.number s))
derives (instr.Slice d a axis b c e) r s = made_of r a.number d.number (if_rank (rank_of s) (λ rank. lent_from rank a.number s))
derives (instr.Axis d a n) r s = made_of r a.number d.number (if_rank (rank_of s) (widened a.number s))
derives (instr.Turned d a) r s = made_of r a.number d.number (if_rank (rank_of s) (λ rank. lent_from rank a.number s))
derives (instr.Acquire a) r s = made_of r a.number a.number (acquired s)
derives (instr.Copy d a) r s = made_of r a.number d.number (if_rank (rank_of s) (λ rank. held rank false ∷ []))
derives i r s = []

abbrev pub if_empty : State → List State
if_empty empty = empty ∷ []
if_empty s = []

abbrev pub unless_empty : State → List State
unless_empty empty = []
unless_empty s = s ∷ []

-- `need` goes on where its register isn't empty, and faults where it is
abbrev pub passed : Instr → ℕ → State → List State
passed (instr.Need a) r s = if nat_eq r a.number then unless_empty s else s ∷ []
passed i r s = s ∷ []

-- at the fault of a call its arguments are still there, where its frame wasn't made, or they were handed over
abbrev pub at_fault : Instr → ℕ → State → List State
at_fault (instr.Need a) r s = if nat_eq r a.number then if_empty s else s ∷ []
at_fault (instr.Call f d args) r s = if is_one_of r (numbers_of args) then s ∷ left_behind s ∷ [] else s ∷ []
at_fault i r s = s ∷ []

abbrev pub emptied_by_fault : Instr → List ℕ
emptied_by_fault (instr.Call f d args) = numbers_of args
emptied_by_fault i = []

-- what a register holds behind a done instruction by what it held
abbrev pub stays : ImageParts → Stage → Instr → ℕ → State → List State
stays image stage i r s =
    if is_one_of r (changes image stage i) then [] else (if is_one_of r (hands_over i) then left_behind s ∷ [] else passed i r s)

-- a view once the register that it goes back to may have been emptied
abbrev pub once_emptied : List ℕ → State → State
once_emptied rs (lent rank from gone) = lent rank from (gone || is_one_of from rs)
once_emptied rs s = s

abbrev pub each_once_emptied : List ℕ → List (ℕ × State) → List (ℕ × State)
each_once_emptied rs facts = map (λ p. (p.0, once_emptied rs p.1)) facts

abbrev pub all_at : ℕ → List State → List (ℕ × State)
all_at r ss = map (λ s. (r, s)) ss

unfoldable pub hands_on : ImageParts → Stage → Instr → Way → ℕ → State → List (ℕ × State)
hands_on image stage i done r s = each_once_emptied (emptied i) (derives i r s ++ all_at r (stays image stage i r s))
hands_on image stage i aside r s = if is_one_of r (writes_aside i) then [] else (r, s) ∷ []
hands_on image stage i into r s = (r, as_entered s) ∷ []
hands_on image stage i faulted r s =
    all_at r (at_fault i r s) ++ each_once_emptied (emptied_by_fault i) (all_at r (at_fault i r s))

-- ---- the states of registers

-- the state of a register where a function begins: the parameters stand in the first registers, and all others are empty
abbrev pub first_state : Option RegKind → State
first_state None = empty
first_state (Some k) = state_of k

-- a register may be so where an instruction of a function stands
pub data RegisterMay (image : ImageParts) : ℕ → ℕ → ℕ → State → Type 0 where
  entry : {f r : ℕ} {code : Code} → slice_get image.codes f ≡ Some code → r < code.registers
      → RegisterMay image f 0 r (first_state (slice_get code.params r))
  made : {f pc to r : ℕ} {i : Instr} {way : Way} {fact : FrameFact} {s : State}
      → FrameMay image f pc fact → IsAt image f pc i → Contains (successors image pc i fact) (way, to)
      → Contains (makes image fact.stage i way) (r, s) → RegisterMay image f to r s
  handed : {f pc to r d : ℕ} {i : Instr} {way : Way} {fact : FrameFact} {s t : State}
      → FrameMay image f pc fact → IsAt image f pc i → Contains (successors image pc i fact) (way, to)
      → RegisterMay image f pc r s → Contains (hands_on image fact.stage i way r s) (d, t) → RegisterMay image f to d t
