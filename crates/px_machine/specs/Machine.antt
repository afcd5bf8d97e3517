-- What each instruction does to one member (the machine's own; numbers are those of ISO C11 6.3 and 6.5, objects those of the Python
-- Language Reference). An instruction is stuck whose operands are of other kinds than it asks for, which those of formed code never are,
-- and one that isn't defined; so is a print of a container.
use Rattle.std.specs.Prelude.{ℕ, zero, suc, ◌+◌, ℤ, pos, unsigned_abs, if◌then◌else◌, nat_lt, List, [], ◌∷◌, ◌++◌, take, replicate, slice_get, Option, Some, None, Result, Ok, Err, codes}
use Rattle.px_base.specs.declared.c_types.CType.{CType}
use Rattle.px_base.specs.declared.c_types.BinOp.{BinOp}
use Rattle.px_base.specs.declared.objects.Constant.{Constant}
use Rattle.px_base.specs.declared.faults.Fault.{Fault}
use Rattle.px_base.specs.declared.faults.Kind.TheVariants.{TypeError, UnboundLocalError, RecursionError}
use Rattle.px_ctypes.specs.Wrapping.{wrap}
use Rattle.px_ctypes.specs.Conversions.{converted}
use Rattle.px_ctypes.specs.Operators.{binary_value, unary_value, compare_value, fault_of, is_zero, is_shift}
use Rattle.px_model.specs.declared.stores.Store.{Store}
use Rattle.px_regcode.specs.declared.operands.Register.{Register}
use Rattle.px_regcode.specs.declared.codes.Code.{Code}
use Rattle.px_regcode.specs.declared.instructions.Instr.{Instr}
use Rattle.px_regcode.specs.declared.instructions.Instr.TheVariants as instr
use Rattle.px_regcode.specs.Images.{ImageParts}
use Rattle.px_meaning.specs.Values.{Value}
use Rattle.px_meaning.specs.Values as value
use Rattle.px_meaning.specs.Calls.{frame_limit}
use Rattle.px_meaning.specs.Expressions.{of_truth}
use Rattle.px_meaning.specs.Objects.{Stepped, gave, failed, new_object, boxed, constant_object, fetched, with_name, texts_of, with_output, spaced}
use Rattle.px_machine.specs.Slots.{Slot, empty, whole, object, view, fault, slot_at, with_slot, Frame, Rest, Member, member, depth, in_frame, with_rest, going_to, next, slot_of, writing, storing}
use Rattle.px_machine.specs.Steps.{Step, went, enters, leaves, ended, stuck, over, raised, spent}

-- A register is written, and the member goes on.
abbrev pub sets : Register → Slot → Member → Step
sets d slot m = went (next (writing d slot m))

-- ---- faults

-- A fault goes on at the handler of its frame, which it clears. Without one it ends the frame, and is one of the frame that waits.

abbrev pub handled : ℕ → Fault → Frame → Frame
handled pc f frame = record frame { pc = pc; handler = None; caught = Some f }

abbrev pub at_handler : Option ℕ → Fault → Frame → List Frame → Rest → Step → Step
at_handler None f frame callers rest otherwise = otherwise
at_handler (Some pc) f frame callers rest otherwise = went (member (handled pc f frame) callers rest)

abbrev pub unwound : Fault → List Frame → Rest → Step
unwound f [] rest = ended (raised f) rest
unwound f (frame ∷ callers) rest = at_handler frame.handler f frame callers rest (unwound f callers rest)

abbrev pub faulting : Fault → Member → Step
faulting f m = unwound f (m.frame ∷ m.callers) m.rest

-- ---- numbers

-- goes on with the number of a register
abbrev pub with_number : Slot → (ℤ → Step) → Step
with_number (whole n) go = go n
with_number empty go = stuck
with_number (object serial) go = stuck
with_number (view v) go = stuck
with_number (fault f) go = stuck

abbrev pub number_at : Member → Register → (ℤ → Step) → Step
number_at m a go = with_number (slot_of m a) go

-- the right operand: the count of a shift is any number
abbrev pub right_operand : BinOp → CType → ℤ → ℤ
right_operand op t b = if is_shift op then b else converted t b

abbrev pub sets_or_faults : Register → Result ℤ Fault → Member → Step
sets_or_faults d (Ok n) m = sets d (whole n) m
sets_or_faults d (Err f) m = faulting f m

-- a value that is no number leaves its register
abbrev pub moved : Register → Register → Slot → Member → Step
moved d a empty m = stuck
moved d a (whole n) m = sets d (whole n) m
moved d a (object serial) m = sets d (object serial) (writing a empty m)
moved d a (view v) m = sets d (view v) (writing a empty m)
moved d a (fault f) m = sets d (fault f) (writing a empty m)

-- ---- calls

-- what the arguments are, where no register of them is empty
abbrev pub argument : Slot → Option (List Slot) → Option (List Slot)
argument empty others = None
argument slot None = None
argument slot (Some slots) = Some (slot ∷ slots)

abbrev pub arguments_at : List Slot → List Register → Option (List Slot)
arguments_at registers [] = Some []
arguments_at registers (a ∷ arguments) = argument (slot_at registers a) (arguments_at registers arguments)

-- a call takes what is no number
abbrev pub left_behind : Slot → Slot
left_behind (whole n) = whole n
left_behind slot = empty

abbrev pub taken : List Register → List Slot → List Slot
taken [] registers = registers
taken (a ∷ arguments) registers = taken arguments (with_slot a (left_behind (slot_at registers a)) registers)

-- the registers of a frame: the arguments, and the others empty
abbrev pub opening_registers : ℕ → List Slot → List Slot
opening_registers count slots = take count (slots ++ replicate count empty)

abbrev pub opened : ℕ → Code → Option Register → List Slot → Frame
opened function code d slots = record {
  function = function;
  pc = 0;
  registers = opening_registers code.registers slots;
  result = d;
  handler = None;
  caught = None;
}

-- a turn is spent, and a frame opened, where one more may be
abbrev pub opens : ℕ → Code → Option Register → List Register → List Slot → Member → Step
opens function code d arguments slots m =
    if nat_lt (depth m) frame_limit
    then went (member (opened function code d slots) (record m.frame { registers = taken arguments m.frame.registers } ∷ m.callers) m.rest)
    else faulting (fault_of RecursionError 31) m

abbrev pub spends : ℕ → (Member → Step) → Member → Step
spends zero go m = ended spent m.rest
spends (suc left) go m = go (with_rest (record m.rest { turns = left }) m)

abbrev pub calls : ℕ → Option Code → Option Register → List Register → Option (List Slot) → Member → Step
calls function None d arguments slots m = stuck
calls function (Some code) d arguments None m = stuck
calls function (Some code) d arguments (Some slots) m = spends m.rest.turns (opens function code d arguments slots) m

-- The frame ends and gives a value, or nothing where there is no register for one.

abbrev pub given : Option Register → Slot → List Slot → List Slot
given None slot registers = registers
given (Some d) slot registers = with_slot d slot registers

abbrev pub back_in : Option Register → Slot → Frame → Frame
back_in d slot frame = record frame { pc = frame.pc + 1; registers = given d slot frame.registers }

abbrev pub returns_to : Slot → Option Register → List Frame → Rest → Step
returns_to slot d [] rest = ended over rest
returns_to slot d (caller ∷ callers) rest = went (member (back_in d slot caller) callers rest)

abbrev pub returns : Slot → Member → Step
returns slot m = returns_to slot m.frame.result m.callers m.rest

-- an empty register gives nothing
abbrev pub returns_slot : Slot → Member → Step
returns_slot empty m = stuck
returns_slot slot m = returns slot m

-- ---- faults that code handles

-- a frame without a fault has that of a wrong kind
abbrev pub caught_fault : Option Fault → Fault
caught_fault None = fault_of TypeError 22
caught_fault (Some f) = f

abbrev pub fault_at : Slot → (Fault → Step) → Step
fault_at (fault f) go = go f
fault_at empty go = stuck
fault_at (whole n) go = stuck
fault_at (object serial) go = stuck
fault_at (view v) go = stuck

abbrev pub needs : Slot → Member → Step
needs empty m = faulting (fault_of UnboundLocalError 26) m
needs slot m = went (next m)

-- ---- the lock

-- The first hold takes the lock, and the last one gives it back; those between are counted.

abbrev pub takes_lock : ℕ → Member → Step
takes_lock zero m = enters (λ store. next (with_rest (record m.rest { store = Some store; holds = 1 }) m))
takes_lock (suc holds) m = went (next (with_rest (record m.rest { holds = suc (suc holds) }) m))

abbrev pub gives_lock : Option Store → ℕ → Member → Step
gives_lock None holds m = stuck
gives_lock (Some store) zero m = stuck
gives_lock (Some store) (suc zero) m = leaves store (next (with_rest (record m.rest { store = None; holds = 0 }) m))
gives_lock (Some store) (suc (suc holds)) m = went (next (with_rest (record m.rest { holds = suc holds }) m))

-- ---- objects

-- goes on with the store, which is there where the member holds the lock
abbrev pub with_store : Option Store → (Store → Step) → Step
with_store None go = stuck
with_store (Some store) go = go store

-- what a step on objects comes to
abbrev pub stepped : {A : Type 0} → Stepped A → (A → Member → Step) → Member → Step
stepped (gave a store) go m = go a (storing store m)
stepped (failed f store) go m = faulting f (storing store m)

abbrev pub stepping : {A : Type 0} → (Store → Stepped A) → (A → Member → Step) → Member → Step
stepping step go m = with_store m.rest.store (λ store. stepped (step store) go m)

abbrev pub slot_of_value : Value → Slot
slot_of_value (value.whole n) = whole n
slot_of_value (value.object serial) = object serial
slot_of_value (value.view v) = view v
slot_of_value value.nothing = empty

abbrev pub gets : Register → Value → Member → Step
gets d v m = sets d (slot_of_value v) m

abbrev pub object_at : Slot → (ℕ → Step) → Step
object_at (object serial) go = go serial
object_at empty go = stuck
object_at (whole n) go = stuck
object_at (view v) go = stuck
object_at (fault f) go = stuck

abbrev pub constant_at : Option Constant → (Constant → Step) → Step
constant_at None go = stuck
constant_at (Some what) go = go what

-- a reference is let go, if there is one
abbrev pub drops : Register → Slot → Member → Step
drops a (object serial) m = sets a empty m
drops a empty m = went (next m)
drops a (whole n) m = stuck
drops a (view v) m = stuck
drops a (fault f) m = stuck

-- the objects of registers
abbrev pub object_among : Slot → Option (List Value) → Option (List Value)
object_among (object serial) (Some values) = Some (value.object serial ∷ values)
object_among _ _ = None

abbrev pub objects_at : List Slot → List Register → Option (List Value)
objects_at registers [] = Some []
objects_at registers (a ∷ arguments) = object_among (slot_at registers a) (objects_at registers arguments)

abbrev pub prints_line : Option (List (List ℕ)) → Store → Member → Step
prints_line None store m = stuck
prints_line (Some texts) store m = stepped (with_output (store.output ++ spaced texts ++ codes "\n") store) (λ _ m1. went (next m1)) m

abbrev pub prints : Option (List Value) → Member → Step
prints None m = stuck
prints (Some values) m = with_store m.rest.store (λ store. prints_line (texts_of store values) store m)

-- ---- instructions

unfoldable pub act : ImageParts → Instr → Member → Step
-- numbers
act image (instr.Const d n) m = sets d (whole n) m
act image (instr.Move d a) m = moved d a (slot_of m a) m
act image (instr.Binary op t d a b truncates) m =
    number_at m a (λ x. number_at m b (λ y. sets_or_faults d (binary_value op t (converted t x) (right_operand op t y) truncates) m))
act image (instr.Unary op t d a) m = number_at m a (λ x. sets d (whole (unary_value op t (converted t x))) m)
act image (instr.Compare op t d a b) m =
    number_at m a (λ x. number_at m b (λ y. sets d (whole (of_truth (compare_value op (converted t x) (converted t y)))) m))
act image (instr.Convert t d a) m = number_at m a (λ x. sets d (whole (converted t x)) m)
act image (instr.Magnitude t d a) m = number_at m a (λ x. sets d (whole (wrap t (pos (unsigned_abs (converted t x))))) m)
-- order, calls and faults
act image (instr.Jump k) m = went (going_to k m)
act image (instr.Branch a k j) m = number_at m a (λ x. went (going_to (if is_zero x then j else k) m))
act image instr.Turn m = spends m.rest.turns (λ m1. went (next m1)) m
act image (instr.Call f d arguments) m =
    calls f (slice_get image.codes f) d arguments (arguments_at m.frame.registers arguments) m
act image (instr.Return a) m = returns_slot (slot_of m a) m
act image instr.Finish m = returns empty m
act image (instr.Handle k) m = went (next (in_frame (record m.frame { handler = Some k }) m))
act image instr.Unhandle m = went (next (in_frame (record m.frame { handler = None }) m))
act image instr.Throw m = unwound (caught_fault m.frame.caught) m.callers m.rest
act image (instr.Caught d) m =
    sets d (fault (caught_fault m.frame.caught)) (in_frame (record m.frame { caught = None }) m)
act image (instr.Forget a) m = fault_at (slot_of m a) (λ f. sets a empty m)
-- registers
act image (instr.Unset d) m = sets d empty m
act image (instr.Need a) m = needs (slot_of m a) m
-- the lock
act image instr.Ticket m = went (next m)
act image instr.Enter m = takes_lock m.rest.holds m
act image instr.Leave m = gives_lock m.rest.store m.rest.holds m
-- the size of teams
act image (instr.Members d) m = sets d (whole (pos m.rest.members)) m
-- objects
act image (instr.Text d n) m =
    constant_at (slice_get image.constants n) (λ what. stepping (new_object (constant_object what)) (gets d) m)
act image (instr.Wide d n) m =
    constant_at (slice_get image.constants n) (λ what. stepping (new_object (constant_object what)) (gets d) m)
act image (instr.Box t d a) m = number_at m a (λ x. stepping (new_object (boxed t (converted t x))) (gets d) m)
act image (instr.Fetch d n) m = stepping (fetched n) (gets d) m
act image (instr.Keep n a) m = object_at (slot_of m a) (λ serial. stepping (with_name serial n serial) (λ _ m1. sets a empty m1) m)
act image (instr.Share d a) m = object_at (slot_of m a) (λ serial. with_store m.rest.store (λ store. sets d (object serial) m))
act image (instr.Drop a) m = with_store m.rest.store (λ store. drops a (slot_of m a) m)
act image (instr.Print arguments) m = prints (objects_at m.frame.registers arguments) m
act image (instr.Rethrow a) m = fault_at (slot_of m a) (λ f. with_store m.rest.store (λ store. faulting f m))
-- what isn't defined
act image (instr.Takes a kinds k) m = stuck
act image (instr.Element t d a indices) m = stuck
act image (instr.Put t a indices b) m = stuck
act image (instr.Pick d a axis i wraps) m = stuck
act image (instr.Slice d a axis b c e) m = stuck
act image (instr.Axis d a n) m = stuck
act image (instr.Turned d a) m = stuck
act image (instr.Extent d a axis) m = stuck
act image (instr.Ordered a order) m = stuck
act image (instr.Acquire a) m = stuck
act image (instr.Release a) m = stuck
act image (instr.Fill a b) m = stuck
act image (instr.Spread d a) m = stuck
act image (instr.Loop n d k) m = stuck
act image instr.Look m = stuck
act image instr.Claim m = stuck
act image instr.Begin m = stuck
act image instr.End m = stuck
act image (instr.Stop kind a) m = stuck
act image (instr.Reduce op t x a) m = stuck
act image (instr.Unbox t d a) m = stuck
act image (instr.Truth d a) m = stuck
act image (instr.ObjectBinary op d a b) m = stuck
act image (instr.ObjectUnary op d a) m = stuck
act image (instr.ObjectCompare op d a b) m = stuck
act image (instr.ObjectIn d a b) m = stuck
act image (instr.ObjectGet d a b) m = stuck
act image (instr.ObjectSet a b c) m = stuck
act image (instr.ObjectCut d a b c e) m = stuck
act image (instr.List d arguments) m = stuck
act image (instr.Tuple d arguments) m = stuck
act image (instr.Dict d arguments) m = stuck
act image (instr.Unpack n a items) m = stuck
act image (instr.Method name d a arguments) m = stuck
act image (instr.Builtin name d arguments) m = stuck
act image (instr.Input d arguments) m = stuck
act image (instr.Raise kind a) m = stuck
act image (instr.Walk d x a) m = stuck
act image (instr.Next d a x k) m = stuck
act image (instr.Array d arguments) m = stuck
act image (instr.View t d a rank) m = stuck
act image (instr.Copy d a) m = stuck
act image (instr.Said d a) m = stuck

-- the instruction at which a frame stands
abbrev pub instruction_in : Option Code → ℕ → Option Instr
instruction_in None pc = None
instruction_in (Some code) pc = slice_get code.instrs pc

abbrev pub instruction_at : ImageParts → Frame → Option Instr
instruction_at image frame = instruction_in (slice_get image.codes frame.function) frame.pc

abbrev pub act_at : ImageParts → Option Instr → Member → Step
act_at image None m = stuck
act_at image (Some i) m = act image i m

-- the instruction of the frame that runs
unfoldable pub step : ImageParts → Member → Step
step image m = act_at image (instruction_at image m.frame) m
