-- A function whose code runs, and how its state and the state of its source belong together.
use Rattle.std.specs.Prelude.{◌≡◌, ℕ, ◌+◌, ◌<◌, ◌≤◌, ℤ, Bool, true, List, [], length, slice_get, slice_index_or, Option, Some, None}
use Rattle.px_base.specs.declared.c_types.CType.{CType}
use Rattle.px_base.specs.declared.faults.Fault.{Fault}
use Rattle.px_ctypes.specs.Types.{IsValueOf}
use Rattle.px_tree.specs.declared.typed_values.ValueType.{ValueType}
use Rattle.px_tree.specs.declared.typed_values.ValueType.TheVariants as type
use Rattle.px_model.specs.declared.stores.Store.{Store}
use Rattle.px_regcode.specs.declared.operands.Register.{Register}
use Rattle.px_regcode.specs.declared.codes.Code.{Code}
use Rattle.px_regcode.specs.Images.{ImageParts}
use Rattle.px_meaning.specs.Values.{Value, Variable, number_in}
use Rattle.px_meaning.specs.Values as value
use Rattle.px_meaning.specs.States.{State, variable_at}
use Rattle.px_meaning.specs.States as source
use Rattle.px_meaning.specs.Expressions.{Scope}
use Rattle.px_machine.specs.Slots.{Slot, empty, whole, object, view, fault, Frame, Rest, Member, member}
use Rattle.px_machine.specs.Steps.{Step, went, ended, spent}
use Rattle.px_machine.specs.Machine.{faulting}
use Rattle.px_machine.specs.Means.{HasStore}

-- What doesn't change while the code of a function runs in a frame: the image, the function, its code and the types of its variables,
-- how many registers for objects stand behind these, and of its member what its instructions don't change. On the side of the source
-- there are the frames that wait, and the number that no turns pass.
pub record Setting : Type 0 where
  pub image : ImageParts
  pub function : ℕ
  pub code : Code
  pub locals : List ValueType
  pub objects : ℕ
  pub result : Option Register
  pub handler : Option ℕ
  pub caught : Option Fault
  pub callers : List Frame
  pub below : ℕ
  pub buffers : List ℕ
  pub holds : ℕ
  pub members : ℕ
  -- whether the lock is held at its statements
  pub locked : Bool
  pub waiting : List source.Frame
  pub bound : ℕ

-- where the temporary registers begin
abbrev pub base : Setting → ℕ
base c = length c.locals + c.objects

abbrev pub frame_at : Setting → ℕ → List Slot → Frame
frame_at c pc registers = record {
  function = c.function;
  pc = pc;
  registers = registers;
  result = c.result;
  handler = c.handler;
  caught = c.caught;
}

abbrev pub rest_with : Setting → Option Store → ℕ → Rest
rest_with c store turns =
    record { below = c.below; buffers = c.buffers; store = store; holds = c.holds; turns = turns; members = c.members }

abbrev pub member_at : Setting → ℕ → List Slot → Option Store → ℕ → Member
member_at c pc registers store turns = member (frame_at c pc registers) c.callers (rest_with c store turns)

abbrev pub slot_in : List Slot → ℕ → Slot
slot_in registers k = slice_index_or registers k empty

-- a variable that has a number, if anything
abbrev pub IsNumber : Variable → Type 0
IsNumber None = Unit {0}
IsNumber (Some (value.whole n)) = Unit {0}
IsNumber (Some (value.object serial)) = ⊥
IsNumber (Some (value.view v)) = ⊥
IsNumber (Some value.nothing) = ⊥

-- a register with an object, if anything
abbrev pub IsDroppable : Slot → Type 0
IsDroppable empty = Unit {0}
IsDroppable (object serial) = Unit {0}
IsDroppable (whole n) = ⊥
IsDroppable (view v) = ⊥
IsDroppable (fault f) = ⊥

-- a register holds the number of a variable of this type
pub record Stands (t : CType) (variable : Variable) (slot : Slot) : Type 0 where
  pub is_number : IsNumber variable
  pub is_slot : slot ≡ whole (number_in variable)
  pub is_value : IsValueOf t (number_in variable)

-- The registers of the frame belong to the state of the source.
pub record Agree (c : Setting) (s : State) (registers : List Slot) : Type 0 where
  pub size : length registers ≡ c.code.registers
  pub count : length s.frame.variables ≡ length c.locals
  pub stand : (slot : ℕ) (t : CType) → slice_get c.locals slot ≡ Some (type.C t) → Stands t (variable_at s slot) (slot_in registers slot)
  pub clean : (k : ℕ) → k < c.objects → IsDroppable (slot_in registers (length c.locals + k))
  pub temporaries : s.frame.temporaries ≡ []
  pub waiting : s.callers ≡ c.waiting
  pub members : s.members ≡ c.members
  pub turns : s.turns ≤ c.bound
  pub store : c.locked ≡ true → HasStore s.store

-- registers below a number are as they were
pub record Kept (d : ℕ) (old new : List Slot) : Type 0 where
  pub size : length new ≡ length old
  pub same : (k : ℕ) → k < d → slot_in new k ≡ slot_in old k

-- The value of a C type stands in register d, and the code goes on at an instruction.
pub record Valued (c : Setting) (t : CType) (pc d : ℕ) (old : List Slot) (v : Value) (s : State) (step : Step) : Type 0 where
  pub number : ℤ
  pub is_number : v ≡ value.whole number
  pub is_value : IsValueOf t number
  pub after : List Slot
  pub agree : Agree c s after
  pub kept : Kept d old after
  pub there : slot_in after d ≡ whole number
  pub goes_on : step ≡ went (member_at c pc after s.store s.turns)

-- a fault is raised in the frame
pub record Faults (c : Setting) (f : Fault) (s : State) (step : Step) : Type 0 where
  pub pc : ℕ
  pub after : List Slot
  pub agree : Agree c s after
  pub fails : step ≡ faulting f (member_at c pc after s.store s.turns)

-- the turns have run out
pub record RunsOut (c : Setting) (s : State) (step : Step) : Type 0 where
  pub members : s.members ≡ c.members
  pub stops : step ≡ ended spent (rest_with c s.store s.turns)

-- the value at hand is a number, which stands in register d
pub record GivenIs (t : CType) (scope : Scope) (d : ℕ) (registers : List Slot) : Type 0 where
  pub number : ℤ
  pub is_given : scope.given ≡ Some (value.whole number)
  pub is_value : IsValueOf t number
  pub there : slot_in registers d ≡ whole number

abbrev pub GivenThere : Option CType → Scope → ℕ → List Slot → Type 0
GivenThere None scope d registers = Unit {0}
GivenThere (Some t) scope d registers = GivenIs t scope d registers
