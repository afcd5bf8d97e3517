-- What it is for an image to mean a module: on one member its code makes the requests of the source in their order, and comes to the
-- same, for every number of turns.
use Rattle.std.specs.Prelude.{◌≡◌, ℕ, zero, suc, ◌+◌, ◌≤◌, List, [], ◌∷◌, length, map, slice_get, Option, Some, None, ◌⊎◌}
use Rattle.px_ctypes.specs.Types.{IsValueOf}
use Rattle.px_tree.specs.declared.modules.Lock.{Lock}
use Rattle.px_tree.specs.declared.modules.Lock.TheVariants as lock
use Rattle.px_tree.specs.declared.typed_values.ValueType.{ValueType}
use Rattle.px_tree.specs.declared.typed_values.ValueType.TheVariants as type
use Rattle.px_model.specs.declared.stores.Store.{Store}
use Rattle.px_regcode.specs.declared.operands.Register.{Register}
use Rattle.px_regcode.specs.declared.operands.RegKind.{RegKind}
use Rattle.px_regcode.specs.declared.operands.RegKind.TheVariants as kind
use Rattle.px_regcode.specs.declared.codes.Code.{Code}
use Rattle.px_regcode.specs.declared.codes.Start.{Start}
use Rattle.px_regcode.specs.declared.codes.Start.TheVariants as start
use Rattle.px_regcode.specs.Images.{ImageParts}
use Rattle.px_meaning.specs.Values.{Value}
use Rattle.px_meaning.specs.Values as value
use Rattle.px_meaning.specs.States.{State, holding}
use Rattle.px_meaning.specs.Ends.{Ends, gives, raised, spent, meaningless, Flow, next, continues, breaks, returns}
use Rattle.px_meaning.specs.Calls.{SourceFunction, Source, calls_of}
use Rattle.px_meaning.specs.Modules.{first_state, module_context, module_code}
use Rattle.px_machine.specs.Slots.{Slot, Frame, Rest, Member, member, slot_at}
use Rattle.px_machine.specs.Steps.{Step, went, ended, MemberEnd, over}
use Rattle.px_machine.specs.Steps as end
use Rattle.px_machine.specs.Machine.{slot_of_value, taken, arguments_at, calls, back_in, unwound, opening_registers}
use Rattle.px_machine.specs.Follows.{Follows}

pub record HasStore (o : Option Store) : Type 0 where
  pub store : Store
  pub is : o ≡ Some store

-- What a member has beside its frames, where its store, turns and team are those of a state of the source.
abbrev pub rest_of : ℕ → List ℕ → ℕ → State → Rest
rest_of below buffers holds s =
    record { below = below; buffers = buffers; store = s.store; holds = holds; turns = s.turns; members = s.members }

-- ---- calls

-- the frame that makes a call, whose arguments are taken
abbrev pub taken_from : List Register → Frame → Frame
taken_from arguments frame = record frame { registers = taken arguments frame.registers }

-- a run that has ended, with the store and the turns of a state of the source
pub record EndsAs (last : MemberEnd) (s : State) (step : Step) : Type 0 where
  pub rest : Rest
  pub is : step ≡ ended last rest
  pub store : rest.store ≡ s.store
  pub turns : rest.turns ≡ s.turns

-- A call that is over: the frame that made it goes on behind it with what it gave, or has its fault, or the turns have run out. A call
-- that couldn't open a frame takes no arguments. The frames of the source are as they were.
abbrev pub CallEnds : Option Register → List Register → Frame → List Frame → ℕ → List ℕ → ℕ → State → Ends Value → Step → Type 0
CallEnds d arguments frame callers below buffers holds before (gives v s) step =
    (step ≡ went (member (back_in d (slot_of_value v) (taken_from arguments frame)) callers (rest_of below buffers holds s)))
    × ((s.frame ≡ before.frame) × (s.callers ≡ before.callers))
CallEnds d arguments frame callers below buffers holds before (raised f s) step =
    ((step ≡ unwound f (taken_from arguments frame ∷ callers) (rest_of below buffers holds s))
    ⊎ (step ≡ unwound f (frame ∷ callers) (rest_of below buffers holds s)))
    × ((s.frame ≡ before.frame) × (s.callers ≡ before.callers))
CallEnds d arguments frame callers below buffers holds before (spent s) step = EndsAs end.spent s step
CallEnds d arguments frame callers below buffers holds before meaningless step = Unit {0}

-- a value of a type, which holds no buffer
abbrev pub FitsType : ValueType → Value → Type 0
FitsType (type.C t) (value.whole n) = IsValueOf t n
FitsType type.Object (value.object serial) = Unit {0}
FitsType _ _ = ⊥

-- the registers of arguments hold values of the types of the parameters
abbrev pub Argue : List ValueType → List Slot → List Register → List Value → Type 0
Argue [] registers [] [] = Unit {0}
Argue (t ∷ types) registers (a ∷ arguments) (v ∷ values) =
    (FitsType t v × (slot_at registers a ≡ slot_of_value v)) × Argue types registers arguments values
Argue _ registers _ _ = ⊥

-- how a member counts its holds of the lock
abbrev pub CountsHolds : ℕ → Option Store → Type 0
CountsHolds zero None = Unit {0}
CountsHolds (suc holds) (Some store) = Unit {0}
CountsHolds _ _ = ⊥

-- ---- what code says of its function

abbrev pub kind_of : ValueType → RegKind
kind_of (type.C t) = kind.Whole
kind_of type.Object = kind.Object
kind_of (type.View t) = kind.View t.rank
kind_of type.Void = kind.Empty

abbrev pub start_of : Lock → Start
start_of lock.Unwritten = start.Held
start_of lock.Nogil = start.Any
start_of lock.WithGil = start.Any

pub record IsCodeOf (f : SourceFunction) (code : Code) : Type 0 where
  pub params : code.params ≡ map kind_of f.params
  pub result : code.result ≡ kind_of f.gives
  pub start : code.start ≡ start_of f.lock

-- ---- the module

-- the registers of module code, which are empty at first
abbrev pub first_registers : Option Code → List Slot
first_registers None = []
first_registers (Some code) = opening_registers code.registers []

-- the main member, which has the lock
abbrev pub first_frame : ImageParts → Frame
first_frame image = record {
  function = 0;
  pc = 0;
  registers = first_registers (slice_get image.codes 0);
  result = None;
  handler = None;
  caught = None;
}

abbrev pub first_member : ImageParts → State → Member
first_member image s = member (first_frame image) [] (rest_of 0 [] 1 s)

-- The module's code is over; a module that ends otherwise than behind its last statement has no meaning.
abbrev pub ModuleEnds : Ends Flow → Step → Type 0
ModuleEnds (gives next s) step = EndsAs over s step
ModuleEnds (gives continues s) step = Unit {0}
ModuleEnds (gives breaks s) step = Unit {0}
ModuleEnds (gives (returns v) s) step = Unit {0}
ModuleEnds (raised f s) step = EndsAs (end.raised f) s step
ModuleEnds (spent s) step = EndsAs end.spent s step
ModuleEnds meaningless step = Unit {0}

-- An image means a module whose parallel loops aren't entered, and no parameter or result of which is a view.
pub record Means (image : ImageParts) (source : Source) : Type 0 where
  -- module code, and behind it that of each function, which says what the function takes and gives; and the constants
  pub count : length image.codes ≡ suc (length source.functions)
  pub constants : image.constants ≡ source.constants
  pub codes : (function : ℕ) (f : SourceFunction) (code : Code) → slice_get source.functions function ≡ Some f
      → slice_get image.codes (suc function) ≡ Some code → IsCodeOf f code
  -- A call of a function from any frame follows the function, with any bound that the turns don't pass. One that begins with the lock held
  -- is called with it.
  pub functions : (bound function : ℕ) (f : SourceFunction) → slice_get source.functions function ≡ Some f
      → (d : Option Register) (arguments : List Register) (values : List Value) (frame : Frame) (callers : List Frame) (below : ℕ) (buffers : List ℕ)
      (holds : ℕ) (s : State)
      → Argue f.params frame.registers arguments values → length callers + below ≡ length s.callers → CountsHolds holds s.store
      → (start_of f.lock ≡ start.Held → HasStore s.store) → s.turns ≤ bound
      → Follows image (CallEnds d arguments frame callers below buffers holds s)
      (calls (suc function) (slice_get image.codes (suc function)) d arguments (arguments_at frame.registers arguments)
      (member frame callers (rest_of below buffers holds s)))
      (calls_of source bound function values s)
  -- the module's code, for each number of turns and size of its teams, and whatever store it begins with
  pub module_runs : (turns members : ℕ) (store : Store)
      → Follows image ModuleEnds (went (first_member image (holding store (first_state turns members))))
      (module_code (module_context source turns) source (holding store (first_state turns members)))
