-- What registers hold, and the frames and members that have them.
use Rattle.std.specs.Prelude.{ℕ, suc, ◌+◌, ℤ, List, length, Option, Some, slice_index_or, slice_set}
use Rattle.px_base.specs.declared.faults.Fault.{Fault}
use Rattle.px_model.specs.declared.stores.Store.{Store}
use Rattle.px_regcode.specs.declared.operands.Register.{Register}
use Rattle.px_meaning.specs.Values.{ViewValue}

-- What a register holds: nothing, a number, an object by its serial number, a view, or a fault.
pub data Slot : Type 0 where
  empty : Slot
  whole : ℤ → Slot
  object : ℕ → Slot
  view : ViewValue → Slot
  fault : Fault → Slot

abbrev pub slot_at : List Slot → Register → Slot
slot_at registers r = slice_index_or registers r.number empty

abbrev pub with_slot : Register → Slot → List Slot → List Slot
with_slot r slot registers = slice_set registers r.number slot

-- A frame: its function, the number of the instruction that it runs or at which it waits for a call, its registers, the register of the
-- frame below that gets what it gives, the instruction at which its faults go on, and the last fault that went there.
pub record Frame : Type 0 where
  pub function : ℕ
  pub pc : ℕ
  pub registers : List Slot
  pub result : Option Register
  pub handler : Option ℕ
  pub caught : Option Fault

-- What a member has beside its frames: how many frames of the run are below its own; the buffers that its views hold, once for each; the
-- store where it holds the lock, and how many holds of that are counted; the turns that are left; and the size of the run's teams.
pub record Rest : Type 0 where
  pub below : ℕ
  pub buffers : List ℕ
  pub store : Option Store
  pub holds : ℕ
  pub turns : ℕ
  pub members : ℕ

-- A member: the frame that runs, those that wait for it, the innermost first, and what it has beside them.
pub record Member : Type 0 where
  pub frame : Frame
  pub callers : List Frame
  pub rest : Rest

abbrev pub member : Frame → List Frame → Rest → Member
member frame callers rest = record { frame = frame; callers = callers; rest = rest }

-- how many frames of the run there are
abbrev pub depth : Member → ℕ
depth m = suc (length m.callers) + m.rest.below

abbrev pub in_frame : Frame → Member → Member
in_frame frame m = record m { frame = frame }

abbrev pub with_rest : Rest → Member → Member
with_rest rest m = record m { rest = rest }

-- the member goes on at an instruction
abbrev pub going_to : ℕ → Member → Member
going_to pc m = in_frame (record m.frame { pc = pc }) m

abbrev pub next : Member → Member
next m = going_to (m.frame.pc + 1) m

abbrev pub slot_of : Member → Register → Slot
slot_of m r = slot_at m.frame.registers r

-- a register gets what it shall hold
abbrev pub writing : Register → Slot → Member → Member
writing d slot m = in_frame (record m.frame { registers = with_slot d slot m.frame.registers }) m

-- the store behind a step on objects
abbrev pub storing : Store → Member → Member
storing store m = with_rest (record m.rest { store = Some store }) m
