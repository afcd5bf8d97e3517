-- What object instructions do to the object runtime and to the registers of the frame that runs, by their rows.
use Rattle.std.specs.Prelude.{◌≡◌, ◌≢◌, List, ◌∷◌, ◌++◌, Some, Result, Ok, Err}
use Rattle.px_base.specs.declared.faults.StepTrouble.{StepTrouble}
use Rattle.px_base.specs.declared.faults.StepTrouble.TheVariants as trouble
use Rattle.px_model.specs.declared.stores.ObjectValue.{ObjectValue}
use Rattle.px_model.specs.declared.stores.Store.{Store}
use Rattle.px_regcode.specs.declared.instructions.Instr.{Instr}
use Rattle.px_regcode.specs.Images.{ImageParts}
use Rattle.px_meaning.specs.Values as value
use Rattle.px_meaning.specs.Objects.{gave, failed, new_object}
use Rattle.px_machine.specs.Slots as machine
use Rattle.px_machine.specs.Slots.{Member, in_frame, next, storing}
use Rattle.px_machine.specs.Steps.{Step, went, stuck}
use Rattle.px_machine.specs.Machine.{act, faulting}
use Rattle.px_heap.specs.declared.values.Serial.{Serial}
use Rattle.px_heap.specs.Heaps.{AreHeld}
use Rattle.px_interp.specs.declared.registers.Slot.{Slot}
use Rattle.px_interp.specs.Slots.{slots_of, references_of}
use Rattle.px_interp.specs.Interps.{Interp, Represents}

-- ---- one object

-- what making an object comes to
abbrev pub IsMadeIn : Store → ObjectValue → Interp → Result Serial StepTrouble → Type 0
IsMadeIn store what new (Ok of) = (after : Store) × (new_object what store ≡ gave (value.object of.number) after) × Represents new after
IsMadeIn store what new (Err (trouble.Raised f)) = (new_object what store ≡ failed f store) × Represents new store
IsMadeIn store what new (Err trouble.NoMemory) = Unit {0}

-- the new reference is held beside others
abbrev pub AreHeldThen : Interp → List Serial → Result Serial StepTrouble → Type 0
AreHeldThen new held (Ok of) = AreHeld new.heap (of ∷ held)
AreHeldThen new held (Err e) = AreHeld new.heap held

-- ---- instructions

-- A member whose running frame has these registers, and which holds the lock with a store that the runtime stands for.
pub record HasBook (interp : Interp) (slots : List Slot) (m : Member) (given : Store) : Type 0 where
  pub registers : m.frame.registers ≡ slots_of slots
  pub store : m.rest.store ≡ Some given
  pub represents : Represents interp given

abbrev pub with_registers : List machine.Slot → Member → Member
with_registers registers m = in_frame (record m.frame { registers = registers }) m

-- the member goes on behind the instruction, or by its fault
abbrev pub GoesTo : (new : Interp) (registers : List Slot) → Member → Step → Result (Unit {0}) StepTrouble → Type 0
GoesTo new registers m step (Ok done) =
    (after : Store) × (step ≡ went (next (with_registers (slots_of registers) (storing after m)))) × Represents new after
GoesTo new registers m step (Err (trouble.Raised f)) =
    (after : Store) × (step ≡ faulting f (with_registers (slots_of registers) (storing after m))) × Represents new after
GoesTo new registers m step (Err trouble.NoMemory) = Unit {0}

-- The row of an instruction, for each member that has these registers and this runtime, unless it is stuck there.
abbrev pub IsRow : ImageParts → Instr → Interp → List Slot → Interp → List Slot → Result (Unit {0}) StepTrouble → Type 0
IsRow image i old before new after result =
    (m : Member) (store : Store) → HasBook old before m store → act image i m ≢ stuck → GoesTo new after m (act image i m) result

-- the references that registers hold stay held, beside others
abbrev pub KeepsHeld : Interp → List Slot → Interp → List Slot → Type 0
KeepsHeld old before new after =
    (others : List Serial) → AreHeld old.heap (references_of before ++ others) → AreHeld new.heap (references_of after ++ others)
