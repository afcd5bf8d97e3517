-- A member as plain data, and the member of the machine's definitions that it is.
use Rattle.std.specs.Prelude.{◌≡◌, ℕ, ◌+◌, List, [], ◌∷◌, ◌++◌, reverse, Option, Some, None}
use Rattle.std.specs.List.{flat_map}
use Rattle.px_model.specs.declared.outcomes.LoopEnd.{LoopEnd}
use Rattle.px_model.specs.declared.outcomes.LoopEnd.TheVariants.{Over, Raised, Spent}
use Rattle.px_model.specs.declared.stores.Store.{Store}
use Rattle.px_regcode.specs.declared.codes.Code.{Code}
use Rattle.px_machine.specs.Slots as machine
use Rattle.px_machine.specs.Steps.{MemberEnd, over, raised, spent}
use Rattle.px_heap.specs.declared.values.Serial.{Serial}
use Rattle.px_heap.specs.Heaps.{AreHeld}
use Rattle.px_interp.specs.Slots.{slots_of, references_of}
use Rattle.px_interp.specs.Interps.{Interp, Represents}
use Rattle.px_member.specs.declared.frames.Frame.{Frame}

-- the frame that runs; those that wait, the outermost first; the turns that are left; the size of teams; the object runtime, where the
-- member holds the lock; and how it ended
pub record Member : Type 0 where
  pub frame : Frame
  pub callers : List Frame
  pub turns : ℕ
  pub members : ℕ
  pub book : Option Interp
  pub end : Option LoopEnd

-- ---- the member that it is

abbrev pub frame_of : Frame → machine.Frame
frame_of f = record {
  function = f.function;
  pc = f.pc;
  registers = slots_of f.registers;
  result = f.result;
  handler = f.handler;
  caught = f.caught;
}

-- the frame waits for the call behind which it goes on
pub record Waits (f : Frame) (g : machine.Frame) : Type 0 where
  pub behind : g.pc + 1 ≡ f.pc
  pub is : record g { pc = f.pc } ≡ frame_of f

abbrev pub AllWait : List Frame → List machine.Frame → Type 0
AllWait [] [] = Unit {0}
AllWait (f ∷ fs) (g ∷ gs) = Waits f g × AllWait fs gs
AllWait _ _ = ⊥

abbrev pub IsStore : Option Interp → Option Store → Type 0
IsStore None None = Unit {0}
IsStore (Some interp) (Some store) = Represents interp store
IsStore _ _ = ⊥

pub record IsRest (member : Member) (rest : machine.Rest) : Type 0 where
  pub below : rest.below ≡ 0
  pub turns : rest.turns ≡ member.turns
  pub members : rest.members ≡ member.members
  pub store : IsStore member.book rest.store

pub record IsMember (member : Member) (m : machine.Member) : Type 0 where
  pub frame : m.frame ≡ frame_of member.frame
  pub callers : AllWait (reverse member.callers) m.callers
  pub rest : IsRest member m.rest

-- ---- how it ended

abbrev pub IsEnd : Option LoopEnd → MemberEnd → Type 0
IsEnd (Some Over) over = Unit {0}
IsEnd (Some (Raised f)) (raised g) = f ≡ g
IsEnd (Some Spent) spent = Unit {0}
IsEnd _ _ = ⊥

pub record HasEnded (member : Member) (last : MemberEnd) (after : machine.Rest) : Type 0 where
  pub end : IsEnd member.end last
  pub rest : IsRest member after

-- ---- references

abbrev pub references_in_frame : Frame → List Serial
references_in_frame f = references_of f.registers

-- those in the registers of all frames, the one that runs first
abbrev pub references_in : Member → List Serial
references_in member = references_in_frame member.frame ++ flat_map references_in_frame member.callers

-- each of them is held in the object runtime
abbrev pub AreHeldIn : Option Interp → List Serial → Type 0
AreHeldIn None references = Unit {0}
AreHeldIn (Some interp) references = AreHeld interp.heap references

abbrev pub HoldsAll : Member → Type 0
HoldsAll member = AreHeldIn member.book (references_in member)

-- how many registers code has, if it is there
abbrev pub count_of : Option Code → ℕ
count_of None = 0
count_of (Some code) = code.registers
