-- The members of formed code: each of their frames is as the facts of its instruction say.
use Rattle.std.specs.Prelude.{ℕ, List, [], ◌∷◌, Option}
use Rattle.px_regcode.specs.declared.operands.Register.{Register}
use Rattle.px_regcode.specs.declared.instructions.Instr.TheVariants as instr
use Rattle.px_regcode.specs.Images.{ImageParts, IsAt}
use Rattle.px_regcode.specs.Facts.{FrameMay}
use Rattle.px_machine.specs.Slots.{Frame, Member}
use Rattle.px_run.specs.Heights.{fact_of}

-- a frame is as a fact of its instruction says
abbrev pub IsAmong : ImageParts → Frame → Type 0
IsAmong image frame = FrameMay image frame.function frame.pc (fact_of frame)

-- a frame that waits stands at the call for which it waits
pub record IsWaiting (image : ImageParts) (frame : Frame) : Type 0 where
  pub among : IsAmong image frame
  pub callee : ℕ
  pub result : Option Register
  pub arguments : List Register
  pub is_call : IsAt image frame.function frame.pc (instr.Call callee result arguments)

abbrev pub AreWaiting : ImageParts → List Frame → Type 0
AreWaiting image [] = Unit {0}
AreWaiting image (frame ∷ callers) = IsWaiting image frame × AreWaiting image callers

-- the frame that runs, and those that wait for it
pub record AreAmong (image : ImageParts) (m : Member) : Type 0 where
  pub frame : IsAmong image m.frame
  pub callers : AreWaiting image m.callers
