-- What the plan of a parallel loop says of its code.
use Rattle.std.specs.Prelude.{◌≡◌, ◌≢◌, ◌⊎◌, ◌↔◌, ℕ, suc, ◌<◌, ◌≤◌, pos, Bool, true, length, slice_get, Option, Some, None, Contains}
use Rattle.px_base.specs.declared.c_types.BinOp.{BinOp}
use Rattle.px_base.specs.declared.c_types.CType.TheVariants.{Bint}
use Rattle.px_regcode.specs.declared.codes.Code.{Code}
use Rattle.px_regcode.specs.declared.plans.LoopPlan.{LoopPlan}
use Rattle.px_regcode.specs.declared.plans.PlanCopy.{PlanCopy}
use Rattle.px_regcode.specs.declared.plans.Role.TheVariants as role
use Rattle.px_regcode.specs.declared.instructions.Instr.{Instr}
use Rattle.px_regcode.specs.Images.{ImageParts, IsAt}
use Rattle.px_regcode.specs.Facts.{FrameFact, frame_fact, inside, to_look, Way, successors, frame_after, FrameMay}
use Rattle.px_regcode.specs.Paths.{Reaches, is_ticket, called}
use Rattle.px_regcode.specs.Shapes.{IsReducing, plan_needs, registers_in}

-- The code of a loop is what paths from its start come to. They begin with no handler and no hold of the lock, whether or not some path
-- comes to the `loop`.
pub data BodyMay (image : ImageParts) (n : ℕ) (plan : LoopPlan) : ℕ → FrameFact → Type 0 where
  entry : BodyMay image n plan plan.start (frame_fact None (pos 0) (inside n to_look))
  follows : {pc to : ℕ} {i : Instr} {way : Way} {fact : FrameFact}
      → BodyMay image n plan pc fact → IsAt image plan.function pc i → Contains (successors image pc i fact) (way, to)
      → BodyMay image n plan to (frame_after i way fact)

-- it has such an instruction, or calls a function that reaches one
pub data BodyReaches (image : ImageParts) (n : ℕ) (plan : LoopPlan) (such : Instr → Bool) : Type 0 where
  itself : {pc : ℕ} {i : Instr} {fact : FrameFact}
      → BodyMay image n plan pc fact → IsAt image plan.function pc i → such i ≡ true → BodyReaches image n plan such
  by_call : {pc g : ℕ} {i : Instr} {fact : FrameFact}
      → BodyMay image n plan pc fact → IsAt image plan.function pc i → called i ≡ Some g → Reaches image (FrameMay image) such g
      → BodyReaches image n plan such

-- ---- frames

-- a function, and the code of a loop, calls a function

pub data Calls (image : ImageParts) (f g : ℕ) : Type 0 where
  at : {pc : ℕ} {i : Instr} {fact : FrameFact} → FrameMay image f pc fact → IsAt image f pc i → called i ≡ Some g → Calls image f g

pub data BodyCalls (image : ImageParts) (n : ℕ) (plan : LoopPlan) (g : ℕ) : Type 0 where
  at : {pc : ℕ} {i : Instr} {fact : FrameFact}
      → BodyMay image n plan pc fact → IsAt image plan.function pc i → called i ≡ Some g → BodyCalls image n plan g

-- calls lead from a function to another one, by one or more
pub data LeadsTo (image : ImageParts) : ℕ → ℕ → Type 0 where
  by_one : {f g : ℕ} → Calls image f g → LeadsTo image f g
  by_more : {f g h : ℕ} → Calls image f g → LeadsTo image g h → LeadsTo image f h

-- a call of the function comes to a recursion
pub data Recurs (image : ImageParts) : ℕ → Type 0 where
  itself : {f : ℕ} → LeadsTo image f f → Recurs image f
  by_call : {f g : ℕ} → Calls image f g → Recurs image g → Recurs image f

-- a call of the function opens so many frames, each within the one before
pub data Opens (image : ImageParts) : ℕ → ℕ → Type 0 where
  own : {f : ℕ} → Opens image f 1
  more : {f g k : ℕ} → Calls image f g → Opens image g k → Opens image f (suc k)

-- the greatest number of frames that the calls of a loop's code open, or none where they come to a recursion
abbrev pub IsDepth : ImageParts → ℕ → LoopPlan → Option ℕ → Type 0
IsDepth image n plan None = (g : ℕ) × BodyCalls image n plan g × Recurs image g
IsDepth image n plan (Some depth) =
    ((g k : ℕ) → BodyCalls image n plan g → Opens image g k → k ≤ depth)
    × ((depth ≡ 0) ⊎ ((g : ℕ) × BodyCalls image n plan g × Opens image g depth))

-- ---- plans

pub record IsPlan (image : ImageParts) (n : ℕ) (plan : LoopPlan) : Type 0 where
  pub code : Code
  pub is_there : slice_get image.codes plan.function ≡ Some code
  pub start : plan.start < length code.instrs
  pub registers : (r : ℕ) → Contains (registers_in (plan_needs (Some plan))) r → r < code.registers
  pub reductions : (copy : PlanCopy) (o : BinOp) → Contains plan.copies copy → copy.role ≡ role.Reduction o
      → (copy.ctype ≢ Bint) × IsReducing o
  pub lock : (plan.takes_lock ≡ true) ↔ BodyReaches image n plan is_ticket
  pub depth : IsDepth image n plan plan.depth
