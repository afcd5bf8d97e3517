-- Tables of facts: what whoever makes code says of it in place of its facts. A table that has the entries, and that each instruction
-- keeps, has all facts; so code whose table breaks no rule is formed.
use Rattle.std.specs.Prelude.{◌≡◌, ℕ, suc, ◌<◌, pos, length, slice_get, Some, None, Contains}
use Rattle.px_regcode.specs.declared.codes.Code.{Code}
use Rattle.px_regcode.specs.declared.plans.LoopPlan.{LoopPlan}
use Rattle.px_regcode.specs.declared.instructions.Instr.{Instr}
use Rattle.px_regcode.specs.Images.{ImageParts, IsAt}
use Rattle.px_regcode.specs.Facts.{State, FrameFact, frame_fact, outside, Way, successors, frame_after, first_state, makes, hands_on}
use Rattle.px_regcode.specs.Plans.{IsPlan}
use Rattle.px_regcode.specs.Formed.{IsModule, IsName, IsCode, KeepsRules}

-- a table of the frame facts, and one of the states of registers, by function and instruction
pub record IsTable (image : ImageParts) (frames : ℕ → ℕ → FrameFact → Type 0) (registers : ℕ → ℕ → ℕ → State → Type 0) : Type 0 where
  pub entry : (f : ℕ) → f < length image.codes → frames f 0 (frame_fact None (pos 0) outside)
  pub follows : (f pc to : ℕ) (i : Instr) (way : Way) (fact : FrameFact)
      → frames f pc fact → IsAt image f pc i → Contains (successors image pc i fact) (way, to) → frames f to (frame_after i way fact)
  pub parameters : (f r : ℕ) (code : Code) → slice_get image.codes f ≡ Some code → r < code.registers
      → registers f 0 r (first_state (slice_get code.params r))
  pub made : (f pc to r : ℕ) (i : Instr) (way : Way) (fact : FrameFact) (s : State)
      → frames f pc fact → IsAt image f pc i → Contains (successors image pc i fact) (way, to)
      → Contains (makes image fact.stage i way) (r, s) → registers f to r s
  pub handed : (f pc to r d : ℕ) (i : Instr) (way : Way) (fact : FrameFact) (s t : State)
      → frames f pc fact → IsAt image f pc i → Contains (successors image pc i fact) (way, to)
      → registers f pc r s → Contains (hands_on image fact.stage i way r s) (d, t) → registers f to d t

-- an image is formed by a table: the rules are kept by what the table has
pub record IsFormedBy (image : ImageParts) (frames : ℕ → ℕ → FrameFact → Type 0) (registers : ℕ → ℕ → ℕ → State → Type 0) : Type 0 where
  pub first : Code
  pub is_first : slice_get image.codes 0 ≡ Some first
  pub is_module : IsModule first
  pub names : (f : ℕ) (code : Code) → slice_get image.codes (suc f) ≡ Some code → IsName code.name
  pub functions : (f : ℕ) (code : Code) → slice_get image.codes f ≡ Some code → IsCode code
  pub plans : (n : ℕ) (plan : LoopPlan) → slice_get image.loops n ≡ Some plan → IsPlan image n plan
  pub table : IsTable image frames registers
  pub rules : KeepsRules image frames registers
