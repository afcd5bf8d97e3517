-- Paths through a function, and what they come to, by frame facts of its instructions.
use Rattle.std.specs.Prelude.{◌≡◌, ℕ, Bool, true, false, Option, Some, None, Contains}
use Rattle.px_regcode.specs.declared.instructions.Instr.{Instr}
use Rattle.px_regcode.specs.declared.instructions.Instr.TheVariants as instr
use Rattle.px_regcode.specs.Images.{ImageParts, IsAt}
use Rattle.px_regcode.specs.Facts.{FrameFact, Way, successors}

-- an instruction behind which a path has spent a turn or begun an iteration
abbrev pub spends : Instr → Bool
spends instr.Turn = true
spends (instr.Call f d args) = true
spends instr.Begin = true
spends i = false

-- a path from an instruction to another, of one step or more, on which none of those stands
pub data FreePath (image : ImageParts) (frames : ℕ → ℕ → FrameFact → Type 0) (f : ℕ) : ℕ → ℕ → Type 0 where
  step : {pc to : ℕ} {i : Instr} {way : Way} {fact : FrameFact}
      → frames f pc fact → IsAt image f pc i → spends i ≡ false → Contains (successors image pc i fact) (way, to)
      → FreePath image frames f pc to
  steps : {pc mid to : ℕ} → FreePath image frames f pc mid → FreePath image frames f mid to → FreePath image frames f pc to

abbrev pub is_loop : Instr → Bool
is_loop (instr.Loop n d k) = true
is_loop i = false

abbrev pub is_members : Instr → Bool
is_members (instr.Members d) = true
is_members i = false

abbrev pub is_ticket : Instr → Bool
is_ticket instr.Ticket = true
is_ticket i = false

-- the function that an instruction calls
abbrev pub called : Instr → Option ℕ
called (instr.Call f d args) = Some f
called i = None

-- a function has such an instruction, to which some path comes, or calls one that has
pub data Reaches (image : ImageParts) (frames : ℕ → ℕ → FrameFact → Type 0) (such : Instr → Bool) : ℕ → Type 0 where
  itself : {f pc : ℕ} {i : Instr} {fact : FrameFact} → frames f pc fact → IsAt image f pc i → such i ≡ true → Reaches image frames such f
  by_call : {f pc g : ℕ} {i : Instr} {fact : FrameFact}
      → frames f pc fact → IsAt image f pc i → called i ≡ Some g → Reaches image frames such g → Reaches image frames such f
