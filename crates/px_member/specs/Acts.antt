-- What a member does by an instruction, as its row has it.
use Rattle.std.specs.Prelude.{◌≡◌, ◌≢◌, ℕ, [], ◌∷◌, Option}
use Rattle.px_regcode.specs.declared.instructions.Instr.{Instr}
use Rattle.px_regcode.specs.declared.operands.Register.{Register}
use Rattle.px_regcode.specs.declared.codes.Code.{Code}
use Rattle.px_regcode.specs.Images.{ImageParts}
use Rattle.px_model.specs.declared.stores.Store.{Store}
use Rattle.px_machine.specs.Slots as machine
use Rattle.px_machine.specs.Steps as step
use Rattle.px_machine.specs.Steps.{MemberEnd}
use Rattle.px_machine.specs.Machine.{act, opened}
use Rattle.px_member.specs.declared.member.Step.{Step}
use Rattle.px_member.specs.declared.member.Step.TheVariants.{Went, NotYet, Ended, NoMemory}
use Rattle.px_interp.specs.Slots.{slots_of}
use Rattle.px_interp.specs.Interps.{Interp, Represents}
use Rattle.px_interp.specs.Rows.{with_registers}
use Rattle.px_member.specs.Members.{Member, IsMember, HasEnded}

-- what was told of a step; with want of memory nothing is said of the member
abbrev pub Did : Step → step.Step → Member → Type 0
Did Went s new = (n : machine.Member) × (s ≡ step.went n) × IsMember new n
Did NotYet s new = ⊥
Did Ended s new = (last : MemberEnd) × (rest : machine.Rest) × (s ≡ step.ended last rest) × HasEnded new last rest
Did NoMemory s new = Unit {0}

-- an instruction was done, unless it is stuck
abbrev pub Acts : ImageParts → Instr → Member → Step → Member → Type 0
Acts image i old result new = (m : machine.Member) → IsMember old m → act image i m ≢ step.stuck → Did result (act image i m) new

-- a frame of a function without arguments is opened over the one that runs
abbrev pub opening : ℕ → Code → Option Register → machine.Member → step.Step
opening f code d m = step.went (machine.member (opened f code d []) (m.frame ∷ m.callers) m.rest)

-- it is this member of the machine, but that it has other registers and a store that the runtime stands for
abbrev pub IsMemberThen : Member → Interp → machine.Member → Type 0
IsMemberThen member book m =
    (after : Store) → Represents book after → IsMember member (with_registers (slots_of member.frame.registers) (machine.storing after m))
