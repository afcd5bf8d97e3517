-- A member that runs to its end.
use Rattle.std.specs.Prelude.{ℕ, List, [], reverse, map, Option, Some, None}
use Rattle.px_regcode.specs.Images.{ImageParts}
use Rattle.px_model.specs.declared.outcomes.Outcome.{Outcome}
use Rattle.px_meaning.specs.Worlds.{World}
use Rattle.px_machine.specs.Slots as machine
use Rattle.px_machine.specs.Steps.{MemberEnd, went, ended}
use Rattle.px_machine.specs.OneWorld.{Reaches, RunGives}
use Rattle.px_interp.specs.Interps.{Interp}
use Rattle.px_member.specs.Members.{Member, IsMember, frame_of}
use Rattle.px_run.specs.Heights.{steps_left}
use Rattle.px_run.specs.Among.{AreAmong}

-- the member runs to this end, by instructions that are as the facts say
pub record EndsSo (image : ImageParts) (member : Member) (w : World) (last : MemberEnd) (rest : machine.Rest) (v : World) : Type 0 where
  pub is : machine.Member
  pub is_member : IsMember member is
  pub among : AreAmong image is
  pub reaches : Reaches image (went is) w (ended last rest) v

-- it runs to some end
pub record Ends (image : ImageParts) (member : Member) : Type 0 where
  pub before : World
  pub last : MemberEnd
  pub rest : machine.Rest
  pub after : World
  pub so : EndsSo image member before last rest after

-- however the one runs to its end, the other does
abbrev pub EndsAsDoes : ImageParts → Member → Member → Type 0
EndsAsDoes image first member =
    (w : World) (last : MemberEnd) (rest : machine.Rest) (v : World) → EndsSo image first w last rest v → EndsSo image member w last rest v

-- ---- what falls

abbrev pub shape_of : Member → machine.Member
shape_of member = record {
  frame = frame_of member.frame;
  callers = map frame_of (reverse member.callers);
  rest = record { below = 0; buffers = []; store = None; holds = 0; turns = member.turns; members = member.members };
}

unfoldable pub left : ImageParts → Member → ℕ
left image member = steps_left image (shape_of member)

-- ---- the run of a module

-- the main member of an image runs to some end, whatever names and input the module has
pub record RunEnds (image : ImageParts) (turns members : ℕ) : Type 0 where
  pub names : ℕ
  pub input : List ℕ
  pub outcome : Outcome
  pub gives : RunGives image names input turns members outcome

-- what a runtime printed, if there is one
abbrev pub printed_of : Option Interp → List ℕ
printed_of None = []
printed_of (Some interp) = interp.output
