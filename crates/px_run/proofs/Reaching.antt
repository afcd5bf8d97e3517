-- A member whose run reaches an end is not stuck before it, and each of its instructions leads there.
use Rattle.std.proofs.Common.{◌≡◌, ℕ, slice_get, List, [], ◌∷◌, Option, Some, None, refl, sym, subst}
use Rattle.px_base.specs.declared.faults.Fault.{Fault}
use Rattle.px_regcode.specs.declared.operands.Register.{Register}
use Rattle.px_regcode.specs.declared.codes.Code.{Code}
use Rattle.px_regcode.specs.declared.instructions.Instr.{Instr}
use Rattle.px_regcode.specs.Images.{ImageParts}
use Rattle.px_meaning.specs.Worlds.{World}
use Rattle.px_machine.specs.Running.{AllRun}
use Rattle.px_machine.specs.Slots.{Slot, Frame, Rest, Member, member}
use Rattle.px_machine.specs.Steps.{Step, MemberEnd, went, ended, stuck}
use Rattle.px_machine.specs.Machine.{at_handler, handled, unwound, back_in, returns_to, instruction_in, act_at, step}
use Rattle.px_machine.specs.OneWorld.{Reaches, here, goes}
use Rattle.px_run.proofs.Forms.{Comes, nowhere, along, unwinds, gives, begins, stops}
use Rattle.px_run.proofs.Comes.{comes}

-- ---- no requests

-- a step without a request
pub data Silent : Step → Type 0 where
  goes_on : (m : Member) → Silent (went m)
  ends : (last : MemberEnd) (rest : Rest) → Silent (ended last rest)
  sticks : Silent stuck

silent_unwound : (f : Fault) (callers : List Frame) (rest : Rest) → Silent (unwound f callers rest)
silent_unwound f [] rest = ends _ rest
silent_unwound f (frame ∷ callers) rest = by frame.handler (silent_unwound f callers rest)
  where
    by : (h : Option ℕ) → Silent (unwound f callers rest) → Silent (at_handler h f frame callers rest (unwound f callers rest))
    by None above = above
    by (Some k) above = goes_on (member (handled k f frame) callers rest)

silent_returned : (slot : Slot) (d : Option Register) (callers : List Frame) (rest : Rest) → Silent (returns_to slot d callers rest)
silent_returned slot d [] rest = ends _ rest
silent_returned slot d (frame ∷ callers) rest = goes_on (member (back_in d slot frame) callers rest)

silent_comes : (image : ImageParts) (i : Instr) (m : Member) (s : Step) → Comes image i m s → Silent s
silent_comes image i m s nowhere = sticks
silent_comes image i m s (along way frame rest function c fact turns) = goes_on _
silent_comes image i m s (unwinds f rest le) = silent_unwound f m.callers rest
silent_comes image i m s (gives slot) = silent_returned slot m.frame.result m.callers m.rest
silent_comes image i m s (begins function code d slots caller rest there same pc handler call turns) = goes_on _
silent_comes image i m s (stops last rest) = ends last rest

silent_at : (image : ImageParts) → AllRun image → (m : Member) (code : Code) → slice_get image.codes m.frame.function ≡ Some code → (o : Option Instr)
    → slice_get code.instrs m.frame.pc ≡ o → Silent (act_at image o m)
silent_at image all m code is_code None is = sticks
silent_at image all m code is_code (Some i) is =
    silent_comes image i m _ (comes image i m (all m.frame.function m.frame.pc i (record { code = code; is_code = is_code; is_instr = is })))

silent_in : (image : ImageParts) → AllRun image → (m : Member) (o : Option Code) → slice_get image.codes m.frame.function ≡ o
    → Silent (act_at image (instruction_in o m.frame.pc) m)
silent_in image all m None is = sticks
silent_in image all m (Some code) is = silent_at image all m code is (slice_get code.instrs m.frame.pc) refl

-- a member whose instructions all run makes no request
pub silent : (image : ImageParts) → AllRun image → (m : Member) → Silent (step image m)
unfolding step
silent image all m = silent_in image all m (slice_get image.codes m.frame.function) refl

-- ---- the end that is reached

-- an end is reached behind each instruction on the way

from_next : {image : ImageParts} {m : Member} {last : MemberEnd} {rest : Rest} {w v : World} → Reaches image (went m) w (ended last rest) v
    → Reaches image (step image m) w (ended last rest) v
from_next (goes r) = r

from_end : {image : ImageParts} {l last : MemberEnd} {r rest : Rest} {w v : World} → Reaches image (ended l r) w (ended last rest) v
    → (l ≡ last) × (r ≡ rest) × (v ≡ w)
from_end here = (refl, refl, refl)

from_stuck : {image : ImageParts} {last : MemberEnd} {rest : Rest} {w v : World} → Reaches image stuck w (ended last rest) v → ⊥
from_stuck r = elim r [ ]

pub reached_next : (image : ImageParts) (m n : Member) (last : MemberEnd) (rest : Rest) (w v : World) → Reaches image (went m) w (ended last rest) v
    → step image m ≡ went n → Reaches image (went n) w (ended last rest) v
reached_next image m n last rest w v r is = subst (λ s. Reaches image s w (ended last rest) v) is (from_next r)

pub reached_end : (image : ImageParts) (m : Member) (l last : MemberEnd) (k rest : Rest) (w v : World) → Reaches image (went m) w (ended last rest) v
    → step image m ≡ ended l k → (l ≡ last) × (k ≡ rest) × (v ≡ w)
reached_end image m l last k rest w v r is = from_end (subst (λ s. Reaches image s w (ended last rest) v) is (from_next r))

pub never_stuck : (image : ImageParts) (m : Member) (last : MemberEnd) (rest : Rest) (w v : World) → Reaches image (went m) w (ended last rest) v
    → step image m ≡ stuck → ⊥
never_stuck image m last rest w v r is = from_stuck (subst (λ s. Reaches image s w (ended last rest) v) is (from_next r))

-- what is reached from behind an instruction is reached from before it

pub before_next : (image : ImageParts) (m n : Member) (s : Step) (w v : World) → step image m ≡ went n → Reaches image (went n) w s v
    → Reaches image (went m) w s v
before_next image m n s w v is r = goes (subst (λ x. Reaches image x w s v) (sym is) r)

pub before_end : (image : ImageParts) (m : Member) (last : MemberEnd) (rest : Rest) (w : World) → step image m ≡ ended last rest
    → Reaches image (went m) w (ended last rest) w
before_end image m last rest w is = goes (subst (λ x. Reaches image x w (ended last rest) w) (sym is) here)
