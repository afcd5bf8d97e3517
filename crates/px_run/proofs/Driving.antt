-- A member that runs to its end does so step by step.
use Rattle.std.proofs.Common.{◌≡◌, ◌≢◌, suc, ◌<◌, List, [], ◌∷◌, length, map, reverse, refl, ap, subst, arith}
use Rattle.px_regcode.specs.Images.{ImageParts}
use Rattle.px_meaning.specs.Worlds.{World}
use Rattle.px_machine.specs.Slots as machine
use Rattle.px_machine.specs.Steps.{MemberEnd, went, ended, stuck}
use Rattle.px_machine.specs.OneWorld.{Reaches}
use Rattle.px_machine.specs.Machine.{step}
use Rattle.px_member.specs.declared.frames.Frame.{Frame}
use Rattle.px_member.specs.declared.member.Step.TheVariants.{Went, Ended}
use Rattle.px_member.specs.Members.{Member, IsMember, AllWait, HasEnded, frame_of}
use Rattle.px_member.specs.Acts.{Did}
use Rattle.px_run.specs.Heights.{steps_left}
use Rattle.px_run.specs.Among.{AreAmong}
use Rattle.px_run.specs.Driving.{EndsSo, left}
use Rattle.px_regcode.specs.Formed.{IsFormed}
use Rattle.px_machine.specs.Running.{AllRun}
use Rattle.px_run.proofs.Onward.{went_on}
use Rattle.px_run.proofs.Reaching.{reached_next, reached_end, never_stuck as stuck_never}

-- what holds of the steps of an image
pub record Steps (image : ImageParts) : Type 0 where
  pub among : (m n : machine.Member) → AreAmong image m → step image m ≡ went n → AreAmong image n
  pub falls : (m n : machine.Member) → AreAmong image m → step image m ≡ went n → steps_left image n < steps_left image m
  pub free : (m : machine.Member) (w v : World) (last : MemberEnd) (rest : machine.Rest) → Reaches image (went m) w (ended last rest) v → step image m ≢ stuck
  pub goes : (m n : machine.Member) (w v : World) (last : MemberEnd) (rest : machine.Rest) → Reaches image (went m) w (ended last rest) v → step image m ≡ went n
      → Reaches image (went n) w (ended last rest) v
  pub ends : (m : machine.Member) (w v : World) (last l : MemberEnd) (rest r : machine.Rest) → Reaches image (went m) w (ended last rest) v → step image m ≡ ended l r
      → (l ≡ last) × (r ≡ rest) × (v ≡ w)

all_wait : (fs : List Frame) (gs : List machine.Frame) → AllWait fs gs → length gs ≡ length (map frame_of fs)
all_wait [] [] a = refl
all_wait [] (g ∷ gs) a = absurd a
all_wait (f ∷ fs) [] a = absurd a
all_wait (f ∷ fs) (g ∷ gs) a = ap suc (all_wait fs gs a.1)

-- what is left of a member is what is left of the member of the machine that it is
same_left : (image : ImageParts) (p : Member) (m : machine.Member) → IsMember p m → left image p ≡ steps_left image m
unfolding left steps_left
same_left image p m is =
    let frame = is.frame in
    let turns = is.rest.turns in
    let waiting = all_wait (reverse p.callers) m.callers is.callers in
    cc

pub steps_of : (image : ImageParts) → IsFormed image → AllRun image → Steps image
steps_of image formed all = record {
  among = λ m n a is. (went_on image formed all m n a is).0;
  falls = λ m n a is. (went_on image formed all m n a is).1;
  free = λ m w v last rest r is. stuck_never image m last rest w v r is;
  goes = λ m n w v last rest r is. reached_next image m n last rest w v r is;
  ends = λ m w v last l rest k r is. reached_end image m l last k rest w v r is;
}

module _ (image : ImageParts) (steps : Steps image) where
  pub goes_on : (p q : Member) (w v : World) (last : MemberEnd) (rest : machine.Rest) (so : EndsSo image p w last rest v) → Did Went (step image so.is) q
      → EndsSo image q w last rest v
  goes_on p q w v last rest so did = record {
    is = did.0;
    is_member = did.2;
    among = steps.among so.is did.0 so.among did.1;
    reaches = steps.goes so.is did.0 w v last rest so.reaches did.1;
  }

  pub falls : (p q : Member) (w v : World) (last : MemberEnd) (rest : machine.Rest) (so : EndsSo image p w last rest v) → Did Went (step image so.is) q
      → left image q < left image p
  falls p q w v last rest so did =
      let less = steps.falls so.is did.0 so.among did.1 in
      let a = same_left image p so.is so.is_member in
      let b = same_left image q did.0 did.2 in
      omega (arith, less, a, b)

  pub never_stuck : (p : Member) (w v : World) (last : MemberEnd) (rest : machine.Rest) (so : EndsSo image p w last rest v) → step image so.is ≢ stuck
  never_stuck p w v last rest so = steps.free so.is w v last rest so.reaches

  pub over : (p q : Member) (w v : World) (last : MemberEnd) (rest : machine.Rest) (so : EndsSo image p w last rest v) → Did Ended (step image so.is) q
      → HasEnded q last rest × (v ≡ w)
  over p q w v last rest so did =
      let same = steps.ends so.is w v last did.0 rest did.1 so.reaches did.2 in
      (subst (λ r. HasEnded q last r) same.1 (subst (λ l. HasEnded q l did.1) same.0 did.3), same.2)
