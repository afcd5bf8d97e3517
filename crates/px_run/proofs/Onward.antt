-- A member of formed code, whose instructions all run, goes on as the facts say, and comes nearer to its end by each of them.
use Rattle.std.proofs.Common.{◌≡◌, ℕ, ◌+◌, ◌*◌, ◌<◌, ◌≤◌, Bool, true, false, refl, sym, ap, ◌∙◌, subst, arith, mul-le-mul_left}
use Rattle.std.proofs.Common.{pos, List, [], ◌∷◌, length, slice_get, get_or, Option, Some, None}
use Rattle.std.proofs.lemmas.Option.{slice_get_within, slice_get-get_or}
use Rattle.px_base.specs.declared.faults.Fault.{Fault}
use Rattle.px_regcode.specs.declared.operands.Register.{Register}
use Rattle.px_regcode.specs.declared.codes.Code.{Code}
use Rattle.px_regcode.specs.declared.instructions.Instr.{Instr}
use Rattle.px_regcode.specs.declared.instructions.Instr.TheVariants as instr
use Rattle.px_regcode.specs.Images.{ImageParts, IsAt}
use Rattle.px_regcode.specs.Effects.{may_fault}
use Rattle.px_regcode.specs.Facts.{FrameFact, FrameMay, follows, frame_fact, outside, done, faulted, successors, frame_done, frame_after}
use Rattle.px_regcode.specs.Paths as paths
use Rattle.px_regcode.specs.Formed.{IsFormed, Keeps, shape}
use Rattle.px_meaning.specs.States.{State}
use Rattle.px_machine.specs.Running.{AllRun}
use Rattle.px_machine.specs.Slots.{Slot, Frame, Rest, Member, member}
use Rattle.px_machine.specs.Steps.{Step, went, loads, puts, fills, copies, makes, releases, enters, leaves, ended, stuck}
use Rattle.px_machine.specs.Machine.{at_handler, handled, unwound, back_in, returns_to, instruction_in, act_at, step}
use Rattle.px_machine.specs.Means.{first_member}
use Rattle.px_run.specs.Heights.{fact_of, frame_height, longest, steps_left}
use Rattle.px_run.specs.Among.{IsAmong, IsWaiting, AreWaiting, AreAmong}
use Rattle.px_run.proofs.Heights.{frame_most, frame_falls}
use Rattle.px_run.proofs.Forms.{Turns, IsCall, Comes, nowhere, along, unwinds, gives, begins, stops, second_fault}
use Rattle.px_run.proofs.Comes.{comes}

-- ---- where instructions stand

-- an instruction stands at a place
pub record Stands (image : ImageParts) (function pc : ℕ) : Type 0 where
  pub instruction : Instr
  pub at : IsAt image function pc instruction
  pub is : instruction_in (slice_get image.codes function) pc ≡ Some instruction
  pub within : pc < length at.code.instrs

in_code : (image : ImageParts) (function : ℕ) (code : Code) (pc : ℕ) → slice_get image.codes function ≡ Some code → pc < length code.instrs
    → Stands image function pc
in_code image function code pc is less =
    let there = slice_get-get_or code.instrs pc instr.Finish less in
    record {
      instruction = get_or code.instrs pc instr.Finish;
      at = record { code = code; is_code = is; is_instr = there };
      is = ap (λ o. instruction_in o pc) is ∙ there;
      within = less;
    }

-- one stands at each place that has a fact
pub stands_there : (image : ImageParts) → IsFormed image → (function pc : ℕ) (fact : FrameFact) → FrameMay image function pc fact
    → Stands image function pc
unfolding Keeps
stands_there image formed function pc fact (FrameMay.entry less) =
    let is = slice_get-get_or image.codes function formed.first less in
    in_code image function (get_or image.codes function formed.first) 0 is (formed.functions function _ is).some
stands_there image formed function pc fact (follows {pc = before} {i = i} {way = way} {fact = was} may at c) =
    in_code image function at.code pc at.is_code ((formed.rules function before at.code i was shape at.is_code at.is_instr may).followers way pc c)

-- the instruction of the frame that runs
pub stands_at : (image : ImageParts) → IsFormed image → (m : Member) → AreAmong image m → Stands image m.frame.function m.frame.pc
stands_at image formed m among = stands_there image formed m.frame.function m.frame.pc (fact_of m.frame) among.frame

pub first_among : (image : ImageParts) → IsFormed image → (s : State) → AreAmong image (first_member image s)
first_among image formed s = record { frame = FrameMay.entry (slice_get_within image.codes 0 formed.first formed.is_first); callers = tt }

-- ---- what falls

lower : (w a b g h : ℕ) → a < b → g < w → w * a + g < w * b + h
lower w a b g h less within =
    let le : w * (a + 1) ≤ w * b = mul-le-mul_left w (omega arith) in
    let e : w * (a + 1) ≡ w * a + w = omega arith in
    omega arith

-- fewer turns or fewer frames that wait are fewer steps, whatever frame runs
fewer : (image : ImageParts) (m n : Member) → 2 * n.rest.turns + length n.callers < 2 * m.rest.turns + length m.callers
    → steps_left image n < steps_left image m
unfolding steps_left
fewer image m n less =
    let le = frame_most image n.frame in
    lower (longest image + 1) (2 * n.rest.turns + length n.callers) (2 * m.rest.turns + length m.callers)
    (frame_height image n.frame) (frame_height image m.frame) less (omega arith)

lower_frame : (image : ImageParts) (m : Member) (frame : Frame) (rest : Rest) → rest.turns ≡ m.rest.turns
    → frame_height image frame < frame_height image m.frame
    → steps_left image (member frame m.callers rest) < steps_left image m
unfolding steps_left
lower_frame image m frame rest same less =
    let e : (longest image + 1) * (2 * rest.turns + length m.callers) ≡ (longest image + 1) * (2 * m.rest.turns + length m.callers) =
    ap (λ t. (longest image + 1) * (2 * t + length m.callers)) same in
    omega arith

-- ---- what a step comes to

-- The member goes on among the facts, with fewer steps left, or it has ended or is stuck; it makes no request.
abbrev pub Onward : ImageParts → Member → Step → Type 0
Onward image m (went n) = AreAmong image n × (steps_left image n < steps_left image m)
Onward image m (loads cell n) = ⊥
Onward image m (puts cell word n) = ⊥
Onward image m (fills cells word n) = ⊥
Onward image m (copies pairs from to n) = ⊥
Onward image m (makes buffer size n) = ⊥
Onward image m (releases buffer n) = ⊥
Onward image m (enters n) = ⊥
Onward image m (leaves store n) = ⊥
Onward image m (ended last rest) = Unit {0}
Onward image m stuck = Unit {0}

unwound_on : (image : ImageParts) (m : Member) (f : Fault) (callers : List Frame) (rest : Rest) → AreWaiting image callers
    → length callers ≤ length m.callers → rest.turns ≤ m.rest.turns → Onward image m (unwound f callers rest)
unfolding successors frame_after may_fault
unwound_on image m f [] rest waiting le turns = tt
unwound_on image m f (frame ∷ callers) rest waiting le turns = by frame.handler refl (unwound_on image m f callers rest waiting.1 (omega arith) turns)
  where
    by : (h : Option ℕ) → frame.handler ≡ h → Onward image m (unwound f callers rest)
        → Onward image m (at_handler h f frame callers rest (unwound f callers rest))
    by None e above = above
    by (Some k) e above =
        let c = second_fault {to = frame.pc + 1} k e in
        let after : IsAmong image (handled k f frame) = follows {way = faulted} waiting.0.among waiting.0.is_call c in
        (record { frame = after; callers = waiting.1 }, fewer image m (member (handled k f frame) callers rest) (omega arith))

returned_on : (image : ImageParts) (m : Member) (slot : Slot) (d : Option Register) (callers : List Frame) → AreWaiting image callers
    → length callers ≤ length m.callers → Onward image m (returns_to slot d callers m.rest)
unfolding successors frame_done frame_after
returned_on image m slot d [] waiting le = tt
returned_on image m slot d (frame ∷ callers) waiting le =
    let after : IsAmong image (back_in d slot frame) = follows {way = done} waiting.0.among waiting.0.is_call (0, omega arith, refl) in
    (record { frame = after; callers = waiting.1 }, fewer image m (member (back_in d slot frame) callers m.rest) (omega arith))

-- a caller stands where the frame stood that called
waits : (image : ImageParts) (frame caller : Frame) (i : Instr) → IsAmong image frame → IsAt image frame.function frame.pc i → IsCall i
    → caller.function ≡ frame.function → caller.pc ≡ frame.pc → caller.handler ≡ frame.handler → IsWaiting image caller
waits image frame caller i among at call function pc handler = record {
  among =
      subst (λ f. FrameMay image f caller.pc (fact_of caller)) (sym function)
      (subst (λ n. FrameMay image frame.function n (fact_of caller)) (sym pc)
      (subst (λ h. FrameMay image frame.function frame.pc (frame_fact h (pos 0) outside)) (sym handler) among));
  callee = call.callee;
  result = call.result;
  arguments = call.arguments;
  is_call =
      subst (λ f. IsAt image f caller.pc (instr.Call call.callee call.result call.arguments)) (sym function)
      (subst (λ n. IsAt image frame.function n (instr.Call call.callee call.result call.arguments)) (sym pc)
      (subst (λ x. IsAt image frame.function frame.pc x) call.is at));
}

comes_on : (image : ImageParts) → IsFormed image → (i : Instr) (m : Member) → IsAt image m.frame.function m.frame.pc i → AreAmong image m
    → (s : Step) → Comes image i m s → Onward image m s
comes_on image formed i m at among s nowhere = tt
comes_on image formed i m at among s (along way frame rest function c fact turns) = (
  record {
    frame =
        subst (λ f. FrameMay image f frame.pc (fact_of frame)) (sym function)
        (subst (λ x. FrameMay image m.frame.function frame.pc x) (sym fact) (follows among.frame at c));
    callers = among.callers;
  },
  by (paths.spends i) refl turns,
)
  where
    by : (b : Bool) → paths.spends i ≡ b → Turns b rest.turns m.rest.turns → steps_left image (member frame m.callers rest) < steps_left image m
    by true e spent = fewer image m (member frame m.callers rest) (omega arith)
    by false e same = lower_frame image m frame rest same (frame_falls image formed m.frame frame i way at among.frame function c fact e)
comes_on image formed i m at among s (unwinds f rest le) = unwound_on image m f m.callers rest among.callers (omega arith) le
comes_on image formed i m at among s (gives slot) = returned_on image m slot m.frame.result m.callers among.callers (omega arith)
comes_on image formed i m at among s (begins function code d slots caller rest there same pc handler call turns) = (
  record {
    frame = FrameMay.entry (slice_get_within image.codes function code there);
    callers = (waits image m.frame caller i among.frame at call same pc handler, among.callers);
  },
  fewer image m (member _ (caller ∷ m.callers) rest) (omega arith),
)
comes_on image formed i m at among s (stops last rest) = tt

-- ---- the member

pub goes_onward : (image : ImageParts) → IsFormed image → AllRun image → (m : Member) → AreAmong image m → Onward image m (step image m)
unfolding step
goes_onward image formed all m among =
    let there = stands_at image formed m among in
    let runs = all m.frame.function m.frame.pc there.instruction there.at in
    subst (λ o. Onward image m (act_at image o m)) (sym there.is)
    (comes_on image formed there.instruction m there.at among _ (comes image there.instruction m runs))

-- The next member is among the facts too, and has fewer steps left.
pub went_on : (image : ImageParts) → IsFormed image → AllRun image → (m n : Member) → AreAmong image m → step image m ≡ went n
    → AreAmong image n × (steps_left image n < steps_left image m)
went_on image formed all m n among is = subst (Onward image m) is (goes_onward image formed all m among)
