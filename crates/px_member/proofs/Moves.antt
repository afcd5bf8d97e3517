-- The member of the definitions, behind what one does to the running frame.
use Rattle.std.proofs.Common.{◌≡◌, ◌≢◌, ℕ, zero, suc, ◌+◌, ◌-◌, ℤ, List, [], Option, Some, None, SFits, of_z, to_z, set, get_or, refl, sym, ap, ◌∙◌, subst, arith}
use Rattle.std.specs.Int.{w128}
use Rattle.std.proofs.lemmas.List.{map-set}
use Rattle.std.proofs.lemmas.Int.{to_z-of_z}
use Rattle.std.proofs.Math.ListN.{get_or-map}
use Rattle.std.proofs.lemmas.Option.{none-some, same_Some}
use Rattle.px_model.specs.declared.outcomes.LoopEnd.TheVariants.{Spent}
use Rattle.px_regcode.specs.declared.operands.Register.{Register}
use Rattle.px_regcode.specs.declared.instructions.Instr.TheVariants as instr
use Rattle.px_regcode.specs.Images.{ImageParts}
use Rattle.px_machine.specs.Slots as machine
use Rattle.px_machine.specs.Slots.{going_to, in_frame, next, with_rest, with_slot, writing}
use Rattle.px_machine.specs.Steps as step
use Rattle.px_machine.specs.Machine.{act, number_at, sets, spends, with_number}
use Rattle.px_interp.specs.declared.registers.Slot.{Slot}
use Rattle.px_interp.specs.declared.registers.Slot.TheVariants.{Empty, Whole, Object, View, Fault}
use Rattle.px_interp.specs.Slots.{number_in, slot_of}
use Rattle.px_member.specs.declared.frames.Frame.{Frame}
use Rattle.px_member.specs.declared.member.Step.{Step}
use Rattle.px_member.specs.declared.member.Step.TheVariants.{Went}
use Rattle.px_member.specs.Members.{HasEnded, IsMember, Member, frame_of}
use Rattle.px_member.specs.Acts.{Acts, Did}

pub seen : (view now : Member) → view ≡ now → (m : machine.Member) → IsMember now m → IsMember view m
seen view now e m h = subst (λ x. IsMember x m) (sym e) h

pub with_frame : (old : Member) (frame : Frame) (f : machine.Frame) (m : machine.Member) → f ≡ frame_of frame → IsMember old m
    → IsMember (record old { frame = frame }) (in_frame f m)
with_frame old frame f m e h = record {
  frame = e;
  callers = h.callers;
  rest = record { below = h.rest.below; turns = h.rest.turns; members = h.rest.members; store = h.rest.store };
}

pub moved_to : (pc : ℕ) (old : Member) (m : machine.Member) → IsMember old m
    → IsMember (record old { frame = record old.frame { pc = pc } }) (going_to pc m)
moved_to pc old m h = with_frame old (record old.frame { pc = pc }) _ m (ap {A = machine.Frame} (λ f. record f { pc = pc }) h.frame) h

pub jumps : (image : ImageParts) (pc : ℕ) (old : Member) (m : machine.Member) → IsMember old m
    → Did Went (act image (instr.Jump pc) m) (record old { frame = record old.frame { pc = pc } })
unfolding act
jumps image pc old m h = (going_to pc m, refl, moved_to pc old m h)

went_on : (m : machine.Member) → step.went m ≢ step.stuck
went_on m e = cc

no_code : ImageParts
no_code = record { codes = []; loops = []; constants = [] }

-- what goes on at an instruction, and behind that at which it stands
pub goes_to : (pc : ℕ) (mid new : Member) (result : Step) → ((image : ImageParts) → Acts image (instr.Jump pc) mid result new)
    → (m : machine.Member) → IsMember mid m → Did result (step.went (going_to pc m)) new
unfolding act
goes_to pc mid new result did m h = did no_code m h (went_on _)

pub goes_on : (pc : ℕ) (mid new : Member) (result : Step) → ((image : ImageParts) → Acts image (instr.Jump pc) mid result new)
    → (m : machine.Member) → IsMember mid m → pc ≡ mid.frame.pc + 1 → Did result (step.went (next m)) new
goes_on pc mid new result did m h e =
    let same : pc ≡ m.frame.pc + 1 = e ∙ ap (λ f. f.pc + 1) (sym h.frame) in
    subst (λ n. Did result (step.went (going_to n m)) new) same (goes_to pc mid new result did m h)

pub behind : (view now : Member) → view ≡ now → (pc : ℕ) → pc ≡ now.frame.pc + 1 → pc ≡ view.frame.pc + 1
behind view now e pc is = is ∙ ap (λ x. x.frame.pc + 1) (sym e)

-- ---- registers

pub written : (old : Member) (d : Register) (slot : Slot) (registers : List Slot) → registers ≡ set old.frame.registers d.number slot
    → (m : machine.Member) → IsMember old m
    → IsMember (record old { frame = record old.frame { registers = registers } }) (writing d (slot_of slot) m)
written old d slot registers e m h =
    let is = ap {A = machine.Frame} (λ f. record f { registers = with_slot d (slot_of slot) f.registers }) h.frame
    ∙ ap (λ slots. record (frame_of old.frame) { registers = slots }) (sym (map-set slot_of old.frame.registers d.number slot))
    ∙ ap (λ slots. frame_of (record old.frame { registers = slots })) (sym e) in
    with_frame old (record old.frame { registers = registers }) _ m is h

-- numbers stand in registers by their words
pub word_is : (registers slots : List Slot) (i : ℕ) (n : ℤ) → SFits w128 n → registers ≡ set slots i (Whole (to_z w128 (of_z w128 n)))
    → registers ≡ set slots i (Whole n)
word_is registers slots i n fits e = e ∙ ap (λ k. set slots i (Whole k)) (to_z-of_z w128 n fits)

pub slot_there : (old : Member) (a : Register) (m : machine.Member) → IsMember old m
    → machine.slot_of m a ≡ slot_of (get_or old.frame.registers a.number Empty)
slot_there old a m h = ap (λ f. get_or f.registers a.number machine.empty) h.frame ∙ get_or-map slot_of old.frame.registers a.number Empty

is_whole : (s : Slot) (n : ℤ) → number_in s ≡ Some n → slot_of s ≡ machine.whole n
is_whole Empty n e = absurd (none-some _ e)
is_whole (Whole k) n e = ap machine.whole (same_Some _ _ e)
is_whole (Object of) n e = absurd (none-some _ e)
is_whole (View v) n e = absurd (none-some _ e)
is_whole (Fault f) n e = absurd (none-some _ e)

is_stuck : (s : Slot) → number_in s ≡ None → (go : ℤ → step.Step) → with_number (slot_of s) go ≡ step.stuck
is_stuck Empty e go = refl
is_stuck (Whole k) e go = absurd (none-some _ (sym e))
is_stuck (Object of) e go = refl
is_stuck (View v) e go = refl
is_stuck (Fault f) e go = refl

pub number_slot : (old : Member) (a : Register) (m : machine.Member) (n : ℤ) → IsMember old m
    → number_in (get_or old.frame.registers a.number Empty) ≡ Some n
    → machine.slot_of m a ≡ machine.whole n
number_slot old a m n h e = slot_there old a m h ∙ is_whole _ n e

pub number_there : (old : Member) (a : Register) (m : machine.Member) (n : ℤ) → IsMember old m
    → number_in (get_or old.frame.registers a.number Empty) ≡ Some n
    → (go : ℤ → step.Step) → number_at m a go ≡ go n
number_there old a m n h e go = ap (λ s. with_number s go) (number_slot old a m n h e)

pub no_number : (old : Member) (a : Register) (m : machine.Member) → IsMember old m → number_in (get_or old.frame.registers a.number Empty) ≡ None
    → (go : ℤ → step.Step) → number_at m a go ≡ step.stuck
no_number old a m h e go = ap (λ s. with_number s go) (slot_there old a m h) ∙ is_stuck _ e go

pub set_to : (d : Register) (k n : ℤ) → k ≡ n → (m : machine.Member) (result : Step) (new : Member) → Did result (sets d (machine.whole k) m) new
    → Did result (sets d (machine.whole n) m) new
set_to d k n e m result new did = subst (λ x. Did result (sets d (machine.whole x) m) new) e did

-- ---- handlers, faults and turns

pub with_caught : (old new : Member) → new ≡ record old { frame = record old.frame { caught = None } } → (m : machine.Member) → IsMember old m
    → IsMember new (in_frame (record m.frame { caught = None }) m)
with_caught old new e m h =
    let is = ap {A = machine.Frame} (λ f. record f { caught = None }) h.frame in
    seen new _ e _ (with_frame old (record old.frame { caught = None }) _ m is h)

pub with_handler : (old : Member) (k to : Option ℕ) → k ≡ to → (m : machine.Member) → IsMember old m
    → IsMember (record old { frame = record old.frame { handler = k } }) (in_frame (record m.frame { handler = to }) m)
with_handler old k to e m h =
    let is = ap {A = machine.Frame} (λ f. record f { handler = to }) h.frame ∙ ap (λ x. record (frame_of old.frame) { handler = x }) (sym e) in
    with_frame old (record old.frame { handler = k }) _ m is h

pub spends_none : (n : ℕ) → n ≡ 0 → (go : machine.Member → step.Step) (m : machine.Member) → spends n go m ≡ step.ended step.spent m.rest
spends_none zero e go m = refl
spends_none (suc left) e go m = absurd (omega (arith, e))

pub spends_one : (n : ℕ) → n ≢ 0 → (go : machine.Member → step.Step) (m : machine.Member)
    → spends n go m ≡ go (with_rest (record m.rest { turns = n - 1 }) m)
spends_one zero d go m = absurd (d refl)
spends_one (suc left) d go m =
    let e : left ≡ suc left - 1 = omega arith in
    ap (λ n. go (with_rest (record m.rest { turns = n }) m)) e

pub with_turns : (old : Member) (n k : ℕ) → k ≡ n → (m : machine.Member) → IsMember old m
    → IsMember (record old { turns = n }) (with_rest (record m.rest { turns = k }) m)
with_turns old n k e m h = record {
  frame = h.frame;
  callers = h.callers;
  rest = record { below = h.rest.below; turns = e; members = h.rest.members; store = h.rest.store };
}

pub no_turn : (old : Member) (m : machine.Member) → IsMember old m → HasEnded (record old { end = Some Spent }) step.spent m.rest
no_turn old m h = record {
  end = tt;
  rest = record { below = h.rest.below; turns = h.rest.turns; members = h.rest.members; store = h.rest.store };
}
