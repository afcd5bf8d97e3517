-- What calls and the instructions that end a frame do, by their rows.
use Rattle.std.proofs.Common.{◌≡◌, ◌≢◌, ℕ, zero, suc, ◌+◌, ◌<◌, ◌≤◌, Bool, true, false, List, [], ◌∷◌, ◌++◌, length, get_or, set, replicate, Option, Some, None, refl, sym, subst, ap, ◌∙◌, arith}
use Rattle.std.specs.Prelude.{if◌then◌else◌, nat_lt, reverse, slice_get}
use Rattle.std.specs.List.{flat_map}
use Rattle.std.proofs.lemmas.Bool.{lt-ltb, le-ltb}
use Rattle.std.proofs.lemmas.List.{append-nil, append_assoc, length-reverse, take-replicate}
use Rattle.std.proofs.lemmas.List.Concat.{flat_map-append}
use Rattle.px_base.specs.declared.faults.Kind.TheVariants.{RecursionError}
use Rattle.px_ctypes.specs.Operators.{fault_of}
use Rattle.px_regcode.specs.declared.operands.Register.{Register}
use Rattle.px_regcode.specs.declared.codes.Code.{Code}
use Rattle.px_regcode.specs.Images.{ImageParts}
use Rattle.px_regcode.specs.declared.instructions.Instr.TheVariants as instr
use Rattle.px_model.specs.declared.outcomes.LoopEnd.TheVariants.{Spent}
use Rattle.px_heap.specs.declared.values.Serial.{Serial}
use Rattle.px_machine.specs.Slots as machine
use Rattle.px_machine.specs.Slots.{member, with_rest}
use Rattle.px_machine.specs.Steps as step
use Rattle.px_machine.specs.Machine.{act, calls, faulting, opened, opening_registers, opens, returns, returns_slot, spends}
use Rattle.px_interp.specs.declared.registers.Slot.{Slot}
use Rattle.px_interp.specs.declared.registers.Slot.TheVariants.{Empty}
use Rattle.px_interp.specs.Slots.{references_in as references_in_slot, references_of, slot_of, slots_of}
use Rattle.px_member.specs.declared.frames.Frame.{Frame}
use Rattle.px_member.specs.declared.member.Step.{Step}
use Rattle.px_member.specs.declared.member.Step.TheVariants.{Went, Ended}
use Rattle.px_member.specs.Members.{AllWait, AreHeldIn, HoldsAll, IsMember, Member, frame_of, references_in, references_in_frame}
use Rattle.px_member.specs.Acts.{Acts, Did, opening}
use Rattle.px_member.proofs.References.{Among, all_among, among_held_in, both_among, no_references, second_among, taken_among, turned_among}
use Rattle.px_member.proofs.FrameSteps.{at_pc, last_first}

-- ---- registers

pub slot_there : (slots : List Slot) (k : ℕ) → get_or (slots_of slots) k machine.empty ≡ slot_of (get_or slots k Empty)
slot_there [] k = refl
slot_there (x ∷ slots) zero = refl
slot_there (x ∷ slots) (suc k) = slot_there slots k

pub empty_slots : (n : ℕ) → slots_of (replicate n Empty) ≡ replicate n machine.empty
empty_slots zero = refl
empty_slots (suc n) = ap (λ xs. machine.empty ∷ xs) (empty_slots n)

pub opening_is : (count : ℕ) (slots : List Slot) → slots ≡ replicate count Empty → opening_registers count [] ≡ slots_of slots
opening_is count slots e = take-replicate count count machine.empty (omega arith) ∙ sym (ap slots_of e ∙ empty_slots count)

-- ---- a frame that is opened

abbrev pub opened_in : ℕ → Option Register → List Slot → Frame
opened_in f d registers = record { function = f; pc = 0; registers = registers; result = d; handler = None; caught = None }

pub opens_frame : (old : Member) (f count pc : ℕ) (d : Option Register) (registers : List Slot) (callers : List Frame) → registers ≡ replicate count Empty → pc ≡ old.frame.pc + 1
    → callers ≡ old.callers ++ record old.frame { pc = pc } ∷ [] → (code : Code) (m : machine.Member) → code.registers ≡ count → IsMember old m
    → Did Went (opening f code d m) (record old { frame = opened_in f d registers; callers = callers })
opens_frame old f count pc d registers callers none next more code m n h = (
  member (opened f code d []) (m.frame ∷ m.callers) m.rest,
  refl,
  record {
    frame =
        let e : opening_registers code.registers [] ≡ slots_of registers = ap (λ (k : ℕ). opening_registers k []) n ∙ opening_is count registers none in
        ap (λ (xs : List machine.Slot). record (frame_of (opened_in f d registers)) { registers = xs }) e;
    callers =
        let behind : m.frame.pc + 1 ≡ pc = ap (λ (g : machine.Frame). g.pc + 1) h.frame ∙ sym next in
        let is : at_pc pc m.frame ≡ frame_of (record old.frame { pc = pc }) = ap (λ (g : machine.Frame). at_pc pc g) h.frame in
        subst (λ (fs : List Frame). AllWait fs (m.frame ∷ m.callers)) (sym (ap reverse more ∙ last_first old.callers (record old.frame { pc = pc })))
        (record { behind = behind; is = is }, h.callers);
    rest = record { below = h.rest.below; turns = h.rest.turns; members = h.rest.members; store = h.rest.store };
  },
)

pub opened_among : (frame : Frame) (count pc : ℕ) (registers : List Slot) (before callers : List Frame) → registers ≡ replicate count Empty → callers ≡ before ++ record frame { pc = pc } ∷ []
    → Among (references_of registers ++ flat_map references_in_frame callers) (references_in_frame frame ++ flat_map references_in_frame before)
opened_among frame count pc registers before callers none more =
    let is : references_of registers ≡ [] = ap references_of none ∙ no_references count in
    let all : flat_map references_in_frame callers ≡ flat_map references_in_frame before ++ references_in_frame frame =
    ap (flat_map references_in_frame) more ∙ flat_map-append references_in_frame before (record frame { pc = pc } ∷ [])
    ∙ ap (λ xs. flat_map references_in_frame before ++ xs) (append-nil (references_in_frame frame)) in
    subst (λ (xs : List Serial). Among xs (references_in_frame frame ++ flat_map references_in_frame before)) (sym (ap (λ xs. xs ++ flat_map references_in_frame callers) is ∙ all))
    (turned_among (references_in_frame frame) (flat_map references_in_frame before))

-- where there was no memory for the frame that waits
pub unopened_among : (frame : Frame) (count : ℕ) (registers : List Slot) (callers : List Frame) → registers ≡ replicate count Empty
    → Among (references_of registers ++ flat_map references_in_frame callers) (references_in_frame frame ++ flat_map references_in_frame callers)
unopened_among frame count registers callers none =
    let is : references_of registers ≡ [] = ap references_of none ∙ no_references count in
    subst (λ (xs : List Serial). Among xs (references_in_frame frame ++ flat_map references_in_frame callers)) (sym (ap (λ xs. xs ++ flat_map references_in_frame callers) is))
    (second_among (references_in_frame frame) (flat_map references_in_frame callers))

-- ---- the end of a frame

returned : (image : ImageParts) (a : Register) (m : machine.Member) → act image (instr.Return a) m ≡ returns_slot (machine.slot_of m a) m
unfolding act
returned image a m = refl

finished : (image : ImageParts) (m : machine.Member) → act image instr.Finish m ≡ returns machine.empty m
unfolding act
finished image m = refl

returns_full : (s : machine.Slot) (m : machine.Member) → returns_slot s m ≢ step.stuck → returns_slot s m ≡ returns s m
returns_full machine.empty m h = absurd (h refl)
returns_full (machine.whole n) m h = refl
returns_full (machine.object n) m h = refl
returns_full (machine.view v) m h = refl
returns_full (machine.fault f) m h = refl

pub gives_slot : (old : Member) (a : Register) (slot : Slot) (registers : List Slot) (result : Step) (new : Member) → slot ≡ get_or old.frame.registers a.number Empty
    → ((m : machine.Member) → IsMember (record old { frame = record old.frame { registers = registers } }) m → Did result (returns (slot_of slot) m) new)
    → (image : ImageParts) → Acts image (instr.Return a) old result new
gives_slot old a slot registers result new e go image m h apart =
    let there : machine.slot_of m a ≡ slot_of slot =
    ap (λ (g : machine.Frame). machine.slot_at g.registers a) h.frame ∙ slot_there old.frame.registers a.number ∙ ap slot_of (sym e) in
    let is : act image (instr.Return a) m ≡ returns_slot (slot_of slot) m = returned image a m ∙ ap (λ (s : machine.Slot). returns_slot s m) there in
    let full : returns_slot (slot_of slot) m ≡ returns (slot_of slot) m = returns_full (slot_of slot) m (λ k. apart (is ∙ k)) in
    subst (λ (s : step.Step). Did result s new) (sym (is ∙ full)) (go (machine.in_frame (record m.frame { registers = slots_of registers }) m) (record {
      frame = ap (λ (g : machine.Frame). record g { registers = slots_of registers }) h.frame;
      callers = h.callers;
      rest = record { below = h.rest.below; turns = h.rest.turns; members = h.rest.members; store = h.rest.store };
    }))

pub gives_held : (old : Member) (a : Register) (slot : Slot) (registers : List Slot) → slot ≡ get_or old.frame.registers a.number Empty → registers ≡ set old.frame.registers a.number Empty
    → HoldsAll old → AreHeldIn old.book (references_in_slot slot ++ references_in (record old { frame = record old.frame { registers = registers } }))
gives_held old a slot registers e f =
    let there : references_in_slot slot ++ references_of registers ≡ references_in_slot (get_or old.frame.registers a.number Empty) ++ references_of (set old.frame.registers a.number Empty) =
    ap (λ (s : Slot). references_in_slot s ++ references_of registers) e ∙ ap (λ (xs : List Slot). references_in_slot (get_or old.frame.registers a.number Empty) ++ references_of xs) f in
    let front : Among (references_in_slot slot ++ references_of registers) (references_of old.frame.registers) =
    subst (λ (xs : List Serial). Among xs (references_of old.frame.registers)) (sym there) (taken_among old.frame.registers a.number) in
    let others : List Serial = flat_map references_in_frame old.callers in
    among_held_in _ _ old.book (subst (λ (xs : List Serial). Among xs (references_of old.frame.registers ++ others)) (append_assoc (references_in_slot slot) (references_of registers) others)
    (both_among _ _ _ _ front (all_among others)))

pub ends_frame : (old new : Member) (result : Step) → ((m : machine.Member) → IsMember old m → Did result (returns machine.empty m) new)
    → (image : ImageParts) → Acts image instr.Finish old result new
ends_frame old new result go image m h apart = subst (λ (s : step.Step). Did result s new) (sym (finished image m)) (go m h)

-- ---- calls

called : (image : ImageParts) (f : ℕ) (d : Option Register) (m : machine.Member) → act image (instr.Call f d []) m ≡ calls f (slice_get image.codes f) d [] (Some []) m
unfolding act
called image f d m = refl

pub calls_none : (image : ImageParts) (f : ℕ) (d : Option Register) (old new : Member) (result : Step) → slice_get image.codes f ≡ None → Acts image (instr.Call f d []) old result new
calls_none image f d old new result none m h apart = absurd (apart (called image f d m ∙ ap (λ (o : Option Code). calls f o d [] (Some []) m) none))

calls_some : (image : ImageParts) (f : ℕ) (d : Option Register) (code : Code) (m : machine.Member) → slice_get image.codes f ≡ Some code
    → act image (instr.Call f d []) m ≡ spends m.rest.turns (opens f code d [] []) m
calls_some image f d code m there = called image f d m ∙ ap (λ (o : Option Code). calls f o d [] (Some []) m) there

pub calls_spent : (image : ImageParts) (f : ℕ) (d : Option Register) (code : Code) (old : Member) → slice_get image.codes f ≡ Some code → old.turns ≡ 0
    → Acts image (instr.Call f d []) old Ended (record old { end = Some Spent })
calls_spent image f d code old there none m h apart = (
  step.spent,
  m.rest,
  calls_some image f d code m there ∙ ap (λ (n : ℕ). spends n (opens f code d [] []) m) (h.rest.turns ∙ none),
  record {
    end = tt;
    rest = record { below = h.rest.below; turns = h.rest.turns; members = h.rest.members; store = h.rest.store };
  },
)

spends_one : (turns left : ℕ) (go : machine.Member → step.Step) (m : machine.Member) → turns ≡ left + 1 → spends turns go m ≡ go (with_rest (record m.rest { turns = left }) m)
spends_one zero left go m e = absurd (omega (arith, e))
spends_one (suc n) left go m e = let f : n ≡ left = omega (arith, e) in ap (λ (k : ℕ). go (with_rest (record m.rest { turns = k }) m)) f

all_waiting : (fs : List Frame) (gs : List machine.Frame) → AllWait fs gs → length gs ≡ length fs
all_waiting [] [] h = refl
all_waiting [] (g ∷ gs) h = absurd h
all_waiting (f ∷ fs) [] h = absurd h
all_waiting (f ∷ fs) (g ∷ gs) h = ap suc (all_waiting fs gs h.1)

depth_is : (old : Member) (m : machine.Member) → IsMember old m → machine.depth m ≡ length old.callers + 1
depth_is old m h =
    let e = all_waiting (reverse old.callers) m.callers h.callers in
    let f = length-reverse old.callers in
    let g = h.rest.below in
    omega (arith, e, f, g)

by_depth : (b : Bool) (x y : step.Step) → b ≡ true → (if b then x else y) ≡ x
by_depth b x y e = rw e refl

by_no_depth : (b : Bool) (x y : step.Step) → b ≡ false → (if b then x else y) ≡ y
by_no_depth b x y e = rw e refl

left_member : (old : Member) (left : ℕ) (m : machine.Member) → IsMember old m → IsMember (record old { turns = left }) (with_rest (record m.rest { turns = left }) m)
left_member old left m h = record {
  frame = h.frame;
  callers = h.callers;
  rest = record { below = h.rest.below; turns = refl; members = h.rest.members; store = h.rest.store };
}

pub calls_deep : (image : ImageParts) (f left : ℕ) (d : Option Register) (code : Code) (old new : Member) (result : Step) → slice_get image.codes f ≡ Some code → old.turns ≡ left + 1
    → 500 ≤ length old.callers + 1 → ((m : machine.Member) → IsMember (record old { turns = left }) m → Did result (faulting (fault_of RecursionError 31) m) new)
    → Acts image (instr.Call f d []) old result new
calls_deep image f left d code old new result there turns deep go m h apart =
    let k : machine.Member = with_rest (record m.rest { turns = left }) m in
    let i = left_member old left m h in
    let far : nat_lt (machine.depth k) 500 ≡ false = let e = depth_is (record old { turns = left }) k i in le-ltb (machine.depth k) 500 (omega (arith, e, deep)) in
    let is : act image (instr.Call f d []) m ≡ faulting (fault_of RecursionError 31) k =
    calls_some image f d code m there ∙ spends_one m.rest.turns left (opens f code d [] []) m (h.rest.turns ∙ turns) ∙ by_no_depth (nat_lt (machine.depth k) 500) _ _ far in
    subst (λ (s : step.Step). Did result s new) (sym is) (go k i)

pub calls_opening : (image : ImageParts) (f left : ℕ) (d : Option Register) (code : Code) (old new : Member) (result : Step) → slice_get image.codes f ≡ Some code → old.turns ≡ left + 1
    → length old.callers + 1 < 500 → ((c : Code) (m : machine.Member) → c.registers ≡ code.registers → IsMember (record old { turns = left }) m → Did result (opening f c d m) new)
    → Acts image (instr.Call f d []) old result new
calls_opening image f left d code old new result there turns few go m h apart =
    let k : machine.Member = with_rest (record m.rest { turns = left }) m in
    let i = left_member old left m h in
    let near : nat_lt (machine.depth k) 500 ≡ true = let e = depth_is (record old { turns = left }) k i in lt-ltb (machine.depth k) 500 (omega (arith, e, few)) in
    let is : act image (instr.Call f d []) m ≡ opening f code d k =
    calls_some image f d code m there ∙ spends_one m.rest.turns left (opens f code d [] []) m (h.rest.turns ∙ turns) ∙ by_depth (nat_lt (machine.depth k) 500) _ _ near in
    subst (λ (s : step.Step). Did result s new) (sym is) (go code k refl i)
