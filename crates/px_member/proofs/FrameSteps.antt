-- The frames of a member: where faults go, and what a call opens and its end leaves.
use Rattle.std.proofs.Common.{◌≡◌, ℕ, ◌+◌, List, [], ◌∷◌, ◌++◌, set, Option, Some, None, refl, sym, subst, ap, ◌∙◌}
use Rattle.std.specs.Prelude.{reverse}
use Rattle.std.specs.List.{flat_map}
use Rattle.std.proofs.lemmas.List.{append-nil, append_assoc, map-set, reverse-append}
use Rattle.std.proofs.lemmas.List.Concat.{flat_map-append}
use Rattle.px_base.specs.declared.faults.Fault.{Fault}
use Rattle.px_regcode.specs.declared.operands.Register.{Register}
use Rattle.px_regcode.specs.Images.{ImageParts}
use Rattle.px_regcode.specs.declared.instructions.Instr.TheVariants as instr
use Rattle.px_model.specs.declared.outcomes.LoopEnd.TheVariants.{Raised}
use Rattle.px_heap.specs.declared.values.Serial.{Serial}
use Rattle.px_machine.specs.Slots as machine
use Rattle.px_machine.specs.Slots.{Rest, member}
use Rattle.px_machine.specs.Steps as step
use Rattle.px_machine.specs.Machine.{act, at_handler, caught_fault, back_in, faulting, returns, returns_to, unwound}
use Rattle.px_interp.specs.declared.registers.Slot.{Slot}
use Rattle.px_interp.specs.Slots.{references_in as references_in_slot, references_of, slot_of, slots_of}
use Rattle.px_interp.specs.Interps.{Interp}
use Rattle.px_member.specs.declared.frames.Frame.{Frame}
use Rattle.px_member.specs.declared.member.Step.{Step}
use Rattle.px_member.specs.declared.member.Step.TheVariants.{Went, Ended}
use Rattle.px_member.specs.Members.{AllWait, HoldsAll, IsMember, IsRest, IsStore, Member, Waits, frame_of, references_in_frame}
use Rattle.px_member.specs.Acts.{Acts, Did}
use Rattle.px_member.proofs.References.{Among, all_among, among_held_in, both_among, second_among, set_among, turned_among, among_among}

-- ---- frames that wait

pub last_first : (fs : List Frame) (f : Frame) → reverse (fs ++ f ∷ []) ≡ f ∷ reverse fs
last_first fs f = reverse-append fs (f ∷ [])

pub record Waiting (fs : List Frame) (f : Frame) (gs : List machine.Frame) : Type 0 where
  pub first : machine.Frame
  pub others : List machine.Frame
  pub are : gs ≡ first ∷ others
  pub waits : Waits f first
  pub all_wait : AllWait (reverse fs) others

first_waits : (fs : List Frame) (f : Frame) (gs : List machine.Frame) → AllWait (f ∷ reverse fs) gs → Waiting fs f gs
first_waits fs f [] h = absurd h
first_waits fs f (g ∷ gs) h = record { first = g; others = gs; are = refl; waits = h.0; all_wait = h.1 }

-- the last of the frames is the innermost one that waits
pub last_waits : (callers fs : List Frame) (f : Frame) (gs : List machine.Frame) → callers ≡ fs ++ f ∷ [] → AllWait (reverse callers) gs → Waiting fs f gs
last_waits callers fs f gs e h = first_waits fs f gs (rw (ap reverse e ∙ last_first fs f) at h)

none_waits : (gs : List machine.Frame) → AllWait [] gs → gs ≡ []
none_waits [] h = refl
none_waits (g ∷ gs) h = absurd h

pub no_frame_waits : (callers : List Frame) (gs : List machine.Frame) → callers ≡ [] → AllWait (reverse callers) gs → gs ≡ []
no_frame_waits callers gs e h = none_waits gs (rw (ap reverse e) at h)

-- ---- the references in frames

-- those of a member whose frame ends
pub frame_among : (frame f : Frame) (callers fs : List Frame) → callers ≡ fs ++ f ∷ []
    → Among (references_in_frame f ++ flat_map references_in_frame fs) (references_in_frame frame ++ flat_map references_in_frame callers)
frame_among frame f callers fs e =
    let all : flat_map references_in_frame callers ≡ flat_map references_in_frame fs ++ references_in_frame f =
    ap (flat_map references_in_frame) e ∙ flat_map-append references_in_frame fs (f ∷ []) ∙ ap (λ xs. flat_map references_in_frame fs ++ xs) (append-nil (references_in_frame f)) in
    among_among _ _ _ (subst (λ (xs : List Serial). Among (references_in_frame f ++ flat_map references_in_frame fs) xs) (sym all) (turned_among (flat_map references_in_frame fs) (references_in_frame f)))
    (second_among (references_in_frame frame) (flat_map references_in_frame callers))

-- ---- where a fault goes

abbrev pub at_pc : ℕ → machine.Frame → machine.Frame
at_pc pc g = record g { pc = pc }

-- What a fault does to the member of the machine is what it does in a frame of it, where the frames over that have no handler.
pub record UnwindsFrom (fault : Fault) (now : Member) (m : machine.Member) : Type 0 where
  pub frame : machine.Frame
  pub callers : List machine.Frame
  pub is : record frame { pc = now.frame.pc } ≡ frame_of now.frame
  pub all_wait : AllWait (reverse now.callers) callers
  pub rest : IsRest now m.rest
  pub same : faulting fault m ≡ unwound fault (frame ∷ callers) m.rest

pub record Unwinds (fault : Fault) (old now : Member) : Type 0 where
  pub from : (m : machine.Member) → IsMember old m → UnwindsFrom fault now m
  pub held : HoldsAll old → HoldsAll now

pub none_unwound : (fault : Fault) (old : Member) → Unwinds fault old old
none_unwound fault old = record {
  from = λ m h. record {
    frame = m.frame;
    callers = m.callers;
    is = ap (λ (g : machine.Frame). at_pc old.frame.pc g) h.frame;
    all_wait = h.callers;
    rest = h.rest;
    same = refl;
  };
  held = λ h. h;
}

handler_is : (frame : Frame) (g : machine.Frame) → record g { pc = frame.pc } ≡ frame_of frame → g.handler ≡ frame.handler
handler_is frame g e = ap (λ x. x.handler) e

passes : (fault : Fault) (handler : Option ℕ) (frame : machine.Frame) (callers : List machine.Frame) (rest : Rest) → handler ≡ None
    → at_handler handler fault frame callers rest (unwound fault callers rest) ≡ unwound fault callers rest
passes fault handler frame callers rest e = rw e refl

-- a frame without a handler ends
pub unwound_more : (fault : Fault) (old now : Member) (fs : List Frame) (f : Frame) → Unwinds fault old now → now.frame.handler ≡ None → now.callers ≡ fs ++ f ∷ []
    → Unwinds fault old (record now { frame = f; callers = fs })
unwound_more fault old now fs f u none e = record {
  from = λ m h.
      let v = u.from m h in
      let w = last_waits now.callers fs f v.callers e v.all_wait in
      record {
        frame = w.first;
        callers = w.others;
        is = w.waits.is;
        all_wait = w.all_wait;
        rest = record { below = v.rest.below; turns = v.rest.turns; members = v.rest.members; store = v.rest.store };
        same = v.same ∙ passes fault v.frame.handler v.frame v.callers m.rest (handler_is now.frame v.frame v.is ∙ none) ∙ ap (λ gs. unwound fault gs m.rest) w.are;
      };
  held = λ h. among_held_in _ _ now.book (frame_among now.frame f now.callers fs e) (u.held h);
}

-- ---- the end of a frame

pc_forgotten : (fault : Fault) (handler : Option ℕ) (pc : ℕ) (frame : machine.Frame) (callers : List machine.Frame) (rest : Rest) (otherwise : step.Step)
    → at_handler handler fault (at_pc pc frame) callers rest otherwise ≡ at_handler handler fault frame callers rest otherwise
pc_forgotten fault None pc frame callers rest otherwise = refl
pc_forgotten fault (Some to) pc frame callers rest otherwise = refl

threw : (image : ImageParts) (m : machine.Member) → act image instr.Throw m ≡ unwound (caught_fault m.frame.caught) m.callers m.rest
unfolding act
threw image m = refl

-- the member whose fault was taken from its frame
abbrev pub no_fault : Member → Member
no_fault member = record member { frame = record member.frame { caught = None } }

pub rest_is : (old now : Member) (rest : Rest) → old.turns ≡ now.turns → old.members ≡ now.members → old.book ≡ now.book → IsRest old rest → IsRest now rest
rest_is old now rest turns members book h = record {
  below = h.below;
  turns = h.turns ∙ turns;
  members = h.members ∙ members;
  store = subst (λ (b : Option Interp). IsStore b rest.store) book h.store;
}

-- a frame that throws hands its fault to the one that waits for it
pub throws_on : (old now : Member) (fs : List Frame) (f : Frame) (fault : Fault) (result : Step) (new : Member) → fault ≡ caught_fault old.frame.caught → now ≡ no_fault old
    → now.callers ≡ fs ++ f ∷ [] → ((m : machine.Member) → IsMember (record now { frame = f; callers = fs }) m → Did result (faulting fault m) new)
    → (image : ImageParts) → Acts image instr.Throw old result new
throws_on old now fs f fault result new e is waiting go image m h apart =
    let w = last_waits old.callers fs f m.callers (ap (λ (x : Member). x.callers) (sym is) ∙ waiting) h.callers in
    let rest = rest_is old (record now { frame = f; callers = fs }) m.rest (ap (λ (x : Member). x.turns) (sym is)) (ap (λ (x : Member). x.members) (sym is)) (ap (λ (x : Member). x.book) (sym is)) h.rest in
    let d = go (member (at_pc f.pc w.first) w.others m.rest) (record { frame = w.waits.is; callers = w.all_wait; rest = rest }) in
    let same : caught_fault m.frame.caught ≡ fault = ap (λ (g : machine.Frame). caught_fault g.caught) h.frame ∙ sym e in
    let steps : act image instr.Throw m ≡ unwound fault (at_pc f.pc w.first ∷ w.others) m.rest =
    threw image m ∙ ap (λ g. unwound g m.callers m.rest) same ∙ ap (λ gs. unwound fault gs m.rest) w.are
    ∙ sym (pc_forgotten fault w.first.handler f.pc w.first w.others m.rest (unwound fault w.others m.rest)) in
    subst (λ (s : step.Step). Did result s new) (sym steps) d

pub throws_held : (old now : Member) (fs : List Frame) (f : Frame) → now ≡ no_fault old → now.callers ≡ fs ++ f ∷ [] → HoldsAll old → HoldsAll (record now { frame = f; callers = fs })
throws_held old now fs f is waiting h =
    let g : HoldsAll now = subst HoldsAll (sym is) h in
    among_held_in _ _ now.book (frame_among now.frame f now.callers fs waiting) g

-- or it is the member's end
pub throws_out : (old now : Member) (fault : Fault) (fs : List Frame) → fault ≡ caught_fault old.frame.caught → now ≡ no_fault old → now.callers ≡ []
    → (image : ImageParts) → Acts image instr.Throw old Ended (record now { callers = fs; end = Some (Raised fault) })
throws_out old now fault fs e is none image m h apart =
    let no_more = no_frame_waits old.callers m.callers (ap (λ (x : Member). x.callers) (sym is) ∙ none) h.callers in
    let same : caught_fault m.frame.caught ≡ fault = ap (λ (g : machine.Frame). caught_fault g.caught) h.frame ∙ sym e in (
      step.raised fault,
      m.rest,
      threw image m ∙ ap (λ g. unwound g m.callers m.rest) same ∙ ap (λ gs. unwound fault gs m.rest) no_more,
      record {
        end = refl;
        rest = rest_is old (record now { callers = fs; end = Some (Raised fault) }) m.rest (ap (λ (x : Member). x.turns) (sym is)) (ap (λ (x : Member). x.members) (sym is))
            (ap (λ (x : Member). x.book) (sym is)) h.rest;
      },
    )

-- ---- a value that a frame gives

-- what is known of a frame that waits, but for its registers
pub back_is : (f : Frame) (g : machine.Frame) (slots : List machine.Slot) → Waits f g → record g { pc = g.pc + 1; registers = slots } ≡ record (frame_of f) { registers = slots }
back_is f g slots w =
    ap (λ (n : ℕ). record g { pc = n; registers = slots }) w.behind ∙ ap (λ (x : machine.Frame). record x { registers = slots }) w.is

pub returns_on : (slot : machine.Slot) (d : Option Register) (callers gs : List machine.Frame) (g : machine.Frame) (rest : Rest) → callers ≡ g ∷ gs
    → returns_to slot d callers rest ≡ step.went (member (back_in d slot g) gs rest)
returns_on slot d callers gs g rest e = ap (λ (x : List machine.Frame). returns_to slot d x rest) e

-- the frame that waits goes on, and has it in a register
pub gives_back : (old : Member) (fs : List Frame) (f : Frame) (slot : Slot) (d : Register) (registers : List Slot) → old.callers ≡ fs ++ f ∷ [] → old.frame.result ≡ Some d
    → registers ≡ set f.registers d.number slot → (m : machine.Member) → IsMember old m
    → Did Went (returns (slot_of slot) m) (record old { frame = record f { registers = registers }; callers = fs })
gives_back old fs f slot d registers waiting there e m h =
    let w = last_waits old.callers fs f m.callers waiting h.callers in
    let r : m.frame.result ≡ Some d = ap (λ (g : machine.Frame). g.result) h.frame ∙ there in
    let now : slots_of registers ≡ set w.first.registers d.number (slot_of slot) =
    ap slots_of e ∙ map-set slot_of f.registers d.number slot ∙ ap (λ (g : machine.Frame). set g.registers d.number (slot_of slot)) (sym w.waits.is) in (
      member (back_in (Some d) (slot_of slot) w.first) w.others m.rest,
      returns_on (slot_of slot) m.frame.result m.callers w.others w.first m.rest w.are ∙ ap (λ (o : Option Register). step.went (member (back_in o (slot_of slot) w.first) w.others m.rest)) r,
      record {
        frame = back_is f w.first (set w.first.registers d.number (slot_of slot)) w.waits ∙ ap (λ (x : List machine.Slot). record (frame_of f) { registers = x }) (sym now);
        callers = w.all_wait;
        rest = record { below = h.rest.below; turns = h.rest.turns; members = h.rest.members; store = h.rest.store };
      },
    )

-- without a register for it the frame goes on as it was
pub gives_nothing : (old : Member) (fs : List Frame) (f : Frame) (slot : machine.Slot) → old.callers ≡ fs ++ f ∷ [] → old.frame.result ≡ None
    → (m : machine.Member) → IsMember old m → Did Went (returns slot m) (record old { frame = f; callers = fs })
gives_nothing old fs f slot waiting none m h =
    let w = last_waits old.callers fs f m.callers waiting h.callers in
    let r : m.frame.result ≡ None = ap (λ (g : machine.Frame). g.result) h.frame ∙ none in (
      member (back_in None slot w.first) w.others m.rest,
      returns_on slot m.frame.result m.callers w.others w.first m.rest w.are ∙ ap (λ (o : Option Register). step.went (member (back_in o slot w.first) w.others m.rest)) r,
      record {
        frame = back_is f w.first w.first.registers w.waits ∙ ap (λ (g : machine.Frame). record (frame_of f) { registers = g.registers }) w.waits.is;
        callers = w.all_wait;
        rest = record { below = h.rest.below; turns = h.rest.turns; members = h.rest.members; store = h.rest.store };
      },
    )

-- the references of the frame that ended go, and the value stays
pub given_among : (frame f : Frame) (callers fs : List Frame) (d : ℕ) (slot : Slot) (registers : List Slot) → callers ≡ fs ++ f ∷ [] → registers ≡ set f.registers d slot
    → Among (references_of registers ++ flat_map references_in_frame fs) (references_in_slot slot ++ (references_in_frame frame ++ flat_map references_in_frame callers))
given_among frame f callers fs d slot registers waiting e =
    let a : Among (references_of registers) (references_in_slot slot ++ references_in_frame f) = subst (λ (x : List Slot). Among (references_of x) (references_in_slot slot ++ references_in_frame f)) (sym e) (set_among f.registers d slot) in
    among_among _ _ _ (both_among _ _ _ _ a (all_among (flat_map references_in_frame fs)))
    (subst (λ (x : List Serial). Among x (references_in_slot slot ++ (references_in_frame frame ++ flat_map references_in_frame callers)))
    (sym (append_assoc (references_in_slot slot) (references_in_frame f) (flat_map references_in_frame fs)))
    (both_among _ _ _ _ (all_among (references_in_slot slot)) (frame_among frame f callers fs waiting)))
