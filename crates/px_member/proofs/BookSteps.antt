-- Instructions on objects as steps of a member that has the object runtime.
use Rattle.std.proofs.Common.{◌≡◌, ◌≢◌, ℕ, ◌+◌, List, [], ◌++◌, Option, Some, None, Result, Ok, Err, refl, sym, subst, ap, ◌∙◌}
use Rattle.std.specs.Prelude.{ℤ}
use Rattle.std.specs.List.{flat_map}
use Rattle.px_base.specs.declared.c_types.CType.{CType}
use Rattle.px_base.specs.declared.faults.Fault.{Fault}
use Rattle.px_base.specs.declared.faults.StepTrouble.{StepTrouble}
use Rattle.px_base.specs.declared.faults.StepTrouble.TheVariants as trouble
use Rattle.px_base.specs.declared.objects.Constant.{Constant}
use Rattle.px_model.specs.declared.stores.Store.{Store}
use Rattle.px_regcode.specs.declared.operands.Register.{Register}
use Rattle.px_regcode.specs.Images.{ImageParts, image_of}
use Rattle.px_regcode.specs.declared.instructions.Instr.{Instr}
use Rattle.px_regcode.specs.declared.instructions.Instr.TheVariants as instr
use Rattle.px_meaning.specs.Values.{Value}
use Rattle.px_heap.specs.Heaps.{AreHeld, Heap}
use Rattle.px_machine.specs.Slots as machine
use Rattle.px_machine.specs.Steps as step
use Rattle.px_machine.specs.Machine.{act, constant_at, faulting, object_at, prints, with_number, with_store}
use Rattle.px_interp.specs.declared.registers.Slot.{Slot}
use Rattle.px_interp.specs.Slots.{references_of, slots_of}
use Rattle.px_interp.specs.Interps.{Interp, Represents}
use Rattle.px_interp.specs.Rows.{GoesTo, IsRow, KeepsHeld, with_registers}
use Rattle.px_member.specs.declared.member.Step.{Step}
use Rattle.px_member.specs.Members.{AreHeldIn, HoldsAll, IsMember, IsStore, Member, references_in, references_in_frame}
use Rattle.px_member.specs.Acts.{Acts, Did, IsMemberThen}
use Rattle.px_member.proofs.References.{among_held, first_among}

-- ---- what comes behind an instruction

jumped : (image : ImageParts) (k : ℕ) (m : machine.Member) → act image (instr.Jump k) m ≡ step.went (machine.going_to k m)
unfolding act
jumped image k m = refl

is_not_stuck : (m : machine.Member) (s : step.Step) → s ≡ step.went m → s ≢ step.stuck
is_not_stuck m s e f = absurd (cc)

pub goes_behind : (old new : Member) (result : Step) (k : ℕ) → k ≡ old.frame.pc + 1 → ((image : ImageParts) → Acts image (instr.Jump k) old result new)
    → (m : machine.Member) → IsMember old m → Did result (step.went (machine.next m)) new
goes_behind old new result k e go m h =
    let image : ImageParts = image_of [] [] [] in
    let there : k ≡ m.frame.pc + 1 = e ∙ sym (ap (λ (g : machine.Frame). g.pc + 1) h.frame) in
    let is : act image (instr.Jump k) m ≡ step.went (machine.next m) = jumped image k m ∙ ap (λ (n : ℕ). step.went (machine.going_to n m)) there in
    subst (λ (s : step.Step). Did result s new) is (go image m h (is_not_stuck (machine.next m) (act image (instr.Jump k) m) is))

pub behind_done : (old new : Member) (result : Step) (k : ℕ) (done : Unit {0}) → k ≡ old.frame.pc + 1 → ((image : ImageParts) → Acts image (instr.Jump k) old result new)
    → (book : Interp) (m : machine.Member) (s : step.Step) → IsMemberThen old book m → GoesTo book old.frame.registers m s (Ok done) → Did result s new
behind_done old new result k done e go book m s h x =
    subst (λ (t : step.Step). Did result t new) (sym x.1) (goes_behind old new result k e go (with_registers (slots_of old.frame.registers) (machine.storing x.0 m)) (h x.0 x.2))

pub behind_fault : (old new : Member) (result : Step) (f : Fault) → ((m : machine.Member) → IsMember old m → Did result (faulting f m) new)
    → (book : Interp) (m : machine.Member) (s : step.Step) → IsMemberThen old book m → GoesTo book old.frame.registers m s (Err (trouble.Raised f)) → Did result s new
behind_fault old new result f go book m s h x =
    subst (λ (t : step.Step). Did result t new) (sym x.1) (go (with_registers (slots_of old.frame.registers) (machine.storing x.0 m)) (h x.0 x.2))

-- ---- with the object runtime

-- the member with other registers, and with another state of the runtime
abbrev pub with_book : Member → List Slot → Interp → Member
with_book member registers book = record member { frame = record member.frame { registers = registers }; book = Some book }

pub record HasStore (interp : Interp) (store : Option Store) : Type 0 where
  pub given : Store
  pub is : store ≡ Some given
  pub represents : Represents interp given

store_there : (interp : Interp) (store : Option Store) → IsStore (Some interp) store → HasStore interp store
store_there interp None h = absurd h
store_there interp (Some store) h = record { given = store; is = refl; represents = h }

pub row_done : (image : ImageParts) (i : Instr) (old new : Member) (before after : Interp) (registers : List Slot) (done : Result (Unit {0}) StepTrouble) (result : Step) → old.book ≡ Some before
    → IsRow image i before old.frame.registers after registers done
    → ((book : Interp) (m : machine.Member) (s : step.Step) → IsMemberThen (with_book old registers after) book m → GoesTo book registers m s done → Did result s new)
    → Acts image i old result new
row_done image i old new before after registers done result there row behind m h apart =
    let s = store_there before m.rest.store (subst (λ (b : Option Interp). IsStore b m.rest.store) there h.rest.store) in
    let goes = row m s.given (record { registers = ap (λ (g : machine.Frame). g.registers) h.frame; store = s.is; represents = s.represents }) apart in
    behind after m (act image i m) (λ store represents. record {
      frame = ap (λ (g : machine.Frame). record g { registers = slots_of registers }) h.frame;
      callers = h.callers;
      rest = record { below = h.rest.below; turns = h.rest.turns; members = h.rest.members; store = represents };
    }) goes

pub keeps_held : (old : Member) (before after : Interp) (registers : List Slot) → old.book ≡ Some before → KeepsHeld before old.frame.registers after registers → HoldsAll old
    → HoldsAll (with_book old registers after)
keeps_held old before after registers there keeps h =
    keeps (flat_map references_in_frame old.callers) (subst (λ (b : Option Interp). AreHeldIn b (references_in old)) there h)

pub registers_held : (old : Member) (before : Interp) → old.book ≡ Some before → HoldsAll old → AreHeld before.heap (references_of old.frame.registers)
registers_held old before there h =
    among_held _ _ before.heap (first_among (references_of old.frame.registers) (flat_map references_in_frame old.callers)) (subst (λ (b : Option Interp). AreHeldIn b (references_in old)) there h)

-- a runtime whose objects are as they were
pub same_held : (before after : Interp) (registers : List Slot) → after.heap ≡ before.heap → KeepsHeld before registers after registers
same_held before after registers e others h = subst (λ (heap : Heap). AreHeld heap (references_of registers ++ others)) (sym e) h

-- ---- without it, where no instruction on objects can be done

no_store : (book : Option Interp) (store : Option Store) → book ≡ None → IsStore book store → store ≡ None
no_store None None e h = refl
no_store None (Some store) e h = absurd h
no_store (Some interp) store e h = absurd (cc)

storeless : (store : Option Store) (go : Store → step.Step) → store ≡ None → with_store store go ≡ step.stuck
storeless None go e = refl
storeless (Some store) go e = absurd (cc)

constant_stuck : (o : Option Constant) (go : Constant → step.Step) → ((what : Constant) → go what ≡ step.stuck) → constant_at o go ≡ step.stuck
constant_stuck None go h = refl
constant_stuck (Some what) go h = h what

number_stuck : (s : machine.Slot) (go : ℤ → step.Step) → ((n : ℤ) → go n ≡ step.stuck) → with_number s go ≡ step.stuck
number_stuck machine.empty go h = refl
number_stuck (machine.whole n) go h = h n
number_stuck (machine.object n) go h = refl
number_stuck (machine.view v) go h = refl
number_stuck (machine.fault f) go h = refl

object_stuck : (s : machine.Slot) (go : ℕ → step.Step) → ((n : ℕ) → go n ≡ step.stuck) → object_at s go ≡ step.stuck
object_stuck machine.empty go h = refl
object_stuck (machine.whole n) go h = refl
object_stuck (machine.object n) go h = h n
object_stuck (machine.view v) go h = refl
object_stuck (machine.fault f) go h = refl

print_stuck : (o : Option (List Value)) (m : machine.Member) → m.rest.store ≡ None → prints o m ≡ step.stuck
print_stuck None m e = refl
print_stuck (Some values) m e = storeless m.rest.store _ e

pub no_text : (image : ImageParts) (d : Register) (n : ℕ) (old new : Member) (result : Step) → old.book ≡ None → Acts image (instr.Text d n) old result new
unfolding act
no_text image d n old new result none m h apart =
    absurd (apart (constant_stuck _ _ (λ what. storeless m.rest.store _ (no_store old.book m.rest.store none h.rest.store))))

pub no_wide : (image : ImageParts) (d : Register) (n : ℕ) (old new : Member) (result : Step) → old.book ≡ None → Acts image (instr.Wide d n) old result new
unfolding act
no_wide image d n old new result none m h apart =
    absurd (apart (constant_stuck _ _ (λ what. storeless m.rest.store _ (no_store old.book m.rest.store none h.rest.store))))

pub no_box : (image : ImageParts) (t : CType) (d a : Register) (old new : Member) (result : Step) → old.book ≡ None → Acts image (instr.Box t d a) old result new
unfolding act
no_box image t d a old new result none m h apart =
    absurd (apart (number_stuck (machine.slot_of m a) _ (λ n. storeless m.rest.store _ (no_store old.book m.rest.store none h.rest.store))))

pub no_share : (image : ImageParts) (d a : Register) (old new : Member) (result : Step) → old.book ≡ None → Acts image (instr.Share d a) old result new
unfolding act
no_share image d a old new result none m h apart =
    absurd (apart (object_stuck (machine.slot_of m a) _ (λ n. storeless m.rest.store _ (no_store old.book m.rest.store none h.rest.store))))

pub no_drop : (image : ImageParts) (a : Register) (old new : Member) (result : Step) → old.book ≡ None → Acts image (instr.Drop a) old result new
unfolding act
no_drop image a old new result none m h apart = absurd (apart (storeless m.rest.store _ (no_store old.book m.rest.store none h.rest.store)))

pub no_print : (image : ImageParts) (arguments : List Register) (old new : Member) (result : Step) → old.book ≡ None → Acts image (instr.Print arguments) old result new
unfolding act
no_print image arguments old new result none m h apart = absurd (apart (print_stuck _ m (no_store old.book m.rest.store none h.rest.store)))
