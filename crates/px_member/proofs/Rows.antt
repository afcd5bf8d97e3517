-- The rows of instructions, where it is known what a register holds.
use Rattle.std.proofs.Common.{◌≡◌, ◌≢◌, true, false, None, refl, sym}
use Rattle.std.proofs.lemmas.Bool.{false≢true}
use Rattle.std.proofs.lemmas.Option.{none-some}
use Rattle.px_base.specs.declared.faults.Kind.TheVariants.{UnboundLocalError}
use Rattle.px_ctypes.specs.Operators.{fault_of}
use Rattle.px_regcode.specs.declared.operands.Register.{Register}
use Rattle.px_machine.specs.Slots as machine
use Rattle.px_machine.specs.Slots.{next, writing}
use Rattle.px_machine.specs.Steps as step
use Rattle.px_machine.specs.Machine.{fault_at, faulting, moved, needs, sets}
use Rattle.px_interp.specs.declared.registers.Slot.{Slot}
use Rattle.px_interp.specs.declared.registers.Slot.TheVariants.{Empty, Whole, Object, View, Fault}
use Rattle.px_interp.specs.Slots.{is_empty_slot, number_in, slot_of}

pub needs_empty : (s : Slot) → is_empty_slot s ≡ true → (m : machine.Member) → needs (slot_of s) m ≡ faulting (fault_of UnboundLocalError 26) m
needs_empty Empty e m = refl
needs_empty (Whole n) e m = absurd (false≢true e)
needs_empty (Object of) e m = absurd (false≢true e)
needs_empty (View v) e m = absurd (false≢true e)
needs_empty (Fault f) e m = absurd (false≢true e)

pub needs_full : (s : Slot) → is_empty_slot s ≡ false → (m : machine.Member) → needs (slot_of s) m ≡ step.went (next m)
needs_full Empty e m = absurd (false≢true (sym e))
needs_full (Whole n) e m = refl
needs_full (Object of) e m = refl
needs_full (View v) e m = refl
needs_full (Fault f) e m = refl

pub forgets : (s : machine.Slot) (x : step.Step) → fault_at s (λ f. x) ≢ step.stuck → fault_at s (λ f. x) ≡ x
forgets machine.empty x d = absurd (d refl)
forgets (machine.whole n) x d = absurd (d refl)
forgets (machine.object serial) x d = absurd (d refl)
forgets (machine.view v) x d = absurd (d refl)
forgets (machine.fault f) x d = refl

-- what is no number leaves its register
pub moved_is : (d a : Register) (s : Slot) (m : machine.Member) → number_in s ≡ None → moved d a (slot_of s) m ≢ step.stuck
    → moved d a (slot_of s) m ≡ sets d (slot_of s) (writing a machine.empty m)
moved_is d a Empty m e u = absurd (u refl)
moved_is d a (Whole n) m e u = absurd (none-some _ (sym e))
moved_is d a (Object of) m e u = refl
moved_is d a (View v) m e u = refl
moved_is d a (Fault f) m e u = refl
