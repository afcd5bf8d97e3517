-- The main member of an image begins as the definitions say.
use Rattle.std.proofs.Common.{◌≡◌, ℕ, List, [], ◌++◌, Option, Some, None, replicate, reverse, slice_get, refl, sym, ap, ◌∙◌, subst}
use Rattle.std.specs.List.{flat_map}
use Rattle.px_regcode.specs.declared.codes.Code.{Code}
use Rattle.px_regcode.specs.Images.{ImageParts}
use Rattle.px_model.specs.declared.stores.Store.{Store}
use Rattle.px_meaning.specs.States.{holding}
use Rattle.px_meaning.specs.Modules.{first_state}
use Rattle.px_machine.specs.Means.{first_frame, first_member, first_registers}
use Rattle.px_interp.specs.declared.registers.Slot.{Slot}
use Rattle.px_interp.specs.declared.registers.Slot.TheVariants.{Empty}
use Rattle.px_interp.specs.Slots.{slots_of, references_of}
use Rattle.px_interp.specs.Interps.{Interp, Represents}
use Rattle.px_member.specs.declared.frames.Frame.{Frame}
use Rattle.px_member.specs.Members.{Member, IsMember, AllWait, count_of, references_in_frame, references_in}
use Rattle.px_member.proofs.CallSteps.{opening_is}
use Rattle.px_member.proofs.References.{no_references}

first_are : (o : Option Code) (slots : List Slot) → slots ≡ replicate (count_of o) Empty → first_registers o ≡ slots_of slots
first_are None slots e = sym (ap slots_of e)
first_are (Some code) slots e = opening_is code.registers slots e

abbrev pub first_of : List Slot → Frame
first_of slots = record { function = 0; pc = 0; registers = slots; result = None; handler = None; caught = None }

abbrev pub main_of : List Slot → List Frame → ℕ → ℕ → Option Interp → Member
main_of slots callers turns members book =
    record { frame = first_of slots; callers = callers; turns = turns; members = members; book = book; end = None }

none_wait : (callers : List Frame) → callers ≡ [] → AllWait (reverse callers) []
none_wait callers e = subst (λ fs. AllWait (reverse fs) []) (sym e) tt

pub begins : (image : ImageParts) (slots : List Slot) (callers : List Frame) (turns members : ℕ) (interp : Interp) (store : Store)
    → slots ≡ replicate (count_of (slice_get image.codes 0)) Empty → callers ≡ [] → Represents interp store
    → IsMember (main_of slots callers turns members (Some interp)) (first_member image (holding store (first_state turns members)))
begins image slots callers turns members interp store empty none stands = record {
  frame = ap (λ rs. record (first_frame image) { registers = rs }) (first_are (slice_get image.codes 0) slots empty);
  callers = none_wait callers none;
  rest = record { below = refl; turns = refl; members = refl; store = stands };
}

pub holds_nothing : (slots : List Slot) (callers : List Frame) (turns members count : ℕ) → slots ≡ replicate count Empty → callers ≡ []
    → references_in (main_of slots callers turns members None) ≡ []
holds_nothing slots callers turns members count empty none =
    ap (λ fs. references_of slots ++ flat_map references_in_frame fs) none ∙ ap (λ ss. references_of ss ++ []) empty ∙ ap (λ rs. rs ++ []) (no_references count)
