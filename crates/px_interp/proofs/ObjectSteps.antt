-- The rows of object instructions, without the program.
use Rattle.std.proofs.Common.{◌≡◌, ℕ, zero, suc, List, [], ◌∷◌, get_or, set, Option, Some, None, Result, Ok, Err, refl, sym, subst, ap, ◌∙◌}
use Rattle.std.specs.Prelude.{ℤ, slice_get}
use Rattle.std.proofs.lemmas.List.{map-set}
use Rattle.px_base.specs.declared.c_types.CType.{CType}
use Rattle.px_base.specs.declared.objects.Constant.{Constant}
use Rattle.px_base.specs.declared.faults.StepTrouble.{StepTrouble}
use Rattle.px_base.specs.declared.faults.StepTrouble.TheVariants as trouble
use Rattle.px_ctypes.specs.Conversions.{converted}
use Rattle.px_model.specs.declared.stores.ObjectValue.{ObjectValue}
use Rattle.px_model.specs.declared.stores.Store.{Store}
use Rattle.px_regcode.specs.declared.operands.Register.{Register}
use Rattle.px_regcode.specs.declared.instructions.Instr.{Instr}
use Rattle.px_regcode.specs.declared.instructions.Instr.TheVariants as instr
use Rattle.px_regcode.specs.Images.{ImageParts}
use Rattle.px_meaning.specs.Values as value
use Rattle.px_meaning.specs.Objects.{Stepped, boxed, constant_object, failed, gave, new_object}
use Rattle.px_machine.specs.Slots as machine
use Rattle.px_machine.specs.Slots.{Member, in_frame, next, storing, slot_at, with_slot}
use Rattle.px_machine.specs.Steps.{Step, went, stuck}
use Rattle.px_machine.specs.Machine.{act, constant_at, drops, faulting, gets, object_at, sets, stepped, stepping, with_number, with_store}
use Rattle.px_heap.specs.declared.values.Serial.{Serial}
use Rattle.px_interp.specs.declared.registers.Slot.{Slot}
use Rattle.px_interp.specs.declared.registers.Slot.TheVariants.{Empty, Whole, Object, View, Fault}
use Rattle.px_interp.specs.Slots.{number_in, object_in, slot_of, slots_of}
use Rattle.px_interp.proofs.HeldSlots.{is_object}
use Rattle.px_interp.specs.Interps.{Interp, Represents}
use Rattle.px_interp.specs.Rows.{HasBook, GoesTo, IsMadeIn, IsRow, with_registers}

-- ---- registers of the machine

pub set_there : (slots : List Slot) (d : Register) (s : Slot) → slots_of (set slots d.number s) ≡ with_slot d (slot_of s) (slots_of slots)
set_there slots d s = map-set slot_of slots d.number s

pub get_there : (slots : List Slot) (n : ℕ) → get_or (slots_of slots) n machine.empty ≡ slot_of (get_or slots n Empty)
get_there [] n = refl
get_there (s ∷ slots) zero = refl
get_there (s ∷ slots) (suc n) = get_there slots n

pub slot_there : (slots : List Slot) (m : Member) (a : Register) → m.frame.registers ≡ slots_of slots → machine.slot_of m a ≡ slot_of (get_or slots a.number Empty)
slot_there slots m a e = ap (λ registers. slot_at registers a) e ∙ get_there slots a.number

-- a member with its own registers, or its own store
pub own_registers : (slots : List Slot) (m : Member) → m.frame.registers ≡ slots_of slots → m ≡ with_registers (slots_of slots) m
own_registers slots m e = ap (λ registers. with_registers registers m) e

pub own_store : (store : Store) (m : Member) → m.rest.store ≡ Some store → m ≡ storing store m
own_store store m e = ap (λ s. record m { rest = record m.rest { store = s } }) e

-- ---- objects that are made

-- the register gets what it holds of the machine's slots
written : (before : List Slot) (m : Member) (d : Register) (s : Slot) → m.frame.registers ≡ slots_of before → with_slot d (slot_of s) m.frame.registers ≡ slots_of (set before d.number s)
written before m d s e = ap (with_slot d (slot_of s)) e ∙ sym (set_there before d s)

pub sets_row : (before : List Slot) (m : Member) (d : Register) (s : Slot) → m.frame.registers ≡ slots_of before
    → sets d (slot_of s) m ≡ went (next (with_registers (slots_of (set before d.number s)) m))
sets_row before m d s e = ap (λ registers. went (next (with_registers registers m))) (written before m d s e)

makes : (what : ObjectValue) (d : Register) (m : Member) (store : Store) (came : Stepped value.Value) → m.rest.store ≡ Some store → new_object what store ≡ came
    → stepping (new_object what) (gets d) m ≡ stepped came (gets d) m
makes what d m store came e f = ap (λ s. with_store s (λ given. stepped (new_object what given) (gets d) m)) e ∙ ap (λ x. stepped x (gets d) m) f

-- an object is made, and a register refers to it
pub made_row : (old new : Interp) (before : List Slot) (m : Member) (store : Store) (what : ObjectValue) (d : Register) (of : Serial) → HasBook old before m store → IsMadeIn store what new (Ok of)
    → GoesTo new (set before d.number (Object of)) m (stepping (new_object what) (gets d) m) (Ok tt)
made_row old new before m store what d of book made = (
  made.0,
  makes what d m store (gave (value.object of.number) made.0) book.store made.1 ∙ sets_row before (storing made.0 m) d (Object of) book.registers,
  made.2,
)

-- none is made
pub refused_row : (old new : Interp) (before : List Slot) (m : Member) (store : Store) (what : ObjectValue) (d : Register) (e : StepTrouble) → HasBook old before m store → IsMadeIn store what new (Err e)
    → GoesTo new before m (stepping (new_object what) (gets d) m) (Err e)
refused_row old new before m store what d (trouble.Raised f) book made = (
  store,
  makes what d m store (failed f store) book.store made.0 ∙ ap (λ x. faulting f (storing store x)) (own_registers before m book.registers),
  made.1,
)
refused_row old new before m store what d trouble.NoMemory book made = tt

-- ---- instructions, by what they are at these registers

-- the instruction makes this object, and refers to it in a register
abbrev pub Makes : ImageParts → Instr → Register → List Slot → ObjectValue → Type 0
Makes image i d before what = (m : Member) → m.frame.registers ≡ slots_of before → act image i m ≡ stepping (new_object what) (gets d) m

abbrev pub IsStuck : ImageParts → Instr → List Slot → Type 0
IsStuck image i before = (m : Member) → m.frame.registers ≡ slots_of before → act image i m ≡ stuck

abbrev pub Made : Interp → ObjectValue → Interp → Result Serial StepTrouble → Type 0
Made old what new result = (store : Store) → Represents old store → IsMadeIn store what new result

pub made_as : (old new : Interp) (what other : ObjectValue) (result : Result Serial StepTrouble) → what ≡ other → Made old what new result → Made old other new result
made_as old new what other result e h = subst (λ w. Made old w new result) e h

module _ (image : ImageParts) (i : Instr) (old new : Interp) (before after : List Slot) where
  pub as_done : (m : Member) (result : Result (Unit {0}) StepTrouble) (step : Step) → act image i m ≡ step → GoesTo new after m step result → GoesTo new after m (act image i m) result
  as_done m result step e h = subst (λ s. GoesTo new after m s result) (sym e) h

  pub row_stuck : (result : Result (Unit {0}) StepTrouble) → IsStuck image i before → IsRow image i old before new after result
  row_stuck result h m store book not = absurd (not (h m book.registers))

pub row_made : (image : ImageParts) (i : Instr) (old new : Interp) (before : List Slot) (d : Register) (what : ObjectValue) (of : Serial) → Makes image i d before what → Made old what new (Ok of)
    → IsRow image i old before new (set before d.number (Object of)) (Ok tt)
row_made image i old new before d what of makes made m store book not =
    as_done image i old new before (set before d.number (Object of)) m (Ok tt) (stepping (new_object what) (gets d) m) (makes m book.registers)
    (made_row old new before m store what d of book (made store book.represents))

pub row_refused : (image : ImageParts) (i : Instr) (old new : Interp) (before : List Slot) (d : Register) (what : ObjectValue) (e : StepTrouble) → Makes image i d before what → Made old what new (Err e)
    → IsRow image i old before new before (Err e)
row_refused image i old new before d what e makes made m store book not =
    as_done image i old new before before m (Err e) (stepping (new_object what) (gets d) m) (makes m book.registers)
    (refused_row old new before m store what d e book (made store book.represents))

-- ---- constants, and numbers as objects

text_is : (image : ImageParts) (d : Register) (n : ℕ) (m : Member) → act image (instr.Text d n) m ≡ constant_at (slice_get image.constants n) (λ what. stepping (new_object (constant_object what)) (gets d) m)
unfolding act
text_is image d n m = refl

wide_is : (image : ImageParts) (d : Register) (n : ℕ) (m : Member) → act image (instr.Wide d n) m ≡ constant_at (slice_get image.constants n) (λ what. stepping (new_object (constant_object what)) (gets d) m)
unfolding act
wide_is image d n m = refl

box_is : (image : ImageParts) (t : CType) (d a : Register) (m : Member) → act image (instr.Box t d a) m ≡ with_number (machine.slot_of m a) (λ x. stepping (new_object (boxed t (converted t x))) (gets d) m)
unfolding act
box_is image t d a m = refl

at_constant : (constants : List Constant) (n : ℕ) (found : Option Constant) (go : Constant → Step) → slice_get constants n ≡ found → constant_at (slice_get constants n) go ≡ constant_at found go
at_constant constants n found go e = ap (λ c. constant_at c go) e

pub text_makes : (image : ImageParts) (d : Register) (n : ℕ) (before : List Slot) (what : Constant) → slice_get image.constants n ≡ Some what → Makes image (instr.Text d n) d before (constant_object what)
text_makes image d n before what e m h = text_is image d n m ∙ at_constant image.constants n (Some what) (λ w. stepping (new_object (constant_object w)) (gets d) m) e

pub text_stuck : (image : ImageParts) (d : Register) (n : ℕ) (before : List Slot) → slice_get image.constants n ≡ None → IsStuck image (instr.Text d n) before
text_stuck image d n before e m h = text_is image d n m ∙ at_constant image.constants n None (λ w. stepping (new_object (constant_object w)) (gets d) m) e

pub wide_makes : (image : ImageParts) (d : Register) (n : ℕ) (before : List Slot) (what : Constant) → slice_get image.constants n ≡ Some what → Makes image (instr.Wide d n) d before (constant_object what)
wide_makes image d n before what e m h = wide_is image d n m ∙ at_constant image.constants n (Some what) (λ w. stepping (new_object (constant_object w)) (gets d) m) e

pub wide_stuck : (image : ImageParts) (d : Register) (n : ℕ) (before : List Slot) → slice_get image.constants n ≡ None → IsStuck image (instr.Wide d n) before
wide_stuck image d n before e m h = wide_is image d n m ∙ at_constant image.constants n None (λ w. stepping (new_object (constant_object w)) (gets d) m) e

number_there : (s : Slot) (n : ℤ) (go : ℤ → Step) → number_in s ≡ Some n → with_number (slot_of s) go ≡ go n
number_there (Whole n) k go e = let same : n ≡ k = cc in ap go same
number_there Empty k go e = absurd (cc)
number_there (Object of) k go e = absurd (cc)
number_there (View v) k go e = absurd (cc)
number_there (Fault f) k go e = absurd (cc)

number_missing : (s : Slot) (go : ℤ → Step) → number_in s ≡ None → with_number (slot_of s) go ≡ stuck
number_missing (Whole n) go e = absurd (cc)
number_missing Empty go e = refl
number_missing (Object of) go e = refl
number_missing (View v) go e = refl
number_missing (Fault f) go e = refl

pub box_makes : (image : ImageParts) (t : CType) (d a : Register) (before : List Slot) (n : ℤ) → number_in (get_or before a.number Empty) ≡ Some n
    → Makes image (instr.Box t d a) d before (boxed t (converted t n))
box_makes image t d a before n e m h =
    box_is image t d a m ∙ ap (λ s. with_number s (λ x. stepping (new_object (boxed t (converted t x))) (gets d) m)) (slot_there before m a h)
    ∙ number_there (get_or before a.number Empty) n (λ x. stepping (new_object (boxed t (converted t x))) (gets d) m) e

pub box_stuck : (image : ImageParts) (t : CType) (d a : Register) (before : List Slot) → number_in (get_or before a.number Empty) ≡ None → IsStuck image (instr.Box t d a) before
box_stuck image t d a before e m h =
    box_is image t d a m ∙ ap (λ s. with_number s (λ x. stepping (new_object (boxed t (converted t x))) (gets d) m)) (slot_there before m a h)
    ∙ number_missing (get_or before a.number Empty) (λ x. stepping (new_object (boxed t (converted t x))) (gets d) m) e

-- ---- references

share_is : (image : ImageParts) (d a : Register) (m : Member) → act image (instr.Share d a) m ≡ object_at (machine.slot_of m a) (λ serial. with_store m.rest.store (λ store. sets d (machine.object serial) m))
unfolding act
share_is image d a m = refl

drop_is : (image : ImageParts) (a : Register) (m : Member) → act image (instr.Drop a) m ≡ with_store m.rest.store (λ store. drops a (machine.slot_of m a) m)
unfolding act
drop_is image a m = refl

object_there : (s : Slot) (of : Serial) (go : ℕ → Step) → object_in s ≡ Some of → object_at (slot_of s) go ≡ go of.number
object_there s of go e = ap (λ x. object_at (slot_of x) go) (is_object s of e)

object_missing : (s : Slot) (go : ℕ → Step) → object_in s ≡ None → object_at (slot_of s) go ≡ stuck
object_missing (Object of) go e = absurd (cc)
object_missing Empty go e = refl
object_missing (Whole n) go e = refl
object_missing (View v) go e = refl
object_missing (Fault f) go e = refl

-- a step that keeps the store, and what the runtime stands for
kept_row : (image : ImageParts) (i : Instr) (old new : Interp) (before after : List Slot) (m : Member) (store : Store) → HasBook old before m store → ((given : Store) → Represents old given → Represents new given)
    → act image i m ≡ went (next (with_registers (slots_of after) m)) → GoesTo new after m (act image i m) (Ok tt)
kept_row image i old new before after m store book keeps is =
    (store, is ∙ ap (λ x. went (next (with_registers (slots_of after) x))) (own_store store m book.store), keeps store book.represents)

pub row_shared : (image : ImageParts) (d a : Register) (old new : Interp) (before : List Slot) (of : Serial) → object_in (get_or before a.number Empty) ≡ Some of → ((given : Store) → Represents old given → Represents new given)
    → IsRow image (instr.Share d a) old before new (set before d.number (Object of)) (Ok tt)
row_shared image d a old new before of e keeps m store book not = kept_row image (instr.Share d a) old new before (set before d.number (Object of)) m store book keeps
    (share_is image d a m ∙ ap (λ s. object_at s (λ serial. with_store m.rest.store (λ given. sets d (machine.object serial) m))) (slot_there before m a book.registers)
    ∙ object_there (get_or before a.number Empty) of (λ serial. with_store m.rest.store (λ given. sets d (machine.object serial) m)) e
    ∙ ap (λ s. with_store s (λ given. sets d (machine.object of.number) m)) book.store ∙ sets_row before m d (Object of) book.registers)

pub share_stuck : (image : ImageParts) (d a : Register) (before : List Slot) → object_in (get_or before a.number Empty) ≡ None → IsStuck image (instr.Share d a) before
share_stuck image d a before e m h =
    share_is image d a m ∙ ap (λ s. object_at s (λ serial. with_store m.rest.store (λ given. sets d (machine.object serial) m))) (slot_there before m a h)
    ∙ object_missing (get_or before a.number Empty) (λ serial. with_store m.rest.store (λ given. sets d (machine.object serial) m)) e

-- what `drop` does with what a register holds
drops_there : (image : ImageParts) (a : Register) (before : List Slot) (m : Member) (store : Store) → m.frame.registers ≡ slots_of before → m.rest.store ≡ Some store
    → act image (instr.Drop a) m ≡ drops a (slot_of (get_or before a.number Empty)) m
drops_there image a before m store h e =
    drop_is image a m ∙ ap (λ s. with_store s (λ given. drops a (machine.slot_of m a) m)) e ∙ ap (λ s. drops a s m) (slot_there before m a h)

pub row_dropped : (image : ImageParts) (a : Register) (old new : Interp) (before : List Slot) (of : Serial) → object_in (get_or before a.number Empty) ≡ Some of → ((given : Store) → Represents old given → Represents new given)
    → IsRow image (instr.Drop a) old before new (set before a.number Empty) (Ok tt)
row_dropped image a old new before of e keeps m store book not = kept_row image (instr.Drop a) old new before (set before a.number Empty) m store book keeps
    (drops_there image a before m store book.registers book.store ∙ ap (λ s. drops a (slot_of s) m) (is_object (get_or before a.number Empty) of e) ∙ sets_row before m a Empty book.registers)

-- an empty register stays as it is
pub row_empty : (image : ImageParts) (a : Register) (old : Interp) (before : List Slot) → object_in (get_or before a.number Empty) ≡ None → IsRow image (instr.Drop a) old before old before (Ok tt)
row_empty image a old before e m store book not = by_slot (get_or before a.number Empty) e (drops_there image a before m store book.registers book.store)
  where
    by_slot : (s : Slot) → object_in s ≡ None → act image (instr.Drop a) m ≡ drops a (slot_of s) m → GoesTo old before m (act image (instr.Drop a) m) (Ok tt)
    by_slot (Object of) e is = absurd (cc)
    by_slot Empty e is = kept_row image (instr.Drop a) old old before before m store book (λ given h. h) (is ∙ ap (λ x. went (next x)) (own_registers before m book.registers))
    by_slot (Whole n) e is = absurd (not is)
    by_slot (View v) e is = absurd (not is)
    by_slot (Fault f) e is = absurd (not is)
