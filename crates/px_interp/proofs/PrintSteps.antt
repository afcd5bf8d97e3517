-- The row of `print`, without the program.
use Rattle.std.proofs.Common.{◌≡◌, ℕ, ◌+◌, ◌<◌, ◌≤◌, List, [], ◌∷◌, ◌++◌, length, get_or, Option, Some, None, Result, Ok, Err, refl, sym, subst, ap, ◌∙◌, arith}
use Rattle.std.specs.Prelude.{codes, option_map}
use Rattle.std.proofs.lemmas.Bool.{le-leb, lt-leb}
use Rattle.std.proofs.lemmas.List.{append_assoc, length-append}
use Rattle.px_base.specs.declared.faults.StepTrouble.{StepTrouble}
use Rattle.px_base.specs.declared.faults.StepTrouble.TheVariants as trouble
use Rattle.px_base.specs.declared.faults.Kind.TheVariants.{LimitError}
use Rattle.px_ctypes.specs.Operators.{fault_of}
use Rattle.px_model.specs.declared.stores.Store.{Store}
use Rattle.px_regcode.specs.declared.operands.Register.{Register}
use Rattle.px_regcode.specs.declared.instructions.Instr.TheVariants as instr
use Rattle.px_regcode.specs.Images.{ImageParts}
use Rattle.px_meaning.specs.Values as value
use Rattle.px_meaning.specs.Objects.{failed, gave, listed_text, output_limit, spaced, text_of_there, text_of_value, texts_of, with_output}
use Rattle.px_machine.specs.Slots.{Member, next, storing}
use Rattle.px_machine.specs.Steps.{Step, went}
use Rattle.px_machine.specs.Machine.{act, faulting, object_among, objects_at, prints, prints_line, stepped, with_store}
use Rattle.px_heap.specs.declared.values.Serial.{Serial}
use Rattle.px_heap.specs.Heaps.{AreLive, Heap, IsLive, Live, object_of}
use Rattle.px_heap.specs.Stores.{StandsFor, object_value}
use Rattle.px_interp.specs.declared.registers.Slot.{Slot}
use Rattle.px_interp.specs.declared.registers.Slot.TheVariants.{Empty, Whole, Object, View, Fault}
use Rattle.px_interp.specs.Slots.{object_in, references_in, references_of, slot_of, slots_of}
use Rattle.px_interp.specs.Interps.{Interp, Represents}
use Rattle.px_interp.specs.Texts.{IsLineOf, text_there, texts_in}
use Rattle.px_interp.specs.Rows.{GoesTo, HasBook, IsRow}
use Rattle.px_interp.proofs.HeldSlots.{there_live}
use Rattle.px_interp.proofs.LineTexts.{listed_missing}
use Rattle.px_interp.proofs.ObjectSteps.{as_done, get_there, own_registers}

-- ---- texts in the store

abbrev texts_from : Store → Option (List value.Value) → Option (List (List ℕ))
texts_from store None = None
texts_from store (Some values) = texts_of store values

live_text : (heap : Heap) (store : Store) (of : Serial) → StandsFor heap store → IsLive heap of → text_of_value store (value.object of.number) ≡ text_there heap (Some of)
live_text heap store of stands live = by_object (object_of heap of.number) refl live
  where
    by_object : (o : Option Live) → object_of heap of.number ≡ o → option_map (λ l. l.key) o ≡ Some of.key → text_of_value store (value.object of.number) ≡ text_there heap (Some of)
    by_object None e h = absurd (cc)
    by_object (Some l) e h =
        ap text_of_there (stands.objects of.number l e) ∙ sym (ap (λ o. text_of_there (option_map object_value (option_map (λ x. x.value) o))) e)

module _ (heap : Heap) (store : Store) (stands : StandsFor heap store) where
  among_texts : (s : Slot) (values : Option (List value.Value)) → AreLive heap (references_in s)
      → texts_from store (object_among (slot_of s) values) ≡ listed_text (text_there heap (object_in s)) (texts_from store values)
  among_texts (Object of) None live = sym (listed_missing (text_there heap (Some of)))
  among_texts (Object of) (Some values) live = ap (λ text. listed_text text (texts_of store values)) (live_text heap store of stands live.0)
  among_texts Empty values live = refl
  among_texts (Whole n) values live = refl
  among_texts (View v) values live = refl
  among_texts (Fault f) values live = refl

  texts_there : (slots : List Slot) (arguments : List Register) → AreLive heap (references_of slots) → texts_from store (objects_at (slots_of slots) arguments) ≡ texts_in heap slots arguments
  texts_there slots [] live = refl
  texts_there slots (a ∷ arguments) live =
      ap (λ s. texts_from store (object_among s (objects_at (slots_of slots) arguments))) (get_there slots a.number)
      ∙ among_texts (get_or slots a.number Empty) (objects_at (slots_of slots) arguments) (there_live heap slots a.number live)
      ∙ ap (listed_text (text_there heap (object_in (get_or slots a.number Empty)))) (texts_there slots arguments live)

-- ---- the instruction

print_is : (image : ImageParts) (arguments : List Register) (m : Member) → act image (instr.Print arguments) m ≡ prints (objects_at m.frame.registers arguments) m
unfolding act
print_is image arguments m = refl

prints_there : (objects : Option (List value.Value)) (m : Member) (store : Store) → m.rest.store ≡ Some store → prints objects m ≡ prints_line (texts_from store objects) store m
prints_there None m store e = refl
prints_there (Some values) m store e = ap (λ s. with_store s (λ given. prints_line (texts_of given values) given m)) e

print_here : (image : ImageParts) (arguments : List Register) (old : Interp) (before : List Slot) (m : Member) (store : Store) → AreLive old.heap (references_of before) → HasBook old before m store
    → act image (instr.Print arguments) m ≡ prints_line (texts_in old.heap before arguments) store m
print_here image arguments old before m store live book =
    print_is image arguments m ∙ prints_there (objects_at m.frame.registers arguments) m store book.store
    ∙ ap (λ registers. prints_line (texts_from store (objects_at registers arguments)) store m) book.registers
    ∙ ap (λ texts. prints_line texts store m) (texts_there old.heap store book.represents.objects before arguments live)

none_is_some : (line : List ℕ) → None ≡ Some line → ⊥
none_is_some line e = absurd (cc)

-- where a register holds no object
pub row_unprinted : (image : ImageParts) (arguments : List Register) (old : Interp) (before : List Slot) → AreLive old.heap (references_of before) → IsLineOf (texts_in old.heap before arguments) None
    → IsRow image (instr.Print arguments) old before old before (Ok tt)
row_unprinted image arguments old before live none m store book not = by_texts (texts_in old.heap before arguments) none (print_here image arguments old before m store live book)
  where
    by_texts : (texts : Option (List (List ℕ))) → IsLineOf texts None → act image (instr.Print arguments) m ≡ prints_line texts store m → GoesTo old before m (act image (instr.Print arguments) m) (Ok tt)
    by_texts None e is = absurd (not is)
    by_texts (Some texts) e is = absurd (none_is_some (spaced texts ++ codes "\n") e)

abbrev printing : List ℕ → Store → Member → Step
printing output store m = stepped (with_output output store) (λ _ m1. went (next m1)) m

some_line : (line other : List ℕ) → Some line ≡ Some other → line ≡ other
some_line line other e = cc

-- the member prints the line, unless it is stuck
prints_row : (image : ImageParts) (arguments : List Register) (old new : Interp) (before : List Slot) (line : List ℕ) (result : Result (Unit {0}) StepTrouble) → AreLive old.heap (references_of before)
    → IsLineOf (texts_in old.heap before arguments) (Some line)
    → ((m : Member) (store : Store) → HasBook old before m store → GoesTo new before m (printing (old.output ++ line) store m) result) → IsRow image (instr.Print arguments) old before new before result
prints_row image arguments old new before line result live is goes m store book not = by_texts (texts_in old.heap before arguments) is (print_here image arguments old before m store live book)
  where
    by_texts : (texts : Option (List (List ℕ))) → IsLineOf texts (Some line) → act image (instr.Print arguments) m ≡ prints_line texts store m → GoesTo new before m (act image (instr.Print arguments) m) result
    by_texts None e does = absurd (not does)
    by_texts (Some texts) e does =
        as_done image (instr.Print arguments) old new before before m result (printing (old.output ++ line) store m)
        (does ∙ ap (λ output. printing output store m)
        (append_assoc store.output (spaced texts) (codes "\n") ∙ ap (λ l. store.output ++ l) (sym (some_line line (spaced texts ++ codes "\n") e)) ∙ ap (λ output. output ++ line) (sym book.represents.output)))
        (goes m store book)

-- where the line fits
pub row_printed : (image : ImageParts) (arguments : List Register) (old new : Interp) (before : List Slot) (line : List ℕ) → AreLive old.heap (references_of before) → IsLineOf (texts_in old.heap before arguments) (Some line)
    → length old.output + length line ≤ output_limit → new.heap ≡ old.heap → new.output ≡ old.output ++ line → IsRow image (instr.Print arguments) old before new before (Ok tt)
row_printed image arguments old new before line live is fits heap output = prints_row image arguments old new before line (Ok tt) live is (λ m store book. (
  (record store { output = old.output ++ line }),
  ap (λ s. stepped s (λ _ m1. went (next m1)) m) (given store) ∙ ap (λ x. went (next (storing (record store { output = old.output ++ line }) x))) (own_registers before m book.registers),
  record { objects = subst (λ h. StandsFor h (record store { output = old.output ++ line })) (sym heap) (record { made = book.represents.objects.made; objects = book.represents.objects.objects }); output = output },
))
  where
    given : (store : Store) → with_output (old.output ++ line) store ≡ gave value.nothing (record store { output = old.output ++ line })
    given store = rw (le-leb (length (old.output ++ line)) output_limit (let l = length-append old.output line in omega (arith, l, fits))) refl

-- where it would be too long
pub row_too_long : (image : ImageParts) (arguments : List Register) (old new : Interp) (before : List Slot) (line : List ℕ) → AreLive old.heap (references_of before) → IsLineOf (texts_in old.heap before arguments) (Some line)
    → output_limit < length old.output + length line → new ≡ old → IsRow image (instr.Print arguments) old before new before (Err (trouble.Raised (fault_of LimitError 13)))
row_too_long image arguments old new before line live is long same = prints_row image arguments old new before line (Err (trouble.Raised (fault_of LimitError 13))) live is (λ m store book. (
  store,
  ap (λ s. stepped s (λ _ m1. went (next m1)) m) (refused store) ∙ ap (λ x. faulting (fault_of LimitError 13) (storing store x)) (own_registers before m book.registers),
  subst (λ i. Represents i store) (sym same) book.represents,
))
  where
    refused : (store : Store) → with_output (old.output ++ line) store ≡ failed (fault_of LimitError 13) store
    refused store = rw (lt-leb (length (old.output ++ line)) output_limit (let l = length-append old.output line in omega (arith, l, long))) refl
