-- Texts of objects, and what stands before them.
use Rattle.std.specs.Prelude.{◌≡◌, ℕ, zero, suc, List, [], ◌∷◌, ◌++◌, Option, Some, None, codes, option_map, slice_index_or}
use Rattle.px_regcode.specs.declared.operands.Register.{Register}
use Rattle.px_meaning.specs.Objects.{text_of_there, listed_text, spaced}
use Rattle.px_heap.specs.declared.values.Serial.{Serial}
use Rattle.px_heap.specs.Heaps.{Heap, value_of}
use Rattle.px_heap.specs.Stores.{object_value}
use Rattle.px_interp.specs.declared.registers.Slot.{Slot}
use Rattle.px_interp.specs.declared.registers.Slot.TheVariants.{Empty}
use Rattle.px_interp.specs.Slots.{object_in}

-- a line, and the space before the text at this place, which the first one has not
abbrev pub with_space : ℕ → List ℕ → List ℕ
with_space zero line = line
with_space (suc place) line = line ++ codes " "

-- the text stands behind the line, if there is one
abbrev pub IsTextOf : Option (List ℕ) → List ℕ → List ℕ → Type 0
IsTextOf None before after = Unit {0}
IsTextOf (Some text) before after = after ≡ before ++ text

-- the text of the object to which a register holds a reference
abbrev pub text_there : Heap → Option Serial → Option (List ℕ)
text_there heap None = None
text_there heap (Some of) = text_of_there (option_map object_value (value_of heap of.number))

abbrev pub texts_in : Heap → List Slot → List Register → Option (List (List ℕ))
texts_in heap slots [] = Some []
texts_in heap slots (a ∷ arguments) =
    listed_text (text_there heap (object_in (slice_index_or slots a.number Empty))) (texts_in heap slots arguments)

-- the line of these texts, if they are there
abbrev pub IsLineOf : Option (List (List ℕ)) → Option (List ℕ) → Type 0
IsLineOf None line = Unit {0}
IsLineOf (Some texts) line = line ≡ Some (spaced texts ++ codes "\n")
