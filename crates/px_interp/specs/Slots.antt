-- What registers hold, as the definitions of the machine have it, and the references among it.
use Rattle.std.specs.Prelude.{Bool, true, false, ℤ, List, [], ◌∷◌, map, Option, Some, None}
use Rattle.std.specs.List.{flat_map}
use Rattle.px_heap.specs.declared.values.Serial.{Serial}
use Rattle.px_views.specs.Cells.{view_cells}
use Rattle.px_machine.specs.Slots as machine
use Rattle.px_interp.specs.declared.registers.Slot.{Slot}
use Rattle.px_interp.specs.declared.registers.Slot.TheVariants.{Empty, Whole, Object, View, Fault}

abbrev pub slot_of : Slot → machine.Slot
slot_of Empty = machine.empty
slot_of (Whole n) = machine.whole n
slot_of (Object of) = machine.object of.number
slot_of (View v) = machine.view (record { buffer = v.buffer; view = view_cells v })
slot_of (Fault f) = machine.fault f

abbrev pub slots_of : List Slot → List machine.Slot
slots_of slots = map slot_of slots

abbrev pub number_in : Slot → Option ℤ
number_in (Whole n) = Some n
number_in Empty = None
number_in (Object of) = None
number_in (View v) = None
number_in (Fault f) = None

abbrev pub object_in : Slot → Option Serial
object_in (Object of) = Some of
object_in Empty = None
object_in (Whole n) = None
object_in (View v) = None
object_in (Fault f) = None

abbrev pub is_empty_slot : Slot → Bool
is_empty_slot Empty = true
is_empty_slot (Whole n) = false
is_empty_slot (Object of) = false
is_empty_slot (View v) = false
is_empty_slot (Fault f) = false

-- the references that registers hold

abbrev pub references_in : Slot → List Serial
references_in (Object of) = of ∷ []
references_in Empty = []
references_in (Whole n) = []
references_in (View v) = []
references_in (Fault f) = []

abbrev pub references_of : List Slot → List Serial
references_of slots = flat_map references_in slots
