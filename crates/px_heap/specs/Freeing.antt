-- What taking references off does to the slots of a heap and to the list of the objects that are still to be freed.
use Rattle.std.specs.Prelude.{ℕ, ◌-◌, List, [], ◌∷◌, Option, Some, None, slice_index_or, slice_set, if◌then◌else◌, nat_eq}
use Rattle.px_heap.specs.declared.slots.Object.{Object}
use Rattle.px_heap.specs.declared.values.Serial.{Serial}
use Rattle.px_heap.specs.Heaps.{limit}
use Rattle.px_heap.specs.References.{references}

-- the slots, and the key of the first object that is still to be freed
pub record Work : Type 0 where
  pub slots : List (Option Object)
  pub dead : Option ℕ

abbrev pub work : List (Option Object) → Option ℕ → Work
work slots dead = record { slots = slots; dead = dead }

-- an object with one reference less
abbrev pub lowered_object : Object → Option ℕ → Object
lowered_object o dead =
    if nat_eq o.count 0 then o else if nat_eq o.count limit then o
    else if nat_eq o.count 1 then record o { count = 0; next = dead } else record o { count = o.count - 1 }

abbrev pub dead_after : Object → ℕ → Option ℕ → Option ℕ
dead_after o key dead = if nat_eq o.count 1 then Some key else dead

abbrev pub lowered_slot : ℕ → Work → Option Object → Work
lowered_slot key w None = w
lowered_slot key w (Some o) = work (slice_set w.slots key (Some (lowered_object o w.dead))) (dead_after o key w.dead)

abbrev pub lowered : ℕ → Work → Work
lowered key w = lowered_slot key w (slice_index_or w.slots key None)

abbrev pub lowered_each : List Serial → Work → Work
lowered_each [] w = w
lowered_each (r ∷ rs) w = lowered_each rs (lowered r.key w)

-- The first object that is still to be freed goes, with the references in it.
abbrev pub freed_slot : ℕ → Work → Option Object → Work
freed_slot key w None = work w.slots None
freed_slot key w (Some o) = lowered_each (references o.value) (work (slice_set w.slots key None) o.next)

-- Objects are freed, the first of the list each time, until none is left.
pub data Frees : Work → List (Option Object) → Type 0 where
  frees_none : (slots : List (Option Object)) → Frees (work slots None) slots
  frees_one : (slots left : List (Option Object)) (key : ℕ) → Frees (freed_slot key (work slots (Some key)) (slice_index_or slots key None)) left → Frees (work slots (Some key)) left

-- A reference is taken off the object with this key, and all objects without one are freed.
abbrev pub IsReleased : Work → ℕ → List (Option Object) → Type 0
IsReleased w key left = Frees (lowered key w) left
