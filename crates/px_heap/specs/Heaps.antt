-- A heap as plain data, and as the map from the numbers of objects to these.
use Rattle.std.specs.Prelude.{◌≡◌, ◌≢◌, ◌≤◌, ℕ, ◌+◌, ◌-◌, ◌^◌, ◌<◌, List, [], ◌∷◌, slice_index_or, Option, Some, None, option_map, if◌then◌else◌, nat_eq}
use Rattle.px_heap.specs.declared.slots.Object.{Object}
use Rattle.px_heap.specs.declared.values.Serial.{Serial}
use Rattle.px_heap.specs.declared.values.Value.{Value}
use Rattle.px_heap.specs.References.{AreAt, inner, references, times}

-- the object or nothing at each key from 0 on, and how many objects were made
pub record Heap : Type 0 where
  pub slots : List (Option Object)
  pub made : ℕ

-- a live object: its key, how many references to it are counted, and what it is
pub record Live : Type 0 where
  pub key : ℕ
  pub count : ℕ
  pub value : Value

-- the greatest number of objects, which is also a count that never changes
abbrev pub limit : ℕ
limit = 2 ^ 64 - 1

abbrev pub live : ℕ → Object → Live
live key o = record { key = key; count = o.count; value = o.value }

-- the object with this number among these slots, the first of which has this key
abbrev pub found_from : ℕ → List (Option Object) → ℕ → Option Live
found_from key [] number = None
found_from key (None ∷ slots) number = found_from (key + 1) slots number
found_from key (Some o ∷ slots) number = if nat_eq number o.number then Some (live key o) else found_from (key + 1) slots number

-- the live object with this number
abbrev pub object_of : Heap → ℕ → Option Live
object_of heap number = found_from 0 heap.slots number

-- the serial names a live object
abbrev pub IsLive : Heap → Serial → Type 0
IsLive heap s = option_map (λ o. o.key) (object_of heap s.number) ≡ Some s.key

abbrev pub count_of : Heap → ℕ → Option ℕ
count_of heap number = option_map (λ o. o.count) (object_of heap number)

abbrev pub value_of : Heap → ℕ → Option Value
value_of heap number = option_map (λ o. o.value) (object_of heap number)

-- the map in which this number has this object or none
abbrev pub put : ℕ → Option Live → (ℕ → Option Live) → ℕ → Option Live
put number object objects other = if nat_eq other number then object else objects other

-- these serials name live objects
abbrev pub AreLive : Heap → List Serial → Type 0
AreLive heap [] = Unit {0}
AreLive heap (r ∷ rs) = IsLive heap r × AreLive heap rs

-- how many references live objects have to the object with this number
abbrev pub inner_count : Heap → ℕ → ℕ
inner_count heap number = inner heap.slots number

-- These references are held: they are counted beside those that live objects have, but where a count is at its greatest.
pub record AreHeld (heap : Heap) (rs : List Serial) : Type 0 where
  pub live : AreLive heap rs
  pub counted : (number : ℕ) (o : Live) → object_of heap number ≡ Some o → o.count ≢ limit → inner_count heap number + times number rs ≤ o.count

-- What holds of each heap: its objects have different numbers, which were given out; each has a reference; references in live objects
-- are to live objects, and they are counted.
pub record IsHeap (slots : List (Option Object)) (made : ℕ) : Type 0 where
  pub below : (key : ℕ) (o : Object) → slice_index_or slots key None ≡ Some o → o.number < made
  pub apart : (j k : ℕ) (o p : Object) → slice_index_or slots j None ≡ Some o → slice_index_or slots k None ≡ Some p → o.number ≡ p.number → j ≡ k
  pub counted : (key : ℕ) (o : Object) → slice_index_or slots key None ≡ Some o → 0 < o.count
  pub few : (key : ℕ) (o : Object) → slice_index_or slots key None ≡ Some o → o.count ≤ limit
  pub targets : (key : ℕ) (o : Object) → slice_index_or slots key None ≡ Some o → AreAt slots (references o.value)
  pub covered : (key : ℕ) (o : Object) → slice_index_or slots key None ≡ Some o → o.count ≢ limit → inner slots o.number ≤ o.count

-- an object with another count, or another value
abbrev pub with_count : ℕ → Object → Object
with_count count o = record o { count = count }

abbrev pub with_content : Value → Object → Object
with_content value o = record o { value = value }
