-- The store of objects that a heap stands for: each live object has in it the value that the store has at its number.
use Rattle.std.specs.Prelude.{◌≡◌, ℕ, List, [], ◌∷◌, ◌++◌, length, map, take, slice_get, slice_set, Some}
use Rattle.px_model.specs.declared.stores.ArrayObject.{ArrayObject}
use Rattle.px_model.specs.declared.stores.ObjectValue.{ObjectValue}
use Rattle.px_model.specs.declared.stores.ObjectValue.TheVariants as there
use Rattle.px_model.specs.declared.stores.Store.{Store}
use Rattle.px_heap.specs.declared.values.ArrayInfo.{ArrayInfo}
use Rattle.px_heap.specs.declared.values.Serial.{Serial}
use Rattle.px_heap.specs.declared.values.Value.{Value}
use Rattle.px_heap.specs.declared.values.Value.TheVariants as value
use Rattle.px_heap.specs.Heaps.{Heap, Live, object_of}

abbrev pub numbers_of : List Serial → List ℕ
numbers_of items = map (λ s. s.number) items

abbrev pub array_object : ArrayInfo → ArrayObject
array_object a = record { buffer = a.buffer; element = a.element; shape = take a.rank a.shape; fortran = a.fortran }

-- what an object is in a store, where objects are named by their numbers alone
abbrev pub object_value : Value → ObjectValue
object_value (value.Int n) = there.Int n
object_value (value.Bool b) = there.Bool b
object_value value.None = there.None
object_value (value.Str text) = there.Str text
object_value (value.List items) = there.List (numbers_of items)
object_value (value.Tuple items) = there.Tuple (numbers_of items)
object_value (value.Dict pairs) = there.Dict (map (λ p. (p.0.number, p.1.number)) pairs)
object_value (value.Array array) = there.Array (array_object array)

pub record StandsFor (heap : Heap) (store : Store) : Type 0 where
  pub made : heap.made ≡ length store.objects
  pub objects : (number : ℕ) (o : Live) → object_of heap number ≡ Some o → slice_get store.objects number ≡ Some (object_value o.value)

-- the store with one object more
abbrev pub with_object : Value → Store → Store
with_object value store = record store { objects = store.objects ++ object_value value ∷ [] }

-- the store in which this object has this value
abbrev pub with_value_at : ℕ → Value → Store → Store
with_value_at number value store = record store { objects = slice_set store.objects number (object_value value) }
