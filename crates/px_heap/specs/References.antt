-- The references in values, and how many of these a heap's objects have to one of them.
use Rattle.std.specs.Prelude.{◌≡◌, ℕ, ◌+◌, List, [], ◌∷◌, Option, Some, None, slice_index_or, option_map, if◌then◌else◌, nat_eq}
use Rattle.px_heap.specs.declared.slots.Object.{Object}
use Rattle.px_heap.specs.declared.values.Serial.{Serial}
use Rattle.px_heap.specs.declared.values.Value.{Value}
use Rattle.px_heap.specs.declared.values.Value.TheVariants as value

abbrev pub of_pairs : List (Serial × Serial) → List Serial
of_pairs [] = []
of_pairs (p ∷ pairs) = p.0 ∷ p.1 ∷ of_pairs pairs

-- the references in a value, in their order
abbrev pub references : Value → List Serial
references (value.Int n) = []
references (value.Bool b) = []
references value.None = []
references (value.Str text) = []
references (value.List items) = items
references (value.Tuple items) = items
references (value.Dict pairs) = of_pairs pairs
references (value.Array array) = []

-- how many of these references are to the object with this number
abbrev pub times : ℕ → List Serial → ℕ
times number [] = 0
times number (r ∷ rs) = (if nat_eq r.number number then 1 else 0) + times number rs

abbrev pub times_in : ℕ → Option Object → ℕ
times_in number None = 0
times_in number (Some o) = times number (references o.value)

-- how many references the objects in these slots have to the object with this number
abbrev pub inner : List (Option Object) → ℕ → ℕ
inner [] number = 0
inner (slot ∷ slots) number = times_in number slot + inner slots number

-- the reference is to an object in these slots
abbrev pub IsAt : List (Option Object) → Serial → Type 0
IsAt slots r = option_map (λ o. o.number) (slice_index_or slots r.key None) ≡ Some r.number

abbrev pub AreAt : List (Option Object) → List Serial → Type 0
AreAt slots [] = Unit {0}
AreAt slots (r ∷ rs) = IsAt slots r × AreAt slots rs
