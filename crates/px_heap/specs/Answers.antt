-- What calls of a heap do to the objects.
use Rattle.std.specs.Prelude.{◌≡◌, ◌≢◌, ℕ, ◌+◌, ◌-◌, ◌<◌, Bool, true, false, List, [], ◌∷◌, Option, Some, None, option_map, if◌then◌else◌, nat_eq, Result, Ok, Err}
use Rattle.px_base.specs.declared.faults.Fault.{Fault}
use Rattle.px_base.specs.declared.faults.Kind.TheVariants.{LimitError}
use Rattle.px_base.specs.declared.faults.Said.TheVariants.{Row}
use Rattle.px_base.specs.declared.faults.StepTrouble.{StepTrouble}
use Rattle.px_base.specs.declared.faults.StepTrouble.TheVariants as trouble
use Rattle.px_heap.specs.declared.values.Serial.{Serial}
use Rattle.px_heap.specs.declared.values.Value.{Value}
use Rattle.px_heap.specs.References.{references, times}
use Rattle.px_heap.specs.Heaps.{Heap, Live, count_of, inner_count, limit, object_of, put, value_of}

-- these objects are as before, but for the one with this number
pub record HasNow (old new : Heap) (number : ℕ) (object : Option Live) : Type 0 where
  pub objects : (other : ℕ) → object_of new other ≡ put number object (object_of old) other
  pub made : new.made ≡ old.made

-- the fault of an object that is one too many
abbrev pub too_many : Fault
too_many = record { kind = LimitError; said = Row 34 }

-- the object is new, with one reference
pub record IsNew (old new : Heap) (value : Value) (s : Serial) : Type 0 where
  pub number : s.number ≡ old.made
  pub objects : (other : ℕ) → object_of new other ≡ put old.made (Some (record { key = s.key; count = 1; value = value })) (object_of old) other
  pub made : new.made ≡ old.made + 1
  pub inner : (number : ℕ) → inner_count new number ≡ inner_count old number + times number (references value)
  pub fresh : object_of old old.made ≡ None
  pub alone : inner_count new old.made ≡ 0
  pub few : old.made < limit

-- nothing is made, and the value is given back
pub record IsRefused (old new : Heap) (value back : Value) : Type 0 where
  pub same : new ≡ old
  pub given_back : back ≡ value

-- what `make` answers
abbrev pub IsMade : Heap → Heap → Value → Result Serial (Value × StepTrouble) → Type 0
IsMade old new value (Ok s) = IsNew old new value s
IsMade old new value (Err (back, trouble.Raised fault)) = IsRefused old new value back × (old.made ≡ limit) × (fault ≡ too_many)
IsMade old new value (Err (back, trouble.NoMemory)) = IsRefused old new value back × (old.made < limit)

-- a count with one reference more, which stays as it is at its greatest
abbrev pub raised : ℕ → ℕ
raised count = if nat_eq count limit then count else count + 1

abbrev pub shared : Live → Live
shared o = record o { count = raised o.count }

abbrev pub holding : Value → Live → Live
holding value o = record o { value = value }

-- Taking a reference off

abbrev pub times_of : ℕ → Option Value → ℕ
times_of number None = 0
times_of number (Some value) = times number (references value)

-- how many references an object loses: the one to the object with the first number, and those in the objects that were freed, the last
-- of which stands first
abbrev pub lost : Heap → ℕ → List ℕ → ℕ → ℕ
lost heap dropped [] number = if nat_eq dropped number then 1 else 0
lost heap dropped (m ∷ freed) number = times_of number (value_of heap m) + lost heap dropped freed number

abbrev pub is_among : ℕ → List ℕ → Bool
is_among number [] = false
is_among number (m ∷ ms) = if nat_eq number m then true else is_among number ms

-- each of these objects had as many references as it had lost when it was freed, and was freed once
abbrev pub AreFreed : Heap → ℕ → List ℕ → Type 0
AreFreed heap dropped [] = Unit {0}
AreFreed heap dropped (m ∷ freed) = (count_of heap m ≡ Some (lost heap dropped freed m)) × (lost heap dropped freed m ≢ limit) × (is_among m freed ≡ false) × AreFreed heap dropped freed

-- an object with so many references less, where its count isn't at its greatest
abbrev pub lowered_by : ℕ → Live → Live
lowered_by n o = record o { count = if nat_eq o.count limit then o.count else o.count - n }

abbrev pub rest_of : ℕ → Bool → Option Live → Option Live
rest_of n true o = None
rest_of n false o = option_map (lowered_by n) o

-- A reference to the object with this number is taken off, and the objects go whose counts reach 0 by it.
pub record IsDropped (old new : Heap) (dropped : ℕ) : Type 0 where
  -- the numbers of the objects that go, the last first
  pub freed : List ℕ
  pub in_turn : AreFreed old dropped freed
  pub objects : (number : ℕ) → object_of new number ≡ rest_of (lost old dropped freed number) (is_among number freed) (object_of old number)
  pub left : (number : ℕ) (o : Live) → object_of new number ≡ Some o → 0 < o.count
  pub inner : (number : ℕ) → inner_count new number + lost old dropped freed number ≡ inner_count old number + (if nat_eq dropped number then 1 else 0)
  pub made : new.made ≡ old.made
