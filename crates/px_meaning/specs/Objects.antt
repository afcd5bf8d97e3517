-- Steps on objects: functions of the store (Python Language Reference 3.1).
use Rattle.std.specs.Prelude.{ℕ, ◌-◌, ◌^◌, ℤ, true, false, not, nat_lt, nat_le, if◌then◌else◌, List, [], ◌∷◌, ◌++◌, length, codes, encode_utf8_all, slice_get, slice_set, Option, Some, None}
use Rattle.std.specs.Fmt.{signed_decimal}
use Rattle.px_base.specs.declared.c_types.CType.{CType}
use Rattle.px_base.specs.declared.c_types.CType.TheVariants as c
use Rattle.px_base.specs.declared.faults.Fault.{Fault}
use Rattle.px_base.specs.declared.faults.Kind.TheVariants.{LimitError, NameError}
use Rattle.px_base.specs.declared.objects.Constant.{Constant}
use Rattle.px_base.specs.declared.objects.Constant.TheVariants as constant
use Rattle.px_ctypes.specs.Operators.{fault_of, is_zero}
use Rattle.px_model.specs.declared.stores.ObjectValue.{ObjectValue}
use Rattle.px_model.specs.declared.stores.ObjectValue.TheVariants as object_value
use Rattle.px_model.specs.declared.stores.Store.{Store}
use Rattle.px_meaning.specs.Values.{Value, whole, object, view, nothing}
use Rattle.px_meaning.specs.States.{State, holding}
use Rattle.px_meaning.specs.Ends.{Ends, gives, raised, meaningless}

-- what a step on objects comes to: what it gives, or its fault; and the store behind it
pub data Stepped (A : Type 0) : Type 0 where
  gave : A → Store → Stepped A
  failed : Fault → Store → Stepped A

abbrev pub with_stepped : {A : Type 0} → Stepped A → State → Ends A
with_stepped (gave a store) s = gives a (holding store s)
with_stepped (failed fault store) s = raised fault (holding store s)

abbrev pub step_from : {A : Type 0} → Option Store → (Store → Stepped A) → State → Ends A
step_from None step s = meaningless
step_from (Some store) step s = with_stepped (step store) s

-- a step on objects, which only one makes who holds the lock
abbrev pub stepping : {A : Type 0} → (Store → Stepped A) → State → Ends A
stepping step s = step_from s.store step s

-- Making objects

abbrev pub object_limit : ℕ
object_limit = 2 ^ 64 - 1

-- the object with the next serial number
abbrev pub new_object : ObjectValue → Store → Stepped Value
new_object what store =
    if nat_lt (length store.objects) object_limit
    then gave (object (length store.objects)) (record store { objects = store.objects ++ what ∷ [] })
    else failed (fault_of LimitError 34) store

-- a value of a C type as an object: of bint a bool, and else an int
abbrev pub boxed : CType → ℤ → ObjectValue
boxed c.Bint n = object_value.Bool (not (is_zero n))
boxed t n = object_value.Int n

abbrev pub constant_object : Constant → ObjectValue
constant_object (constant.Text text) = object_value.Str text
constant_object (constant.Wide n) = object_value.Int n
constant_object constant.None = object_value.None

-- Names of the module (Python Language Reference 4.2)

abbrev pub named_object : Option (Option ℕ) → Store → Stepped Value
named_object (Some (Some serial)) store = gave (object serial) store
named_object (Some None) store = failed (fault_of NameError 27) store
named_object None store = failed (fault_of NameError 27) store

abbrev pub fetched : ℕ → Store → Stepped Value
fetched name store = named_object (slice_get store.names name) store

-- the name has this object from now on
abbrev pub with_name : {A : Type 0} → A → ℕ → ℕ → Store → Stepped A
with_name a name serial store = gave a (record store { names = slice_set store.names name (Some serial) })

-- Printing (Python Library Reference, print)

abbrev pub output_limit : ℕ
output_limit = 67108864

-- The text of an object. That of a container isn't defined.
abbrev pub text_of : ObjectValue → Option (List ℕ)
text_of (object_value.Int n) = Some (signed_decimal n)
text_of (object_value.Bool true) = Some (codes "True")
text_of (object_value.Bool false) = Some (codes "False")
text_of object_value.None = Some (codes "None")
text_of (object_value.Str text) = Some (encode_utf8_all text)
text_of (object_value.List items) = None
text_of (object_value.Tuple items) = None
text_of (object_value.Dict entries) = None
text_of (object_value.Array array) = Some (codes "<array>")

abbrev pub text_of_there : Option ObjectValue → Option (List ℕ)
text_of_there None = None
text_of_there (Some what) = text_of what

abbrev pub text_of_value : Store → Value → Option (List ℕ)
text_of_value store (whole n) = None
text_of_value store (object serial) = text_of_there (slice_get store.objects serial)
text_of_value store (view v) = None
text_of_value store nothing = None

abbrev pub listed_text : Option (List ℕ) → Option (List (List ℕ)) → Option (List (List ℕ))
listed_text (Some text) (Some texts) = Some (text ∷ texts)
listed_text _ _ = None

abbrev pub texts_of : Store → List Value → Option (List (List ℕ))
texts_of store [] = Some []
texts_of store (v ∷ values) = listed_text (text_of_value store v) (texts_of store values)

-- one space between texts
abbrev pub spaced : List (List ℕ) → List ℕ
spaced [] = []
spaced (text ∷ []) = text
spaced (text ∷ next ∷ texts) = text ++ codes " " ++ spaced (next ∷ texts)

-- a print that would make the output too long adds nothing
abbrev pub with_output : List ℕ → Store → Stepped Value
with_output output store =
    if nat_le (length output) output_limit then gave nothing (record store { output = output })
    else failed (fault_of LimitError 13) store

abbrev pub print_line : Option (List (List ℕ)) → Store → State → Ends Value
print_line None store s = meaningless
print_line (Some texts) store s = with_stepped (with_output (store.output ++ spaced texts ++ codes "\n") store) s

abbrev pub print_from : Option Store → List Value → State → Ends Value
print_from None values s = meaningless
print_from (Some store) values s = print_line (texts_of store values) store s

-- the texts of objects with one space between and LF behind
abbrev pub printed : List Value → State → Ends Value
printed values s = print_from s.store values s
