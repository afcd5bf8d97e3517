-- Which expressions of C types have code, as tests (those of `IsFine`).
use Rattle.std.specs.Prelude.{ℕ, Bool, true, false, ◌&&◌, ◌||◌, not, if◌then◌else◌, List, [], ◌∷◌, map, slice_get, Option, Some, None, ℤ, pos, int_le}
use Rattle.px_base.specs.declared.c_types.CType.{CType}
use Rattle.px_base.specs.declared.c_types.CType.TheVariants as c
use Rattle.px_base.specs.declared.c_types.BinOp.{BinOp}
use Rattle.px_ctypes.specs.Types.{is_in_range}
use Rattle.px_ctypes.specs.Operators.{is_shift}
use Rattle.px_tree.specs.declared.typed_values.ValueType.{ValueType}
use Rattle.px_tree.specs.declared.typed_values.ValueType.TheVariants as type
use Rattle.px_tree.specs.declared.typed_values.Conversion.{Conversion}
use Rattle.px_tree.specs.declared.typed_values.Conversion.TheVariants as conversion
use Rattle.px_tree.specs.declared.typed_values.Comparing.{Comparing}
use Rattle.px_tree.specs.declared.typed_values.Comparing.TheVariants as comparing
use Rattle.px_tree.specs.declared.typed_heads.TypedHead.{TypedHead}
use Rattle.px_tree.specs.declared.typed_heads.TypedHead.TheVariants as head
use Rattle.px_tree.specs.declared.typed_modules.Local.{Local}
use Rattle.px_walk.specs.Roses.{Roses, rose, none, more}
use Rattle.px_typed_walk.specs.TypedView.{TypedRose, type_of}
use Rattle.px_operators.specs.Conversions.{is_same_c}
use Rattle.px_code_laws.specs.Fine.{types_of}

-- the types of variables
abbrev pub types_of_locals : List Local → List ValueType
types_of_locals locals = map (λ local. local.value_type) locals

-- a type that is there is this C type
abbrev pub is_c_type : Option ValueType → CType → Bool
is_c_type None t = false
is_c_type (Some (type.C u)) t = is_same_c u t
is_c_type (Some type.Object) t = false
is_c_type (Some (type.View v)) t = false
is_c_type (Some type.Void) t = false

-- some C type is there
abbrev pub is_number : Option ValueType → Bool
is_number None = false
is_number (Some (type.C u)) = true
is_number (Some type.Object) = false
is_number (Some (type.View v)) = false
is_number (Some type.Void) = false

-- the part of this number has a value of the type
abbrev pub has_type : List ValueType → ℕ → CType → Bool
has_type types k t = is_c_type (slice_get types k) t

abbrev pub right_fits : BinOp → CType → List ValueType → Bool
right_fits op t types = if is_shift op then is_number (slice_get types 1) else has_type types 1 t

abbrev pub local_fits : List ValueType → ℕ → ValueType → Bool
local_fits locals slot (type.C t) = has_type locals slot t
local_fits locals slot type.Object = false
local_fits locals slot (type.View t) = false
local_fits locals slot type.Void = false

abbrev pub conversion_fits : Conversion → List ValueType → Bool
conversion_fits (conversion.ToC t) types = is_number (slice_get types 0)
conversion_fits (conversion.ToObject t) types = false
conversion_fits (conversion.FromObject t) types = false
conversion_fits conversion.Truth types = false
conversion_fits (conversion.ViewOfObject t) types = false
conversion_fits (conversion.ViewOfView t) types = false

abbrev pub cast_fits : ValueType → List ValueType → Bool
cast_fits (type.C t) types = has_type types 0 t
cast_fits type.Object types = false
cast_fits (type.View t) types = false
cast_fits type.Void types = false

abbrev pub comparison_fits : Comparing → List ValueType → Bool
comparison_fits (comparing.C op t) types = has_type types 0 t && has_type types 1 t
comparison_fits (comparing.Objects op) types = false
comparison_fits comparing.In types = false
comparison_fits comparing.NotIn types = false
comparison_fits comparing.Is types = false
comparison_fits comparing.IsNot types = false

-- the value at hand, if any, is of this type
abbrev pub given_fits : Option CType → ValueType → Bool
given_fits (Some u) (type.C t) = is_same_c u t
given_fits (Some u) type.Object = false
given_fits (Some u) (type.View t) = false
given_fits (Some u) type.Void = false
given_fits None t = false

abbrev pub is_value_of : CType → ℤ → Bool
is_value_of t n = if is_same_c t c.Bint then int_le (pos 0) n && int_le n (pos 1) else is_in_range t n

-- the type of the last part
abbrev pub last_or : Option ValueType → List ValueType → Option ValueType
last_or before [] = before
last_or before (t ∷ types) = last_or (Some t) types

abbrev pub last_type : List ValueType → Option ValueType
last_type types = last_or None types

-- steps of a C type
abbrev pub steps_type_fits : ValueType → List ValueType → Bool
steps_type_fits (type.C t) types = is_c_type (last_type types) t
steps_type_fits type.Object types = false
steps_type_fits (type.View t) types = false
steps_type_fits type.Void types = false

-- by the head, the types of variables, that of the value at hand, if there is one, and those of the parts
unfoldable pub head_fits : List ValueType → Option CType → TypedHead → List ValueType → Bool
head_fits locals at_hand (head.Literal t n) types = is_value_of t n
head_fits locals at_hand (head.Sizeof t) types = true
head_fits locals at_hand (head.Local slot t) types = local_fits locals slot t
head_fits locals at_hand (head.Given t) types = given_fits at_hand t
head_fits locals at_hand (head.Converted asked) types = conversion_fits asked types
head_fits locals at_hand (head.Cast t) types = cast_fits t types
head_fits locals at_hand (head.Steps t) types = steps_type_fits t types
head_fits locals at_hand (head.Unary op t) types = not (is_same_c t c.Bint) && has_type types 0 t
head_fits locals at_hand (head.Binary op t truncates) types = not (is_same_c t c.Bint) && (has_type types 0 t && right_fits op t types)
head_fits locals at_hand (head.Compare how) types = comparison_fits how types
head_fits locals at_hand (head.Abs t) types = not (is_same_c t c.Bint) && has_type types 0 t
head_fits locals at_hand _ types = false

-- the C type of a value, if it has one
abbrev pub c_type_of : ValueType → Option CType
c_type_of (type.C t) = Some t
c_type_of type.Object = None
c_type_of (type.View v) = None
c_type_of type.Void = None

-- of steps each has the value of the one before at hand
unfoldable pub are_steps : TypedHead → Bool
are_steps (head.Steps t) = true
are_steps _ = false

abbrev mutual
  pub tree_fits : List ValueType → Option CType → TypedRose → Bool
  tree_fits locals at_hand (rose h number at parts) =
      head_fits locals at_hand h (types_of parts) && parts_fit locals at_hand (are_steps h) parts

  -- A value at hand is read in the first part alone, or by each step that of the one before.
  pub parts_fit : List ValueType → Option CType → Bool → Roses TypedHead → Bool
  parts_fit locals at_hand steps none = true
  parts_fit locals at_hand steps (more tree trees) =
      tree_fits locals at_hand tree
      && ((not steps || is_number (Some (type_of tree))) && parts_fit locals (if steps then c_type_of (type_of tree) else None) steps trees)
