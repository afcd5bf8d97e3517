-- Which statements have code, as tests (those of `IsFineStatement`), and the first one that has none.
use Rattle.std.specs.Prelude.{ℕ, Bool, true, false, ◌&&◌, if◌then◌else◌, nat_eq, List, map, slice_get, Option, Some, None}
use Rattle.px_base.specs.declared.refusals.Span.{Span}
use Rattle.px_base.specs.declared.objects.Builtin.TheVariants as builtin
use Rattle.px_tree.specs.declared.typed_values.ValueType.{ValueType}
use Rattle.px_tree.specs.declared.typed_values.ValueType.TheVariants as type
use Rattle.px_tree.specs.declared.typed_values.Conversion.TheVariants as conversion
use Rattle.px_tree.specs.declared.typed_heads.TypedHead.{TypedHead}
use Rattle.px_types.specs.TypedModule.{FunctionTypes}
use Rattle.px_tree.specs.declared.typed_heads.TypedHead.TheVariants as head
use Rattle.px_walk.specs.Roses.{Roses, rose, none, more, head_of}
use Rattle.px_typed_walk.specs.TypedView.{TypedRose, type_of}
use Rattle.px_operators.specs.Conversions.{is_same_c}
use Rattle.px_code_laws.specs.Fine.{types_of}
use Rattle.px_compile.specs.Fits.{has_type, is_c_type, tree_fits, parts_fit}

-- the parts of a node that has one, or two

abbrev pub one_part : Roses TypedHead → Option TypedRose
one_part none = None
one_part (more tree none) = Some tree
one_part (more tree (more other trees)) = None

abbrev pub two_parts : Roses TypedHead → Option (TypedRose × TypedRose)
two_parts none = None
two_parts (more tree none) = None
two_parts (more tree (more other none)) = Some (tree, other)
two_parts (more tree (more other (more third trees))) = None

-- ---- print

-- a number as an object
unfoldable pub boxed_fits : List ValueType → TypedHead → Roses TypedHead → Bool
boxed_fits locals (head.Converted (conversion.ToObject t)) parts = has_type (types_of parts) 0 t && parts_fit locals None false parts
boxed_fits locals _ parts = false

abbrev pub argument_fits : List ValueType → TypedRose → Bool
argument_fits locals (rose h number at parts) = boxed_fits locals h parts

abbrev pub arguments_fit : List ValueType → Roses TypedHead → Bool
arguments_fit locals none = true
arguments_fit locals (more tree trees) = argument_fits locals tree && arguments_fit locals trees

-- ---- calls of functions without parameters

-- what such a function gives, if it is one, is of this type
abbrev pub gives_type : ValueType → ValueType → Bool
gives_type (type.C u) (type.C t) = is_same_c u t
gives_type (type.C u) type.Object = false
gives_type (type.C u) (type.View v) = false
gives_type (type.C u) type.Void = false
gives_type type.Object (type.C t) = false
gives_type type.Object type.Object = true
gives_type type.Object (type.View v) = false
gives_type type.Object type.Void = false
gives_type (type.View w) t = false
gives_type type.Void (type.C t) = false
gives_type type.Void type.Object = false
gives_type type.Void (type.View v) = false
gives_type type.Void type.Void = true

abbrev pub is_callee : Option (Option ValueType) → ValueType → Bool
is_callee None t = false
is_callee (Some None) t = false
is_callee (Some (Some u)) t = gives_type u t

-- what a function gives that has no parameters
abbrev pub callee_of : FunctionTypes → Option ValueType
callee_of f = if nat_eq f.params 0 then Some f.gives else None

abbrev pub callees_of : List FunctionTypes → List (Option ValueType)
callees_of functions = map callee_of functions

abbrev pub has_no_parts : Roses TypedHead → Bool
has_no_parts none = true
has_no_parts (more tree trees) = false

abbrev pub call_fits : List (Option ValueType) → ℕ → ValueType → Roses TypedHead → Bool
call_fits callees function t parts = has_no_parts parts && is_callee (slice_get callees function) t

-- ---- statements

-- a print, a call or a number
unfoldable pub alone_by : List ValueType → List (Option ValueType) → TypedHead → Roses TypedHead → Bool → Bool
alone_by locals callees (head.Builtin builtin.Print) parts fits = arguments_fit locals parts
alone_by locals callees (head.Call function t) parts fits = call_fits callees function t parts
alone_by locals callees _ parts fits = fits

abbrev pub alone_fits : List ValueType → List (Option ValueType) → TypedRose → Bool
alone_fits locals callees (rose h number at parts) = alone_by locals callees h parts (tree_fits locals None (rose h number at parts))

abbrev pub expression_fits : List ValueType → List (Option ValueType) → Option TypedRose → Bool
expression_fits locals callees None = false
expression_fits locals callees (Some tree) = alone_fits locals callees tree

-- a number of a type
abbrev pub number_fits : List ValueType → ValueType → TypedRose → Bool
number_fits locals (type.C t) tree = tree_fits locals None tree && is_c_type (Some (type_of tree)) t
number_fits locals type.Object tree = false
number_fits locals (type.View t) tree = false
number_fits locals type.Void tree = false

-- a variable of a C type
abbrev pub variable_fits : List ValueType → ℕ → ValueType → Bool
variable_fits locals slot (type.C t) = has_type locals slot t
variable_fits locals slot type.Object = false
variable_fits locals slot (type.View t) = false
variable_fits locals slot type.Void = false

abbrev pub set_fits : List ValueType → ℕ → ValueType → TypedRose → Bool
set_fits locals slot t tree = variable_fits locals slot t && number_fits locals t tree

unfoldable pub target_fits : List ValueType → TypedHead → TypedRose → Bool
target_fits locals (head.Local slot t) tree = set_fits locals slot t tree
target_fits locals _ tree = false

abbrev pub assign_fits : List ValueType → Option (TypedRose × TypedRose) → Bool
assign_fits locals None = false
assign_fits locals (Some (target, tree)) = target_fits locals (head_of target) tree

-- a variable whose value is at hand for the value that it gets
abbrev pub step_fits : List ValueType → ValueType → TypedRose → Bool
step_fits locals (type.C t) tree = tree_fits locals (Some t) tree && is_c_type (Some (type_of tree)) t
step_fits locals type.Object tree = false
step_fits locals (type.View t) tree = false
step_fits locals type.Void tree = false

unfoldable pub augmented_fits : List ValueType → TypedHead → TypedRose → TypedRose → Bool
augmented_fits locals (head.Local slot t) target tree =
    variable_fits locals slot t && (tree_fits locals None target && step_fits locals t tree)
augmented_fits locals _ target tree = false

abbrev pub augment_fits : List ValueType → Option (TypedRose × TypedRose) → Bool
augment_fits locals None = false
augment_fits locals (Some (target, tree)) = augmented_fits locals (head_of target) target tree

abbrev pub initial_fits : List ValueType → ℕ → ValueType → Option TypedRose → Bool
initial_fits locals slot t None = false
initial_fits locals slot t (Some tree) = set_fits locals slot t tree

abbrev pub declarator_fits : List ValueType → ℕ → ValueType → Roses TypedHead → Bool
declarator_fits locals slot t parts = if has_no_parts parts then true else initial_fits locals slot t (one_part parts)

-- an end without a value: one that gives an object needs None among the constants
abbrev pub end_fits : Bool → ValueType → Bool
end_fits has_none (type.C t) = true
end_fits has_none type.Object = has_none
end_fits has_none (type.View t) = false
end_fits has_none type.Void = true

abbrev pub returned_fits : List ValueType → ValueType → Option TypedRose → Bool
returned_fits locals gives None = false
returned_fits locals gives (Some tree) = number_fits locals gives tree

abbrev pub return_fits : List ValueType → ValueType → Bool → Roses TypedHead → Bool
return_fits locals gives has_none parts = if has_no_parts parts then end_fits has_none gives else returned_fits locals gives (one_part parts)

-- a statement that has no statements in it
unfoldable pub leaf_fits : List ValueType → ValueType → Bool → List (Option ValueType) → TypedHead → Roses TypedHead → Bool
leaf_fits locals gives has_none callees head.Expression parts = expression_fits locals callees (one_part parts)
leaf_fits locals gives has_none callees head.Assign parts = assign_fits locals (two_parts parts)
leaf_fits locals gives has_none callees (head.Augment op) parts = augment_fits locals (two_parts parts)
leaf_fits locals gives has_none callees (head.Declarator slot t) parts = declarator_fits locals slot t parts
leaf_fits locals gives has_none callees head.Pass parts = true
leaf_fits locals gives has_none callees head.Global parts = true
leaf_fits locals gives has_none callees head.Return parts = return_fits locals gives has_none parts
leaf_fits locals gives has_none callees _ parts = false

-- a statement that is made of others
unfoldable pub is_group : TypedHead → Bool
is_group head.Declare = true
is_group _ = false

-- ---- the first statement without code, at its place

abbrev pub first_there : Option Span → Option Span → Option Span
first_there None other = other
first_there (Some at) other = Some at

abbrev pub placed : Bool → Span → Option Span
placed true at = None
placed false at = Some at

abbrev mutual
  pub unfit : List ValueType → ValueType → Bool → List (Option ValueType) → TypedRose → Option Span
  unfit locals gives has_none callees (rose h number at parts) =
      if is_group h then unfit_among locals gives has_none callees parts
      else placed (leaf_fits locals gives has_none callees h parts) at

  pub unfit_among : List ValueType → ValueType → Bool → List (Option ValueType) → Roses TypedHead → Option Span
  unfit_among locals gives has_none callees none = None
  unfit_among locals gives has_none callees (more tree trees) =
      first_there (unfit locals gives has_none callees tree) (unfit_among locals gives has_none callees trees)
