-- Conversions: in assignments, arguments, results, casts and tests a value becomes one of the type that is asked for.
use Rattle.std.specs.Prelude.{ℕ, Bool, ◌&&◌, ◌||◌, not, if◌then◌else◌, nat_eq, List, [], ◌∷◌, map, Ok}
use Rattle.px_base.specs.declared.c_types.CType.{CType}
use Rattle.px_base.specs.declared.c_types.CType.TheVariants as c
use Rattle.px_tree.specs.declared.typed_values.Layout.{Layout}
use Rattle.px_tree.specs.declared.typed_values.Layout.TheVariants as layout
use Rattle.px_tree.specs.declared.typed_values.ViewType.{ViewType}
use Rattle.px_tree.specs.declared.typed_values.ValueType.{ValueType}
use Rattle.px_tree.specs.declared.typed_values.ValueType.TheVariants as value
use Rattle.px_tree.specs.declared.typed_values.Conversion.{Conversion}
use Rattle.px_tree.specs.declared.typed_values.Conversion.TheVariants as conversion
use Rattle.px_tree.specs.declared.typed_heads.TypedHead.TheVariants as head
use Rattle.px_walk.specs.Roses.{number_of, at_of}
use Rattle.px_typed_walk.specs.TypedView.{TypedRose, typed_node, type_of}
use Rattle.px_operators.specs.declared.fittings.Fitting.{Fitting}
use Rattle.px_operators.specs.declared.fittings.Fitting.TheVariants as fitting
use Rattle.px_operators.specs.Outcomes.{Outcome, refused, followed, both, mapped, all_of}

-- Whether two types are one

abbrev pub c_type_number : CType → ℕ
c_type_number c.SChar = 0
c_type_number c.UChar = 1
c_type_number c.Char = 2
c_type_number c.Short = 3
c_type_number c.UShort = 4
c_type_number c.Int = 5
c_type_number c.UInt = 6
c_type_number c.Long = 7
c_type_number c.ULong = 8
c_type_number c.LongLong = 9
c_type_number c.ULongLong = 10
c_type_number c.SsizeT = 11
c_type_number c.SizeT = 12
c_type_number c.Bint = 13

abbrev pub is_same_c : CType → CType → Bool
is_same_c a b = nat_eq (c_type_number a) (c_type_number b)

abbrev pub layout_number : Layout → ℕ
layout_number layout.Strided = 0
layout_number layout.RowMajor = 1
layout_number layout.ColumnMajor = 2

abbrev pub is_same_layout : Layout → Layout → Bool
is_same_layout a b = nat_eq (layout_number a) (layout_number b)

-- A view fits a view type of the same rank and element type, with no loss of const; the order of its elements is tested at run time.

abbrev pub has_same_elements : ViewType → ViewType → Bool
has_same_elements from to = is_same_c from.element to.element && nat_eq from.rank to.rank

abbrev pub keeps_const : ViewType → ViewType → Bool
keeps_const from to = to.is_const || not from.is_const

-- of two with the same elements where the second is const if the first is
abbrev pub is_same_view : ViewType → ViewType → Bool
is_same_view from to = keeps_const to from && is_same_layout from.layout to.layout

abbrev pub view_fitting : ViewType → ViewType → Fitting
view_fitting from to =
    if has_same_elements from to && keeps_const from to then
    (if is_same_view from to then fitting.Equal else fitting.By (conversion.ViewOfView to))
    else fitting.Never

abbrev pub c_fitting : CType → CType → Fitting
c_fitting from to = if is_same_c from to then fitting.Equal else fitting.By (conversion.ToC to)

-- an object to bint is its truth
abbrev pub object_fitting : CType → Fitting
object_fitting c.Bint = fitting.By conversion.Truth
object_fitting t = fitting.By (conversion.FromObject t)

-- what makes a value of the first type one of the second
abbrev pub fitting_of : ValueType → ValueType → Fitting
fitting_of (value.C from) (value.C to) = c_fitting from to
fitting_of (value.C from) value.Object = fitting.By (conversion.ToObject from)
fitting_of value.Object (value.C to) = object_fitting to
fitting_of value.Object value.Object = fitting.Equal
fitting_of value.Object (value.View to) = fitting.By (conversion.ViewOfObject to)
fitting_of (value.View from) (value.View to) = view_fitting from to
fitting_of _ _ = fitting.Never

-- a conversion has the number and the place of what it converts
abbrev pub converted : Conversion → TypedRose → TypedRose
converted how tree = typed_node (head.Converted how) (number_of tree) (at_of tree) (tree ∷ [])

abbrev pub fitted_by : Fitting → TypedRose → Outcome TypedRose
fitted_by fitting.Equal tree = Ok tree
fitted_by (fitting.By how) tree = Ok (converted how tree)
fitted_by fitting.Never tree = refused (at_of tree)

-- a value as one of this type
abbrev pub fitted : ValueType → TypedRose → Outcome TypedRose
fitted t tree = fitted_by (fitting_of (type_of tree) t) tree

-- a value as a test
abbrev pub tested : TypedRose → Outcome TypedRose
tested tree = fitted (value.C c.Bint) tree

-- values as those of these types, one by one
abbrev pub fitted_each : List ValueType → List (Outcome TypedRose) → Outcome (List TypedRose)
fitted_each (t ∷ types) (outcome ∷ outcomes) =
    mapped (λ parts. parts.0 ∷ parts.1) (both (followed outcome (fitted t)) (fitted_each types outcomes))
fitted_each _ _ = Ok []

-- values as objects
abbrev pub as_objects : List (Outcome TypedRose) → Outcome (List TypedRose)
as_objects outcomes = all_of (map (λ outcome. followed outcome (fitted value.Object)) outcomes)

-- a value, and no void call
abbrev pub value_of_type : TypedRose → ValueType → Outcome TypedRose
value_of_type tree value.Void = refused (at_of tree)
value_of_type tree t = Ok tree

abbrev pub valued : TypedRose → Outcome TypedRose
valued tree = value_of_type tree (type_of tree)

-- a value of a C type as one of another, in an operator
abbrev pub in_c : CType → TypedRose × CType → TypedRose
in_c to (tree, from) = if is_same_c from to then tree else converted (conversion.ToC to) tree
