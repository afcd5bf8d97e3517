-- What types as they are written stand for (Cython user guide, Language Basics and Typed Memoryviews).
use Rattle.std.specs.Prelude.{Bool, true, false, ◌&&◌, not, if◌then◌else◌, nat_eq, nat_le, List, [], ◌∷◌, length, Option, Some, None, option_map, slice_get}
use Rattle.std.specs.List.{list_all}
use Rattle.px_base.specs.declared.c_types.CType.{CType}
use Rattle.px_tree.specs.declared.typings.«Type».{«Type» as Typing}
use Rattle.px_tree.specs.declared.typings.BaseType.{BaseType}
use Rattle.px_tree.specs.declared.typings.BaseType.TheVariants as base
use Rattle.px_tree.specs.declared.typings.Axis.{Axis}
use Rattle.px_tree.specs.declared.typings.Axis.TheVariants as axis
use Rattle.px_tree.specs.declared.typed_values.Layout.{Layout}
use Rattle.px_tree.specs.declared.typed_values.Layout.TheVariants as layout
use Rattle.px_tree.specs.declared.typed_values.ValueType.{ValueType}
use Rattle.px_tree.specs.declared.typed_values.ValueType.TheVariants as value
use Rattle.px_walk.specs.Forms.{Form}
use Rattle.px_walk.specs.Forms as form
use Rattle.px_walk.specs.Roses.{head_of}
use Rattle.px_walk.specs.ExprView.{Tree}

-- `list`, `dict`, `tuple` and `str` as types mean object
abbrev pub plain_type : BaseType → ValueType
plain_type (base.C t) = value.C t
plain_type base.Object = value.Object
plain_type base.List = value.Object
plain_type base.Dict = value.Object
plain_type base.Tuple = value.Object
plain_type base.Str = value.Object

-- `::1` stands on the last axis, which asks for row-major order, or on the first, which asks for column-major order

abbrev pub is_strided : Axis → Bool
is_strided axis.Strided = true
is_strided axis.Contiguous = false

abbrev pub are_strided : List Axis → Bool
are_strided axes = list_all is_strided axes

abbrev pub is_row_major : List Axis → Bool
is_row_major [] = false
is_row_major (axis ∷ axes) = if is_strided axis then is_row_major axes else nat_eq (length axes) 0

abbrev pub is_column_major : List Axis → Bool
is_column_major [] = false
is_column_major (axis ∷ axes) = not (is_strided axis) && are_strided axes

abbrev pub layout_of : List Axis → Option Layout
layout_of axes =
    if are_strided axes then Some layout.Strided
    else if is_row_major axes then Some layout.RowMajor
    else if is_column_major axes then Some layout.ColumnMajor
    else None

-- a view type is an element type, which is a C integer type or bint, and 1 to 3 axes
abbrev pub view_type : Bool → CType → List Axis → Option ValueType
view_type is_const t axes =
    if nat_le (length axes) 3 then
    option_map (λ how. value.View (record { element = t; rank = length axes; is_const = is_const; layout = how })) (layout_of axes)
    else None

abbrev pub with_axes : Bool → BaseType → List Axis → Option ValueType
with_axes is_const (base.C t) axes = view_type is_const t axes
with_axes is_const _ axes = None

-- const on what isn't a view means nothing
abbrev pub written_type : Bool → BaseType → List Axis → Option ValueType
written_type is_const of [] = Some (plain_type of)
written_type is_const of (first ∷ axes) = with_axes is_const of (first ∷ axes)

abbrev pub type_of_typing : Typing → Option ValueType
type_of_typing typing = written_type typing.is_const typing.base typing.axes

-- the type that a node of a type stands for; none where there is none
abbrev pub type_at : Form → Option ValueType
type_at (form.«Type» is_const of axes) = written_type is_const of axes
type_at _ = None

-- the type that a part of a node stands for, and the first part

abbrev pub type_of_part : Option Tree → Option ValueType
type_of_part None = None
type_of_part (Some part) = type_at (head_of part)

abbrev pub first_type : List Tree → Option ValueType
first_type parts = type_of_part (slice_get parts 0)
