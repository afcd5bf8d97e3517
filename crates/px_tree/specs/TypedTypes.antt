-- The types of the nodes of the typed tree, and the numbers by which they are found.
use Rattle.std.specs.Prelude.{ℕ, List, [], ◌∷◌, max}
use Rattle.px_base.specs.declared.c_types.CType.TheVariants as c
use Rattle.px_tree.specs.declared.typed_values.ValueType.{ValueType}
use Rattle.px_tree.specs.declared.typed_values.ValueType.TheVariants as value
use Rattle.px_tree.specs.declared.typed_values.Conversion.{Conversion}
use Rattle.px_tree.specs.declared.typed_values.Conversion.TheVariants as conversion
use Rattle.px_tree.specs.declared.typed_heads.TypedHead.{TypedHead}
use Rattle.px_tree.specs.declared.typed_heads.TypedHead.TheVariants as head
use Rattle.px_tree.specs.declared.typed_trees.TypedTree.{TypedTree, out-TypedTree}

-- what a conversion gives
abbrev pub type_of_conversion : Conversion → ValueType
type_of_conversion (conversion.ToC t) = value.C t
type_of_conversion (conversion.ToObject t) = value.Object
type_of_conversion (conversion.FromObject t) = value.C t
type_of_conversion conversion.Truth = value.C c.Bint
type_of_conversion (conversion.ViewOfObject t) = value.View t
type_of_conversion (conversion.ViewOfView t) = value.View t

-- what a node gives; a statement and a part of an expression give nothing
abbrev pub type_of_head : TypedHead → ValueType
type_of_head (head.Literal t n) = value.C t
type_of_head (head.Sizeof t) = value.C c.SizeT
type_of_head (head.Constant constant) = value.Object
type_of_head (head.Local slot t) = t
type_of_head (head.ModuleName name) = value.Object
type_of_head (head.Given t) = t
type_of_head (head.Kept t) = t
type_of_head (head.Converted asked) = type_of_conversion asked
type_of_head (head.Cast t) = t
type_of_head (head.Steps t) = t
type_of_head (head.Unary op t) = value.C t
type_of_head (head.Binary op t truncates) = value.C t
type_of_head (head.Compare comparing) = value.C c.Bint
type_of_head head.Comparisons = value.C c.Bint
type_of_head head.Not = value.C c.Bint
type_of_head (head.And t) = t
type_of_head (head.Or t) = t
type_of_head (head.Conditional t) = t
type_of_head (head.Call function t) = t
type_of_head (head.Abs t) = value.C t
type_of_head (head.Min t) = value.C t
type_of_head (head.Max t) = value.C t
type_of_head head.ThreadId = value.C c.Int
type_of_head (head.ObjectUnary op) = value.Object
type_of_head (head.ObjectBinary op) = value.Object
type_of_head head.Tuple = value.Object
type_of_head head.List = value.Object
type_of_head head.Dict = value.Object
type_of_head head.Item = value.Object
type_of_head (head.Part has_from has_to has_step) = value.Object
type_of_head (head.Method method) = value.Object
type_of_head (head.Builtin builtin) = value.Object
type_of_head (head.Element t wraparound) = value.C t
type_of_head (head.ViewPart t wraparound) = value.View t
type_of_head (head.Transposed t) = value.View t
type_of_head (head.Copied t) = value.View t
type_of_head head.Length = value.C c.SsizeT
type_of_head (head.Extent axis) = value.C c.SsizeT
type_of_head head.Array = value.Object
type_of_head _ = value.Void

-- the greatest of a number and the last numbers of these trees
abbrev pub greatest : ℕ → List TypedTree → ℕ
greatest number [] = number
greatest number (tree ∷ trees) = greatest (max number (out-TypedTree tree).last) trees
