-- The typed tree as rose trees: for each node its head, its number, its place, and its parts.
use Rattle.std.specs.Prelude.{ℕ, List}
use Rattle.px_base.specs.declared.refusals.Span.{Span}
use Rattle.px_tree.specs.declared.typed_values.ValueType.{ValueType}
use Rattle.px_tree.specs.declared.typed_heads.TypedHead.{TypedHead}
use Rattle.px_tree.specs.declared.typed_trees.TypedTree.{TypedTree}
use Rattle.px_tree.specs.declared.typed_trees.TypedTree.TheFolds.{fold-TypedTree}
use Rattle.px_tree.specs.declared.typed_trees.TypedTree.TheOpen.{TypedTree-F}
use Rattle.px_tree.specs.TypedTypes.{type_of_head}
use Rattle.px_walk.specs.Roses.{Rose, rose, head_of, gathered}

abbrev pub TypedRose : Type 0
TypedRose = Rose TypedHead

-- a node by its parts
abbrev pub typed_node : TypedHead → ℕ → Span → List TypedRose → TypedRose
typed_node head number at parts = rose head number at (gathered parts)

-- the type of a node's value
abbrev pub type_of : TypedRose → ValueType
type_of tree = type_of_head (head_of tree)

abbrev pub typed_layer : TypedTree-F TypedRose → TypedRose
typed_layer tree = typed_node tree.head tree.number tree.at tree.parts

unfoldable pub rose_of_typed : TypedTree → TypedRose
rose_of_typed = fold-TypedTree TypedRose typed_layer
