-- `min` and `max` in the program's own types.
use Rattle.px_base.specs.declared.c_types.CType.{CType}
use Rattle.px_tree.specs.declared.typed_heads.TypedHead.{TypedHead}
use Rattle.px_tree.specs.declared.typed_heads.TypedHead.TheVariants as head
use Rattle.px_typed_expressions.specs.declared.calls.Extreme.{Extreme}
use Rattle.px_typed_expressions.specs.declared.calls.Extreme.TheVariants as extreme

abbrev pub head_of_extreme : Extreme → CType → TypedHead
head_of_extreme extreme.Min t = head.Min t
head_of_extreme extreme.Max t = head.Max t
