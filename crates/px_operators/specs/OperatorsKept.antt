-- What some functions of the phase answer, in the program's own types.
use Rattle.std.specs.Prelude.{List, [], ◌∷◌, Option, Some, None, Result, Ok, Err}
use Rattle.px_base.specs.declared.refusals.Span.{Span}
use Rattle.px_base.specs.declared.refusals.Trouble.{Trouble}
use Rattle.px_base.specs.declared.refusals.Trouble.TheVariants.{Refused}
use Rattle.px_base.specs.declared.c_types.CType.{CType}
use Rattle.px_tree.specs.declared.typed_values.ValueType.{ValueType}
use Rattle.px_tree.specs.declared.typed_heads.TypedHead.{TypedHead}
use Rattle.px_tree.specs.declared.typed_heads.TypedHead.TheVariants as head
use Rattle.px_operators.specs.declared.operators.Logic.{Logic}
use Rattle.px_operators.specs.declared.operators.Logic.TheVariants as logic
use Rattle.px_operators.specs.Outcomes.{missing}
use Rattle.px_operators.specs.Operators.{Operand, common_of}

abbrev pub only_answer : {T : Type 0} → Span → List T → Result T Trouble
only_answer at [] = Err (Refused (missing at))
only_answer at (one ∷ []) = Ok one
only_answer at (one ∷ next ∷ others) = Err (Refused (missing at))

abbrev pub head_of_logic : Logic → ValueType → TypedHead
head_of_logic logic.And t = head.And t
head_of_logic logic.Or t = head.Or t

-- the common type of several operands
abbrev pub common_if_several : List Operand → Option CType
common_if_several [] = None
common_if_several (only ∷ []) = None
common_if_several (first ∷ next ∷ others) = Some (common_of first.1 (next ∷ others))
