-- Words for the laws of the types of operators.
use Rattle.std.specs.Prelude.{List, fold}
use Rattle.px_base.specs.declared.c_types.CType.{CType}
use Rattle.px_base.specs.declared.c_types.BinOp.{BinOp}
use Rattle.px_operators.specs.Operators.{Operand, binary_type}

-- the type of a chain of operators of one level, whose first operand has this type
abbrev pub chain_type : CType → List (BinOp × Operand) → CType
chain_type t pairs = fold (λ so_far pair. binary_type pair.0 so_far pair.1.1) t pairs
