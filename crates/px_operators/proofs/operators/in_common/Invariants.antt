use Rattle.std.proofs.Common.{◌≡◌, ◌++◌, length, map}
use Rattle.std.specs.Vec.Iter.{into_iter_items, into_iter_len}
use Rattle.px_operators.specs.Conversions.{in_c}
use Rattle.px_operators.specs.Kept.{trees_kept, operands_kept}
use Rattle.px_operators.proofs.operators.in_common.Given as goal

-- the operands so far, with those that are still to come
abbrev pub invariant-loop-operand : goal.invariant-loop-operand
invariant-loop-operand l =
    (trees_kept l.parts.items ++ map (in_c l.fn.t) (operands_kept (into_iter_items l.operand-iterator))
    ≡ map (in_c l.fn.t) (operands_kept (into_iter_items l.initial.operand-iterator)))
    × (into_iter_len l.operand-iterator ≡ length (into_iter_items l.operand-iterator))
