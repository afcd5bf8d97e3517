use Rattle.std.proofs.Common.{◌≡◌, ◌++◌, length, map}
use Rattle.std.specs.Vec.Iter.{into_iter_items, into_iter_len}
use Rattle.px_operators.specs.Kept.{trees_kept, operands_kept}
use Rattle.px_types.specs.Statements.{trees_of}
use Rattle.px_types.proofs.statements.trees_of.Given as goal

-- the trees so far, with those of the operands that are still to come
abbrev pub invariant-loop-operand : goal.invariant-loop-operand
invariant-loop-operand l =
    (trees_kept l.trees.items ++ map trees_of (operands_kept (into_iter_items l.operand-iterator))
    ≡ map trees_of (operands_kept (into_iter_items l.initial.operand-iterator)))
    × (into_iter_len l.operand-iterator ≡ length (into_iter_items l.operand-iterator))
