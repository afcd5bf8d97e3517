use Rattle.std.proofs.Common.{◌≡◌, ◌+◌, ◌++◌, length, drop}
use Rattle.std.specs.Prelude.{zip, min}
use Rattle.std.specs.Vec.Iter.{into_iter_items, into_iter_len}
use Rattle.px_operators.specs.Operators.{compare_steps}
use Rattle.px_operators.specs.Kept.{trees_kept, operand_kept, operands_kept}
use Rattle.px_operators.proofs.operators.comparison_of.Given as goal

-- the comparisons so far, with those that are still to come, and how many there are in all
abbrev pub invariant-loop-op : goal.invariant-loop-op
invariant-loop-op l =
    (trees_kept l.steps.items ++ compare_steps l.fn.number l.fn.at (operand_kept l.left) (zip (drop l.op-index l.ops) (operands_kept (into_iter_items l.others)))
    ≡ compare_steps l.fn.number l.fn.at (operand_kept l.initial.left) (zip l.ops (operands_kept (into_iter_items l.initial.others))))
    × (into_iter_len l.others ≡ length (into_iter_items l.others))
    × (length l.steps.items ≡ l.op-index)
    × (l.last ≡ min (length l.ops) (l.op-index + length (into_iter_items l.others)))
