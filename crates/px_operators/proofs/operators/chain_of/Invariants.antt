use Rattle.std.proofs.Common.{◌≡◌, ◌++◌, length, drop}
use Rattle.std.specs.Prelude.{zip}
use Rattle.std.specs.Vec.Iter.{into_iter_items, into_iter_len}
use Rattle.px_operators.specs.Operators.{binary_steps}
use Rattle.px_operators.specs.Kept.{trees_kept, operand_kept, operands_kept}
use Rattle.px_operators.proofs.operators.chain_of.Given as goal

-- the steps so far, with those that are still to come
abbrev pub invariant-loop-op : goal.invariant-loop-op
invariant-loop-op l =
    (trees_kept l.steps.items ++ binary_steps l.fn.cdivision l.fn.number l.fn.at (operand_kept l.left) (zip (drop l.op-index l.ops) (operands_kept (into_iter_items l.others)))
    ≡ binary_steps l.fn.cdivision l.fn.number l.fn.at (operand_kept l.initial.left) (zip l.ops (operands_kept (into_iter_items l.initial.others))))
    × (into_iter_len l.others ≡ length (into_iter_items l.others))
