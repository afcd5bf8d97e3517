use Rattle.std.proofs.Common.{◌≡◌, ◌++◌, length}
use Rattle.std.specs.Vec.Iter.{into_iter_items, into_iter_len}
use Rattle.px_operators.specs.Operators.{logic_steps}
use Rattle.px_operators.specs.Kept.{trees_kept, operand_kept, operands_kept}
use Rattle.px_operators.specs.OperatorsKept.{head_of_logic}
use Rattle.px_operators.proofs.operators.logic_of.Given as goal

-- the steps so far, with those that are still to come
abbrev pub invariant-loop-right : goal.invariant-loop-right
invariant-loop-right l =
    (trees_kept l.steps.items ++ logic_steps (head_of_logic l.fn.logic) l.fn.number l.fn.at (operand_kept l.left) (operands_kept (into_iter_items l.right-iterator))
    ≡ logic_steps (head_of_logic l.fn.logic) l.fn.number l.fn.at (operand_kept l.initial.left) (operands_kept (into_iter_items l.initial.right-iterator)))
    × (into_iter_len l.right-iterator ≡ length (into_iter_items l.right-iterator))
