use Rattle.std.proofs.Common.{◌≡◌, drop}
use Rattle.px_operators.specs.Operators.{common_of}
use Rattle.px_operators.specs.Kept.{operands_kept}
use Rattle.px_operators.proofs.operators.common_of.Given as goal

-- the common type so far, with the operands that are still to come
abbrev pub invariant-loop-operand : goal.invariant-loop-operand
invariant-loop-operand l =
    common_of l.t (operands_kept (drop l.operand-index l.others)) ≡ common_of l.initial.t (operands_kept l.others)
