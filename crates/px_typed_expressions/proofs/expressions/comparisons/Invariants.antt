use Rattle.std.proofs.Common.{◌≡◌, drop}
use Rattle.px_walk.specs.Nodes.{rose_of}
use Rattle.px_walk.specs.Roses.{at_of, parts_of}
use Rattle.px_typed_expressions.specs.Expressions.{comparisons}
use Rattle.px_typed_expressions.proofs.ExpressionOperators.{with_comparisons}
use Rattle.px_typed_expressions.proofs.expressions.comparisons.Given as goal

-- the comparisons so far, with those of the parts that are left
abbrev pub invariant-loop-k : goal.invariant-loop-k
invariant-loop-k l =
    with_comparisons (at_of (rose_of l.node)) l.ops.items (drop l.k (parts_of (rose_of l.node)))
    ≡ comparisons (at_of (rose_of l.node)) (drop 1 (parts_of (rose_of l.node)))
