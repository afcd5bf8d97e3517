use Rattle.std.proofs.Common.{◌≡◌, ◌++◌, drop}
use Rattle.px_walk.specs.Nodes.{rose_of}
use Rattle.px_walk.specs.Roses.{parts_of}
use Rattle.px_typed_expressions.specs.Expressions.{operators}
use Rattle.px_typed_expressions.proofs.expressions.operators.Given as goal

-- the operators so far, with those of the parts that are left
abbrev pub invariant-loop-k : goal.invariant-loop-k
invariant-loop-k l = l.ops.items ++ operators (drop l.k (parts_of (rose_of l.node))) ≡ operators (parts_of (rose_of l.node))
