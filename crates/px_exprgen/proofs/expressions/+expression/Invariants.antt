use Rattle.std.proofs.Common.{◌≡◌, ◌+◌, ◌*◌, ◌++◌, map, length, drop}
use Rattle.px_walk.specs.Roses.{parts_of, size}
use Rattle.px_typed_walk.specs.TypedView.{rose_of_typed}
use Rattle.px_exprgen.specs.ExpressionCode.{steps_code, expression_code}
use Rattle.px_exprgen.proofs.expressions.+expression.Given as goal

-- A node comes before a search for its parts, and this before them.

abbrev pub decreases-expression : goal.decreases-expression
decreases-expression l = 2 * size (rose_of_typed l.tree.now) + 1

abbrev pub decreases-part : goal.decreases-part
decreases-part l = 2 * size (rose_of_typed l.node.tree.now)

abbrev pub decreases-steps : goal.decreases-steps
decreases-steps l = 2 * size (rose_of_typed l.node.tree.now)

-- the code, with that of the steps that are left behind it, is the whole
abbrev pub invariant-steps-loop-k : goal.invariant-steps-loop-k
invariant-steps-loop-k l =
    l.code ++ steps_code (map expression_code (drop l.k (parts_of (rose_of_typed l.node.tree.now)))) (length l.code) l.d
    ≡ l.fn.code ++ steps_code (map expression_code (parts_of (rose_of_typed l.node.tree.now))) (length l.fn.code) l.d
