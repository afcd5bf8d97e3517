use Rattle.std.proofs.Common.{◌≡◌, ◌+◌, ◌*◌, drop}
use Rattle.px_walk.specs.Nodes.{rose_of}
use Rattle.px_walk.specs.Roses.{at_of, parts_of, size}
use Rattle.px_typed_walk.specs.TypedView.{TypedRose, rose_of_typed}
use Rattle.px_operators.specs.Outcomes.{Outcome, Gives}
use Rattle.px_operators.specs.Kept.{parts_kept}
use Rattle.px_typed_expressions.specs.Typers.{environment_of}
use Rattle.px_typed_expressions.specs.Calls.{behind}
use Rattle.px_typed_expressions.specs.ExpressionsKept.{trailers_of}
use Rattle.px_typed_expressions.proofs.ExpressionParts.{with_parts}
use Rattle.px_typed_expressions.proofs.ExpressionRows.{Behind}
use Rattle.px_typed_expressions.proofs.typer.ExpressionTyper.+gather.Given as goal

abbrev pub decreases-below : goal.decreases-below
decreases-below l = 5 * size (rose_of l.node) + 4

abbrev pub decreases-gather : goal.decreases-gather
decreases-gather l = 5 * size (rose_of l.node) + 3

abbrev pub decreases-gather_row : goal.decreases-gather_row
decreases-gather_row l = 5 * size (rose_of l.node) + 2

abbrev pub decreases-row : goal.decreases-row
decreases-row l = 5 * size (rose_of l.row) + 1

abbrev pub decreases-composed : goal.decreases-composed
decreases-composed l = 5 * size (rose_of l.node) + 1

abbrev pub decreases-gather_parts : goal.decreases-gather_parts
decreases-gather_parts l = 5 * size (rose_of l.node)

abbrev pub decreases-behind : goal.decreases-behind
decreases-behind l = 5 * size (rose_of l.row)

abbrev pub invariant-gather_parts-loop-k : goal.invariant-gather_parts-loop-k
invariant-gather_parts-loop-k l =
    with_parts (environment_of l.self) (parts_kept l.gathered.items) (drop l.k (parts_of (rose_of l.node)))
    ≡ with_parts (environment_of l.self) (parts_kept l.fn.gathered.items) (parts_of (rose_of l.node))

abbrev pub invariant-behind-loop-k : goal.invariant-behind-loop-k
invariant-behind-loop-k l =
    (o : Outcome TypedRose) → Gives rose_of_typed l.fn.value o
    → Behind (environment_of l.self) (at_of (rose_of l.row)) l.so_far (drop l.k (parts_of (rose_of l.row)))
    (behind (at_of (rose_of l.row)) o (trailers_of (environment_of l.self) (drop l.fn.from (parts_of (rose_of l.row)))))
