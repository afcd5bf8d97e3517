use Rattle.std.proofs.Common.{◌≡◌, ◌+◌, ◌*◌, max, drop}
use Rattle.px_walk.specs.Roses.{gathered, parts_of, size}
use Rattle.px_typed_walk.specs.TypedView.{rose_of_typed}
use Rattle.px_exprgen.specs.Places.{capped}
use Rattle.px_stmtgen.specs.StatementCode.{statement_widths}
use Rattle.px_stmtgen.proofs.sizes.+statement_width.Given as goal

-- A node comes before its loop, and this before its parts.

abbrev pub decreases-statement_width : goal.decreases-statement_width
decreases-statement_width l = 2 * size (rose_of_typed l.tree.now) + 1

abbrev pub decreases-statement_widths : goal.decreases-statement_widths
decreases-statement_widths l = 2 * size (rose_of_typed l.node.tree.now)

-- the greatest so far and those of the parts that are left are those of all
abbrev pub invariant-statement_widths-loop-k : goal.invariant-statement_widths-loop-k
invariant-statement_widths-loop-k l =
    max l.most (capped (statement_widths (gathered (drop l.k (parts_of (rose_of_typed l.node.tree.now))))))
    ≡ capped (statement_widths (gathered (parts_of (rose_of_typed l.node.tree.now))))
