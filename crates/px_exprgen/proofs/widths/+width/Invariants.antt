use Rattle.std.proofs.Common.{◌≡◌, ◌+◌, ◌*◌, max, drop}
use Rattle.px_walk.specs.Roses.{gathered, parts_of, size}
use Rattle.px_typed_walk.specs.TypedView.{rose_of_typed}
use Rattle.px_exprgen.specs.ExpressionCode.{widths, widest}
use Rattle.px_exprgen.specs.Places.{capped}
use Rattle.px_exprgen.proofs.widths.+width.Given as goal

-- A node comes before its loops, and these before its parts.

abbrev pub decreases-width : goal.decreases-width
decreases-width l = 2 * size (rose_of_typed l.tree.now) + 1

abbrev pub decreases-widest : goal.decreases-widest
decreases-widest l = 2 * size (rose_of_typed l.tree.now)

abbrev pub decreases-widths : goal.decreases-widths
decreases-widths l = 2 * size (rose_of_typed l.node.tree.now)

-- the greatest so far and those of the parts that are left are those of all
abbrev pub invariant-widest-loop-k : goal.invariant-widest-loop-k
invariant-widest-loop-k l =
    max l.most (capped (widest (gathered (drop l.k (parts_of (rose_of_typed l.tree))))))
    ≡ capped (widest (gathered (parts_of (rose_of_typed l.tree))))

abbrev pub invariant-widths-loop-k : goal.invariant-widths-loop-k
invariant-widths-loop-k l =
    capped (max l.most (l.k + widths (gathered (drop l.k (parts_of (rose_of_typed l.node.tree.now))))))
    ≡ capped (widths (gathered (parts_of (rose_of_typed l.node.tree.now))))
