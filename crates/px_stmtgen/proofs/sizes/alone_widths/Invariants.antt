-- the greatest so far and those of the parts that are left are those of all
use Rattle.std.proofs.Common.{◌≡◌, max, drop}
use Rattle.px_walk.specs.Roses.{gathered, parts_of}
use Rattle.px_typed_walk.specs.TypedView.{rose_of_typed}
use Rattle.px_exprgen.specs.Places.{capped}
use Rattle.px_stmtgen.specs.StatementCode.{alone_widths}
use Rattle.px_stmtgen.proofs.sizes.alone_widths.Given as goal

abbrev pub invariant-loop-k : goal.invariant-loop-k
invariant-loop-k l =
    max l.most (capped (alone_widths (gathered (drop l.k (parts_of (rose_of_typed l.node.tree.now))))))
    ≡ capped (alone_widths (gathered (parts_of (rose_of_typed l.node.tree.now))))
