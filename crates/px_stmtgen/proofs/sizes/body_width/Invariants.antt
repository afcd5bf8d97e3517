-- the greatest so far and that of the statements that are left are that of all
use Rattle.std.proofs.Common.{◌≡◌, max, map, drop}
use Rattle.px_typed_walk.specs.TypedView.{rose_of_typed}
use Rattle.px_exprgen.specs.Places.{capped}
use Rattle.px_stmtgen.specs.StatementCode.{statement_width}
use Rattle.px_stmtgen.specs.Sizes.{greatest}
use Rattle.px_stmtgen.proofs.sizes.body_width.Given as goal

abbrev pub invariant-loop-tree : goal.invariant-loop-tree
invariant-loop-tree l =
    max l.most (capped (greatest statement_width (map rose_of_typed (drop l.tree-index l.body)))) ≡ capped (greatest statement_width (map rose_of_typed l.body))
