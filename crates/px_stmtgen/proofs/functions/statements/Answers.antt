use Rattle.std.proofs.Common.{map, arith}
use Rattle.px_typed_walk.specs.TypedView.{rose_of_typed}
use Rattle.px_exprgen.specs.Places.{places}
use Rattle.px_stmtgen.specs.Sizes.{objects}
use Rattle.px_stmtgen.specs.StatementCode.{statement_width}
use Rattle.px_stmtgen.proofs.Parts.{statement_below}
use Rattle.px_stmtgen.proofs.Wholes.{tree_there}
use Rattle.px_stmtgen.proofs.functions.statements.Goals as goal

pub with_lines-requires-clause-width : goal.with_lines-requires-clause-width
with_lines-requires-clause-width c =
    let le = statement_below statement_width (map rose_of_typed c.args.body.now) c.loop-tree.tree-index (rose_of_typed c.tree-item.result) (tree_there c.args.body.now c.loop-tree.tree-index c.tree-item.result c.loop-tree-test.true c.tree-item.is) in
    omega (arith, c.requires.width)

pub with_lines-requires-clause-objects : goal.with_lines-requires-clause-objects
with_lines-requires-clause-objects c =
    let le = statement_below objects (map rose_of_typed c.args.body.now) c.loop-tree.tree-index (rose_of_typed c.tree-item.result) (tree_there c.args.body.now c.loop-tree.tree-index c.tree-item.result c.loop-tree-test.true c.tree-item.is) in
    omega (arith, c.requires.objects)

pub with_lines-requires-clause-places : goal.with_lines-requires-clause-places
with_lines-requires-clause-places c =
    let le = statement_below places (map rose_of_typed c.args.body.now) c.loop-tree.tree-index (rose_of_typed c.tree-item.result) (tree_there c.args.body.now c.loop-tree.tree-index c.tree-item.result c.loop-tree-test.true c.tree-item.is) in
    omega (arith, c.requires.places)
