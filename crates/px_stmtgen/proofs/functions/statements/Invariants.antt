-- the code and the lines, with those of the statements that are left behind them, are the whole; and there are as many lines as instructions
use Rattle.std.proofs.Common.{map, drop}
use Rattle.px_typed_walk.specs.TypedView.{rose_of_typed}
use Rattle.px_stmtgen.proofs.Lines.{Together}
use Rattle.px_stmtgen.proofs.functions.statements.Given as goal

abbrev pub invariant-loop-tree : goal.invariant-loop-tree
invariant-loop-tree l = Together l.layout (map rose_of_typed l.body) (map rose_of_typed (drop l.tree-index l.body)) l.fn.code l.fn.lines l.code l.lines
