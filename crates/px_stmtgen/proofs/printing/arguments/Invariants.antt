-- the code, with that of the arguments that are left behind it, is the whole
use Rattle.std.proofs.Common.{◌≡◌, ◌+◌, ◌++◌, length, drop}
use Rattle.px_walk.specs.Roses.{gathered, parts_of}
use Rattle.px_typed_walk.specs.TypedView.{rose_of_typed}
use Rattle.px_stmtgen.specs.StatementCode.{arguments_code}
use Rattle.px_stmtgen.proofs.printing.arguments.Given as goal

abbrev pub invariant-loop-k : goal.invariant-loop-k
invariant-loop-k l =
    l.code ++ arguments_code l.layout (l.layout.variables + l.k) (gathered (drop l.k (parts_of (rose_of_typed l.node.tree.now)))) (length l.code)
    ≡ l.fn.code ++ arguments_code l.layout l.layout.variables (gathered (parts_of (rose_of_typed l.node.tree.now))) (length l.fn.code)
