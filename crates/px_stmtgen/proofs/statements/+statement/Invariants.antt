use Rattle.std.proofs.Common.{◌≡◌, ◌+◌, ◌*◌, ◌++◌, map, length, drop}
use Rattle.px_walk.specs.Roses.{parts_of, size}
use Rattle.px_typed_walk.specs.TypedView.{rose_of_typed}
use Rattle.px_stmtgen.specs.StatementCode.{in_turn_code, statement_code}
use Rattle.px_stmtgen.proofs.statements.+statement.Given as goal

-- A node comes before its loop, and this before its parts.

abbrev pub decreases-statement : goal.decreases-statement
decreases-statement l = 2 * size (rose_of_typed l.tree.now) + 1

abbrev pub decreases-in_turn : goal.decreases-in_turn
decreases-in_turn l = 2 * size (rose_of_typed l.node.tree.now)

-- the code, with that of the statements that are left behind it, is the whole
abbrev pub invariant-in_turn-loop-k : goal.invariant-in_turn-loop-k
invariant-in_turn-loop-k l =
    l.code ++ in_turn_code (map (statement_code l.layout) (drop l.k (parts_of (rose_of_typed l.node.tree.now)))) (length l.code)
    ≡ l.fn.code ++ in_turn_code (map (statement_code l.layout) (parts_of (rose_of_typed l.node.tree.now))) (length l.fn.code)
