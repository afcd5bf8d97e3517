use Rattle.std.proofs.Common.{◌≡◌, ◌++◌, drop}
use Rattle.std.specs.Prelude.{flat_map}
use Rattle.px_walk.specs.Nodes.{rose_of}
use Rattle.px_walk.specs.Roses.{parts_of}
use Rattle.px_environments.specs.Signatures.{locals_of_declaration}
use Rattle.px_environments.proofs.locals.add_statement.Given as goal

abbrev pub invariant-loop-k : goal.invariant-loop-k
invariant-loop-k l =
    l.locals ++ flat_map locals_of_declaration (drop l.k (parts_of (rose_of l.node))) ≡ l.fn.locals ++ flat_map locals_of_declaration (parts_of (rose_of l.node))
