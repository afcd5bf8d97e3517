use Rattle.std.proofs.Common.{◌≡◌, ◌++◌, drop}
use Rattle.std.specs.Prelude.{filter_map}
use Rattle.px_walk.specs.Nodes.{rose_of}
use Rattle.px_walk.specs.Roses.{parts_of}
use Rattle.px_environments.specs.Signatures.{local_of_part}
use Rattle.px_environments.proofs.locals.add_declaration.Given as goal

abbrev pub invariant-loop-k : goal.invariant-loop-k
invariant-loop-k l =
    l.locals ++ filter_map (local_of_part l.t) (drop l.k (parts_of (rose_of l.node))) ≡ l.fn.locals ++ filter_map (local_of_part l.t) (parts_of (rose_of l.node))
