use Rattle.std.proofs.Common.{◌≡◌, drop, map}
use Rattle.px_walk.specs.Nodes.{rose_of}
use Rattle.px_walk.specs.Roses.{parts_of}
use Rattle.px_operators.specs.Outcomes.{mapped, all_of, flat}
use Rattle.px_types.specs.Statements.{declaration}
use Rattle.px_types.specs.StatementsKept.{trees_gathered, with_all}
use Rattle.px_types.specs.Typers.{environment_of}
use Rattle.px_types.proofs.typer.Typer.declare.Given as goal

-- what was gathered, with the declarations that are still to come, is all
abbrev pub invariant-loop-k : goal.invariant-loop-k
invariant-loop-k l =
    with_all (trees_gathered l.all) (mapped flat (all_of (map (declaration (environment_of l.self)) (drop l.k (parts_of (rose_of l.node))))))
    ≡ mapped flat (all_of (map (declaration (environment_of l.self)) (parts_of (rose_of l.node))))
