use Rattle.std.proofs.Common.{◌≡◌, drop, map}
use Rattle.px_walk.specs.Nodes.{rose_of}
use Rattle.px_walk.specs.Roses.{parts_of}
use Rattle.px_operators.specs.Kept.{gathers}
use Rattle.px_types.specs.Statements.{declarator}
use Rattle.px_types.specs.StatementsKept.{trees_gathered}
use Rattle.px_types.specs.Typers.{environment_of}
use Rattle.px_types.proofs.typer.Typer.take_declaration.Given as goal

-- what was gathered, with what is still to come, is what was there with all of the declaration
abbrev pub invariant-loop-k : goal.invariant-loop-k
invariant-loop-k l =
    gathers (trees_gathered l.all) (map (declarator (environment_of l.self)) (drop l.k (parts_of (rose_of l.node))))
    ≡ gathers (trees_gathered l.fn.all) (map (declarator (environment_of l.self)) (drop 1 (parts_of (rose_of l.node))))
