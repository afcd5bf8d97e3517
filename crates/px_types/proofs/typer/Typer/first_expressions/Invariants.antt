use Rattle.std.proofs.Common.{◌≡◌, drop, take, map}
use Rattle.px_walk.specs.Nodes.{rose_of}
use Rattle.px_walk.specs.Roses.{parts_of}
use Rattle.px_operators.specs.Outcomes.{all_of}
use Rattle.px_operators.specs.Kept.{gathers}
use Rattle.px_typed_expressions.specs.Expressions.{expression}
use Rattle.px_types.specs.StatementsKept.{trees_gathered}
use Rattle.px_types.specs.Typers.{environment_of}
use Rattle.px_types.proofs.typer.Typer.first_expressions.Given as goal

-- what was gathered, with what is still to come, is all
abbrev pub invariant-loop-k : goal.invariant-loop-k
invariant-loop-k l =
    gathers (trees_gathered l.all) (map (expression (environment_of l.self)) (drop l.k (take l.count (parts_of (rose_of l.node)))))
    ≡ all_of (map (expression (environment_of l.self)) (take l.count (parts_of (rose_of l.node))))
