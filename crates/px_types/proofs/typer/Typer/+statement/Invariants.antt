use Rattle.std.proofs.Common.{◌≡◌, ◌+◌, ◌*◌, drop, map}
use Rattle.px_walk.specs.Nodes.{rose_of}
use Rattle.px_walk.specs.Roses.{size}
use Rattle.px_operators.specs.Kept.{gathers}
use Rattle.px_types.specs.StatementsKept.{trees_gathered, block_from}
use Rattle.px_types.specs.Typers.{environment_of}
use Rattle.px_types.proofs.typer.Typer.+statement.Given as goal

-- A node's statement comes before its loop, this before its blocks, and these before those of its parts.

abbrev pub decreases-take_block : goal.decreases-take_block
decreases-take_block l = 5 * size (rose_of l.node)

abbrev pub decreases-guarded : goal.decreases-guarded
decreases-guarded l = 5 * size (rose_of l.node) + 1

abbrev pub decreases-if_of : goal.decreases-if_of
decreases-if_of l = 5 * size (rose_of l.node) + 1

abbrev pub decreases-range_block : goal.decreases-range_block
decreases-range_block l = 5 * size (rose_of l.node) + 1

abbrev pub decreases-range_loop : goal.decreases-range_loop
decreases-range_loop l = 5 * size (rose_of l.node) + 2

abbrev pub decreases-for_of : goal.decreases-for_of
decreases-for_of l = 5 * size (rose_of l.node) + 3

abbrev pub decreases-statement : goal.decreases-statement
decreases-statement l = 5 * size (rose_of l.node) + 4

-- what was gathered, with what is still to come, is what was there with all of the block
abbrev pub invariant-take_block-loop-k : goal.invariant-take_block-loop-k
invariant-take_block-loop-k l =
    gathers (trees_gathered l.all) (block_from (environment_of l.self) l.looped l.k (rose_of l.node))
    ≡ gathers (trees_gathered l.fn.all) (block_from (environment_of l.self) l.looped l.fn.from (rose_of l.node))
