use Rattle.std.proofs.Common.{◌≡◌}
use Rattle.px_base.specs.Findings.{first_of}
use Rattle.px_walk.specs.Roses.{occurrences, size}
use Rattle.px_walk.specs.Findings.{finding}
use Rattle.px_walk.proofs.Walks.{left_from}
use Rattle.px_walk.proofs.walk.+found.Given as goal

abbrev pub decreases-found : goal.decreases-found
decreases-found g l = size (g.N.Node.seen l.node)

-- what is found so far and what is left to find is all that is found
abbrev pub invariant-loop-k : goal.invariant-loop-k
invariant-loop-k g l =
    first_of l.first (finding (g.R.Rules.judges l.rules) (left_from (g.R.Rules.down l.rules) l.context (g.N.Node.seen l.node) l.k))
    ≡ finding (g.R.Rules.judges l.rules) (occurrences (g.R.Rules.down l.rules) l.context (g.N.Node.seen l.node))
