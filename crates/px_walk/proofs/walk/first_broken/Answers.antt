use Rattle.px_walk.specs.Roses.{occurrences}
use Rattle.px_walk.proofs.Walks.{finding-first}
use Rattle.px_walk.proofs.walk.first_broken.Goals as goal

pub returns : goal.returns
returns g c =
    rw c.found.ensures (finding-first (g.R.Rules.judges c.args.rules.now)
    (occurrences (g.R.Rules.down c.args.rules.now) c.args.context (g.N.Node.seen c.args.root)))
