use Rattle.px_walk.proofs.Walks.{occurs-itself, occurs-part}
use Rattle.px_walk.proofs.laws.nodes_of_parts_occur.Goals as goal

pub returns : goal.returns
returns g c = record {
  itself = λ context node. occurs-itself (g.R.Rules.down c.args.rules.now) context node;
  parts = λ context node part k other is within. occurs-part (g.R.Rules.down c.args.rules.now) context node part k other is within;
}
