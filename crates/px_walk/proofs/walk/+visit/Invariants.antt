use Rattle.std.proofs.Common.{◌≡◌}
use Rattle.px_walk.specs.Roses.{occurrences, size}
use Rattle.px_walk.specs.Findings.{visited}
use Rattle.px_walk.proofs.Walks.{left_from}
use Rattle.px_walk.proofs.walk.+visit.Given as goal

abbrev pub decreases-visit : goal.decreases-visit
decreases-visit g l = size (g.N.Node.seen l.root)

-- the state now, with what is left to visit, comes to the state behind all nodes
abbrev pub invariant-loop-k : goal.invariant-loop-k
invariant-loop-k g l = record {
  visited : visited g.V.Visitor.step (g.V.Visitor.state l.visitor) (left_from (g.V.Visitor.down l.fn.visitor) l.context (g.N.Node.seen l.root) l.k)
      ≡ visited g.V.Visitor.step (g.V.Visitor.state l.fn.visitor) (occurrences (g.V.Visitor.down l.fn.visitor) l.context (g.N.Node.seen l.root));
  kept : g.V.Visitor.down l.visitor ≡ g.V.Visitor.down l.fn.visitor;
}
