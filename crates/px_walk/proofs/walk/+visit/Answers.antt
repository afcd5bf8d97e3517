use Rattle.std.proofs.Common.{◌<◌, ◌+◌, ap, sym, ◌∙◌, arith}
use Rattle.px_walk.specs.Roses.{occurrences, size}
use Rattle.px_walk.specs.Findings.{visited}
use Rattle.px_walk.proofs.Walks.{left_first, left_from, visited-part, visited-end, size-part}
use Rattle.px_walk.proofs.walk.+visit.Goals as goal

pub loop-k-init : goal.loop-k-init
loop-k-init g t c =
    let step = g.V.Visitor.step in
    let state = g.V.Visitor.state c.args.visitor.now in
    let down = g.V.Visitor.down c.args.visitor.now in
    let node = g.N.Node.seen c.args.root in
    record {
      visited = ap (λ now. visited step now (left_from down c.args.context node 0)) c.in_ok-visit.ensures.step
          ∙ sym (ap (visited step state) (left_first down c.args.context node));
      kept = c.in_ok-visit.ensures.kept;
    }

pub visit-requires-in-loop-k : goal.visit-requires-in-loop-k
visit-requires-in-loop-k g t c κs within =
    let less : size (g.N.Node.seen c.part.result) < size (g.N.Node.seen c.args.root) =
    size-part (g.N.Node.seen c.args.root) c.loop-k.k (g.N.Node.seen c.part.result) c.part.ensures in
    (omega arith, within)

pub loop-k-preserved : goal.loop-k-preserved
loop-k-preserved g t c =
    let step = g.V.Visitor.step in
    let state = g.V.Visitor.state c.loop-k.visitor in
    let down = g.V.Visitor.down c.args.visitor.now in
    let node = g.N.Node.seen c.args.root in
    let part = g.N.Node.seen c.part.result in
    let same = c.loop-k.invariant.kept in
    record {
      visited = ap (λ now. visited step now (left_from down c.args.context node (c.loop-k.k + 1)))
          (c.in_ok-visit-2.ensures.visited
          ∙ ap (λ d. visited step state (occurrences d c.down-below.result part)) same
          ∙ ap (λ context. visited step state (occurrences down context part))
          (c.down-below.ensures ∙ ap (λ d. d c.args.context node c.loop-k.k) same))
          ∙ visited-part step down c.args.context node part c.loop-k.k state c.part.ensures
          ∙ c.loop-k.invariant.visited;
      kept = c.in_ok-visit-2.ensures.kept ∙ same;
    }

pub returns-clause-visited : goal.returns-clause-visited
returns-clause-visited g t c =
    sym (visited-end g.V.Visitor.step (g.V.Visitor.down c.args.visitor.now) c.args.context (g.N.Node.seen c.args.root) c.loop-k.k
    (g.V.Visitor.state c.loop-k.visitor) (omega arith))
    ∙ c.loop-k.invariant.visited
