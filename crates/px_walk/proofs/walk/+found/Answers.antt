use Rattle.std.proofs.Common.{◌<◌, ◌+◌, ap, sym, ◌∙◌, arith}
use Rattle.px_base.specs.Findings.{first_of}
use Rattle.px_walk.specs.Roses.{occurrences, size}
use Rattle.px_walk.specs.Findings.{finding}
use Rattle.px_walk.proofs.Walks.{left_first, left_from, finding-part, finding-end, size-part}
use Rattle.px_walk.proofs.walk.+found.Goals as goal

pub loop-k-init : goal.loop-k-init
loop-k-init g t c =
    let rule = g.R.Rules.judges c.args.rules.now in
    let down = g.R.Rules.down c.args.rules.now in
    let node = g.N.Node.seen c.args.node in
    ap (λ found. first_of found (finding rule (left_from down c.args.context node 0))) c.judge-first.ensures
    ∙ sym (ap (finding rule) (left_first down c.args.context node))

pub found-requires : goal.found-requires
found-requires g t c κs within =
    let less : size (g.N.Node.seen c.part.result) < size (g.N.Node.seen c.args.node) =
    size-part (g.N.Node.seen c.args.node) c.loop-k.k (g.N.Node.seen c.part.result) c.part.ensures in
    let d = c.decreases in
    (omega arith, within)

pub loop-k-preserved : goal.loop-k-preserved
loop-k-preserved g t c =
    let rule = g.R.Rules.judges c.args.rules.now in
    let down = g.R.Rules.down c.args.rules.now in
    let node = g.N.Node.seen c.args.node in
    let part = g.N.Node.seen c.part.result in
    ap (λ found. first_of found (finding rule (left_from down c.args.context node (c.loop-k.k + 1))))
    (c.earlier-first.ensures ∙ ap (first_of c.loop-k.first) (c.found.ensures ∙ ap (λ context. finding rule (occurrences down context part)) c.down.ensures))
    ∙ finding-part rule down c.args.context node part c.loop-k.k c.loop-k.first c.part.ensures
    ∙ c.loop-k.invariant

pub returns : goal.returns
returns g t c =
    let rule = g.R.Rules.judges c.args.rules.now in
    let down = g.R.Rules.down c.args.rules.now in
    let node = g.N.Node.seen c.args.node in
    sym (finding-end rule down c.args.context node c.loop-k.k c.loop-k.first (omega arith)) ∙ c.loop-k.invariant
