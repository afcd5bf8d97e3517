use Rattle.std.proofs.Common.{◌+◌, drop, ap, ◌∙◌}
use Rattle.px_base.specs.Findings.{first_of}
use Rattle.px_walk.specs.Nodes.{rose_of}
use Rattle.px_walk.specs.Roses.{parts_of}
use Rattle.px_names.specs.Uses.{called_behind, calls_refusal}
use Rattle.px_names.proofs.PartLoops.{calls_more}
use Rattle.px_names.proofs.calls.calls_refusal.Goals as goal

pub loop-k-preserved : goal.loop-k-preserved
loop-k-preserved c =
    let at = c.at-at.result in
    let parts = parts_of (rose_of c.args.row) in
    let part = rose_of c.part-trailer.result in
    let behind = drop (c.loop-k.k + 1) parts in
    let judged = c.earlier-first.ensures ∙ ap (first_of c.loop-k.first) c.in_ok-found.ensures in
    let next = c.called_behind-callee.ensures ∙ ap called_behind c.head.ensures in
    (λ i. first_of (judged i) (calls_refusal at (next i) behind))
    ∙ calls_more at c.loop-k.callee parts c.loop-k.k part c.loop-k.first c.part-trailer.ensures
    ∙ c.loop-k.invariant
