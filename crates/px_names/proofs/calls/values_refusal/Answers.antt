use Rattle.std.proofs.Common.{◌+◌, drop, ◌∙◌, sym, ap, arith}
use Rattle.px_base.specs.Findings.{first_of}
use Rattle.px_walk.specs.Nodes.{rose_of}
use Rattle.px_walk.specs.Roses.{parts_of}
use Rattle.px_names.specs.Uses.{values_refusal}
use Rattle.px_names.proofs.PartLoops.{drop_whole, values_more, nothing_behind, none_first}
use Rattle.px_names.proofs.calls.values_refusal.Goals as goal

pub loop-k-init : goal.loop-k-init
loop-k-init c = ap values_refusal (drop_whole (parts_of (rose_of c.args.call)))

pub loop-k-preserved : goal.loop-k-preserved
loop-k-preserved c =
    let parts = parts_of (rose_of c.args.call) in
    ap (λ found. first_of found (values_refusal (drop (c.loop-k.k + 1) parts))) (c.earlier-first.ensures ∙ ap (first_of c.loop-k.first) c.value_refusal.ensures)
    ∙ values_more parts c.loop-k.k (rose_of c.part.result) c.loop-k.first c.part.ensures
    ∙ c.loop-k.invariant

pub returns : goal.returns
returns c =
    sym (ap (first_of c.loop-k.first) (nothing_behind values_refusal (parts_of (rose_of c.args.call)) c.loop-k.k (omega arith)) ∙ none_first c.loop-k.first)
    ∙ c.loop-k.invariant
