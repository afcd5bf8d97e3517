use Rattle.std.proofs.Common.{◌<◌, arith}
use Rattle.px_walk.specs.Roses.{parts_of, size}
use Rattle.px_walk.proofs.Walks.{size-part}
use Rattle.px_typed_walk.specs.TypedView.{rose_of_typed}
use Rattle.px_exprgen.proofs.Greatest.{widest_first, widest_next, widest_last, widths_first, widths_next, widths_last, width_steps, width_other}
use Rattle.px_exprgen.proofs.widths.+width.Goals as goal

pub widest-width-requires : goal.widest-width-requires
widest-width-requires t c =
    let less : size (rose_of_typed c.part.result.tree.now) < size (rose_of_typed c.args.tree.now) =
    size-part (rose_of_typed c.args.tree.now) c.loop-k.k (rose_of_typed c.part.result.tree.now) c.part.ensures in
    let d = c.decreases in
    (omega arith, tt)

pub widest-loop-k-init : goal.widest-loop-k-init
widest-loop-k-init t c = widest_first (parts_of (rose_of_typed c.args.tree.now))

pub widest-loop-k-preserved : goal.widest-loop-k-preserved
widest-loop-k-preserved t c =
    widest_next (parts_of (rose_of_typed c.args.tree.now)) c.loop-k.k (rose_of_typed c.part.result.tree.now) c.loop-k.most c.width.result c.max-most.result _
    c.loop-k.invariant c.part.ensures c.width.ensures c.max-most.ensures

pub widest-returns : goal.widest-returns
widest-returns t c = widest_last (parts_of (rose_of_typed c.args.tree.now)) c.loop-k.k c.loop-k.most _ c.loop-k.invariant (omega arith)

pub width-widest-requires : goal.width-widest-requires
width-widest-requires t c = let d = c.decreases in (omega arith, tt)

pub width-widths-requires : goal.width-widths-requires
width-widths-requires t c = let d = c.decreases in (omega arith, tt)

pub width-returns-in-Steps : goal.width-returns-in-Steps
width-returns-in-Steps t c = width_steps (rose_of_typed c.args.tree.now) c.in-Steps.field-0 c.widest.result c.max.result c.in-Steps.ensures c.widest.ensures c.max.ensures

pub width-returns-in_default : goal.width-returns-in_default
width-returns-in_default t c =
    width_other (rose_of_typed c.args.tree.now) c.head.result c.widths.result c.max-in_default.result c.head.ensures c.in_default.not-Steps c.widths.ensures c.max-in_default.ensures

pub widths-loop-k-init : goal.widths-loop-k-init
widths-loop-k-init t c = widths_first (parts_of (rose_of_typed c.args.node.tree.now))

pub widths-width-requires : goal.widths-width-requires
widths-width-requires t c =
    let less : size (rose_of_typed c.part.result.tree.now) < size (rose_of_typed c.args.node.tree.now) =
    size-part (rose_of_typed c.args.node.tree.now) c.loop-k.k (rose_of_typed c.part.result.tree.now) c.part.ensures in
    let d = c.decreases in
    (omega arith, tt)

pub widths-loop-k-preserved : goal.widths-loop-k-preserved
widths-loop-k-preserved t c =
    widths_next (parts_of (rose_of_typed c.args.node.tree.now)) c.loop-k.k (rose_of_typed c.part.result.tree.now) c.loop-k.most c.width.result
    c.saturating_add-behind.result c.max-most.result _
    c.loop-k.invariant c.part.ensures c.width.ensures c.saturating_add-behind.ensures c.max-most.ensures

pub widths-returns : goal.widths-returns
widths-returns t c =
    widths_last (parts_of (rose_of_typed c.args.node.tree.now)) c.loop-k.k c.loop-k.most c.count.result c.max.result c.min.result _
    c.loop-k.invariant (omega arith) (omega arith) c.count.ensures c.max.ensures c.min.ensures
