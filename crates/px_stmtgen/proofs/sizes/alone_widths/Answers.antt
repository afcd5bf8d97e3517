use Rattle.std.proofs.Common.{refl}
use Rattle.px_walk.specs.Roses.{parts_of}
use Rattle.px_typed_walk.specs.TypedView.{rose_of_typed}
use Rattle.px_stmtgen.specs.StatementCode.{alone_width, alone_widths}
use Rattle.px_stmtgen.proofs.Roses.{parts_next}
use Rattle.px_stmtgen.proofs.sizes.alone_widths.Goals as goal

pub loop-k-preserved : goal.loop-k-preserved
loop-k-preserved c =
    parts_next alone_width alone_widths (λ tree trees. refl) (parts_of (rose_of_typed c.args.node.tree.now)) c.loop-k.k (rose_of_typed c.part.result.tree.now) c.loop-k.most c.alone_width.result c.max-most.result _
    c.loop-k.invariant c.part.ensures c.alone_width.ensures c.max-most.ensures
