use Rattle.std.proofs.Common.{◌<◌, refl, arith}
use Rattle.px_walk.specs.Roses.{parts_of, size}
use Rattle.px_walk.proofs.Walks.{size-part}
use Rattle.px_typed_walk.specs.TypedView.{rose_of_typed}
use Rattle.px_stmtgen.specs.Sizes.{objects, objects_below}
use Rattle.px_stmtgen.proofs.Roses.{objects_first, parts_next}
use Rattle.px_stmtgen.proofs.object_numbers.+objects.Goals as goal

pub loop-k-init : goal.loop-k-init
loop-k-init t c =
    objects_first (rose_of_typed c.args.tree.now) c.head.result c.count.result c.objects_by-most.result c.head.ensures c.count.ensures c.objects_by-most.ensures

pub objects-requires : goal.objects-requires
objects-requires t c =
    let less : size (rose_of_typed c.part.result.tree.now) < size (rose_of_typed c.args.tree.now) =
    size-part (rose_of_typed c.args.tree.now) c.loop-k.k (rose_of_typed c.part.result.tree.now) c.part.ensures in
    let d = c.decreases in
    (omega arith, tt)

pub loop-k-preserved : goal.loop-k-preserved
loop-k-preserved t c =
    parts_next objects objects_below (λ tree trees. refl) (parts_of (rose_of_typed c.args.tree.now)) c.loop-k.k (rose_of_typed c.part.result.tree.now) c.loop-k.most c.objects.result c.max-most.result _
    c.loop-k.invariant c.part.ensures c.objects.ensures c.max-most.ensures
