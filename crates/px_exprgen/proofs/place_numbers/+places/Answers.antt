use Rattle.std.proofs.Common.{◌<◌, arith}
use Rattle.px_walk.specs.Roses.{parts_of, size}
use Rattle.px_walk.proofs.Walks.{size-part}
use Rattle.px_typed_walk.specs.TypedView.{rose_of_typed}
use Rattle.px_exprgen.proofs.Greatest.{places_first, places_next, places_last}
use Rattle.px_exprgen.proofs.place_numbers.+places.Goals as goal

pub loop-k-init : goal.loop-k-init
loop-k-init t c = places_first (rose_of_typed c.args.tree.now) c.head.result c.place_of-most.result c.head.ensures c.place_of-most.ensures

pub places-requires : goal.places-requires
places-requires t c =
    let less : size (rose_of_typed c.part.result.tree.now) < size (rose_of_typed c.args.tree.now) =
    size-part (rose_of_typed c.args.tree.now) c.loop-k.k (rose_of_typed c.part.result.tree.now) c.part.ensures in
    let d = c.decreases in
    (omega arith, tt)

pub loop-k-preserved : goal.loop-k-preserved
loop-k-preserved t c =
    places_next (parts_of (rose_of_typed c.args.tree.now)) c.loop-k.k (rose_of_typed c.part.result.tree.now) c.loop-k.most c.places.result c.max-most.result _
    c.loop-k.invariant c.part.ensures c.places.ensures c.max-most.ensures

pub returns : goal.returns
returns t c = places_last (parts_of (rose_of_typed c.args.tree.now)) c.loop-k.k c.loop-k.most _ c.loop-k.invariant (omega arith)
