use Rattle.std.proofs.Common.{◌≡◌, drop}
use Rattle.slab.specs.Slab.{slab_len}
use Rattle.px_heap.specs.References.{of_pairs}
use Rattle.px_heap.specs.Freeing.{lowered_each, work}
use Rattle.px_heap.proofs.freeing.lower_pairs.Given as goal

-- the pairs that are left give what all of them give
abbrev pub invariant-loop-pair : goal.invariant-loop-pair
invariant-loop-pair l =
    (lowered_each (of_pairs (drop l.pair-index l.pairs)) (work l.objects.slots l.dead) ≡ lowered_each (of_pairs l.pairs) (work l.fn.objects.slots l.fn.dead))
    × (slab_len l.objects ≡ slab_len l.fn.objects)
