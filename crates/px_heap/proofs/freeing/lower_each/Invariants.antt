use Rattle.std.proofs.Common.{◌≡◌, drop}
use Rattle.slab.specs.Slab.{slab_len}
use Rattle.px_heap.specs.Freeing.{lowered_each, work}
use Rattle.px_heap.proofs.freeing.lower_each.Given as goal

-- the references that are left give what all of them give
abbrev pub invariant-loop-reference : goal.invariant-loop-reference
invariant-loop-reference l =
    (lowered_each (drop l.reference-index l.references) (work l.objects.slots l.dead) ≡ lowered_each l.references (work l.fn.objects.slots l.fn.dead))
    × (slab_len l.objects ≡ slab_len l.fn.objects)
