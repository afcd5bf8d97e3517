use Rattle.std.proofs.Common.{List, Option, None}
use Rattle.slab.specs.Slab.{slab_len}
use Rattle.px_heap.specs.declared.slots.Object.{Object}
use Rattle.px_heap.specs.Freeing.{Frees, lowered, work}
use Rattle.px_heap.proofs.freeing.release.Given as goal

-- what is left of the slots as they are now is left of those at the beginning
abbrev pub invariant-loop-dead : goal.invariant-loop-dead
invariant-loop-dead l = (left : List (Option Object)) → Frees (work l.objects.slots l.dead) left → Frees (lowered l.fn.key (work l.fn.objects.slots None)) left

abbrev pub decreases-loop-dead : goal.decreases-loop-dead
decreases-loop-dead l = slab_len l.objects
