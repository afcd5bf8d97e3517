use Rattle.std.proofs.Common.{◌≡◌, length, map, drop}
use Rattle.std.specs.Vec.Iter.{into_iter_items, into_iter_len}
use Rattle.px_typed_walk.specs.TypedView.{rose_of_typed}
use Rattle.px_operators.specs.Outcomes.{mapped}
use Rattle.px_operators.specs.Conversions.{fitted_each}
use Rattle.px_operators.specs.Kept.{parts_kept, gathered_kept, gathers}
use Rattle.px_operators.proofs.EachFitted.{each_fitted}
use Rattle.px_operators.proofs.conversions.fitted_each.Given as goal

-- what was gathered, with what is still to come, is all
abbrev pub invariant-loop-t : goal.invariant-loop-t
invariant-loop-t l =
    (gathers (mapped (map rose_of_typed) (gathered_kept l.all)) (each_fitted (drop l.t-index l.types) (parts_kept (into_iter_items l.others)))
    ≡ fitted_each l.types (parts_kept (into_iter_items l.initial.others)))
    × (into_iter_len l.others ≡ length (into_iter_items l.others))
