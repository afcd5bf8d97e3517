use Rattle.std.proofs.Common.{◌≡◌, length, map}
use Rattle.std.specs.Vec.Iter.{into_iter_items, into_iter_len}
use Rattle.px_tree.specs.declared.typed_values.ValueType.TheVariants as value
use Rattle.px_typed_walk.specs.TypedView.{rose_of_typed}
use Rattle.px_operators.specs.Outcomes.{followed, mapped, all_of}
use Rattle.px_operators.specs.Conversions.{fitted}
use Rattle.px_operators.specs.Kept.{part_kept, gathered_kept, gathers}
use Rattle.px_operators.proofs.conversions.as_objects.Given as goal

-- what was gathered, with what is still to come, is all
abbrev pub invariant-loop-part : goal.invariant-loop-part
invariant-loop-part l =
    (gathers (mapped (map rose_of_typed) (gathered_kept l.all)) (map (λ part. followed (part_kept part) (fitted value.Object)) (into_iter_items l.part-iterator))
    ≡ all_of (map (λ part. followed (part_kept part) (fitted value.Object)) (into_iter_items l.initial.part-iterator)))
    × (into_iter_len l.part-iterator ≡ length (into_iter_items l.part-iterator))
