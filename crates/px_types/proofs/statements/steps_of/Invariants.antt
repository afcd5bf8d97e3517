use Rattle.std.proofs.Common.{◌≡◌, length, map}
use Rattle.std.specs.Vec.Iter.{into_iter_items, into_iter_len}
use Rattle.px_typed_walk.specs.TypedView.{rose_of_typed}
use Rattle.px_operators.specs.Outcomes.{mapped, all_of}
use Rattle.px_operators.specs.Kept.{gathered_kept, gathers}
use Rattle.px_types.specs.Statements.{assigned_at}
use Rattle.px_types.proofs.statements.steps_of.Given as goal

-- what was gathered, with what is still to come, is all
abbrev pub invariant-loop-target : goal.invariant-loop-target
invariant-loop-target l =
    (gathers (mapped (map rose_of_typed) (gathered_kept l.steps)) (map (λ target. assigned_at l.fn.t l.fn.value_at (rose_of_typed target)) (into_iter_items l.target-iterator))
    ≡ all_of (map (λ target. assigned_at l.fn.t l.fn.value_at (rose_of_typed target)) (into_iter_items l.initial.target-iterator)))
    × (into_iter_len l.target-iterator ≡ length (into_iter_items l.target-iterator))
