use Rattle.std.proofs.Common.{◌≡◌, length}
use Rattle.px_environments.specs.WrittenTypes.{is_row_major}
use Rattle.px_environments.proofs.written_types.is_row_major.Given as goal

abbrev pub invariant-loop-axes : goal.invariant-loop-axes
invariant-loop-axes l = is_row_major l.axes ≡ is_row_major l.initial.axes

abbrev pub decreases-loop-axes : goal.decreases-loop-axes
decreases-loop-axes l = length l.axes
