use Rattle.std.proofs.Common.{◌≡◌, length}
use Rattle.px_environments.specs.WrittenTypes.{are_strided}
use Rattle.px_environments.proofs.written_types.are_strided.Given as goal

abbrev pub invariant-loop-axes : goal.invariant-loop-axes
invariant-loop-axes l = are_strided l.axes ≡ are_strided l.initial.axes

abbrev pub decreases-loop-axes : goal.decreases-loop-axes
decreases-loop-axes l = length l.axes
