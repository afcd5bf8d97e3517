-- What was kept, and the places of the blocks for what is left, are the places of all blocks.
use Rattle.std.proofs.Common.{◌≡◌, ◌-◌, ◌≤◌, ◌++◌}
use Rattle.px_model.specs.Chunks.{guided_blocks}
use Rattle.px_chunks.specs.Starts.{starts_from}
use Rattle.px_chunks.proofs.cuts.guided_starts.Given as goal

abbrev pub invariant-loop-at : goal.invariant-loop-at
invariant-loop-at l = record {
  within : l.at ≤ l.n;
  blocks : l.starts.items ++ starts_from l.at (guided_blocks l.members l.least (l.n - l.at) (l.n - l.at)) ≡ starts_from 0 (guided_blocks l.members l.least l.n l.n);
}

abbrev pub decreases-loop-at : goal.decreases-loop-at
decreases-loop-at l = l.n - l.at
