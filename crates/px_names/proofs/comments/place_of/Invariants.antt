use Rattle.std.proofs.Common.{◌≡◌, ◌-◌, ℕ, ◌<◌, ◌≤◌, length, false, slice_index}
use Rattle.std.specs.Prelude.{◌==◌}
use Rattle.px_names.proofs.comments.place_of.Given as goal

abbrev pub invariant-loop-at : goal.invariant-loop-at
invariant-loop-at l = record {
  within : l.at ≤ length l.text;
  others : (k : ℕ) → k < l.at → (slice_index l.text k == l.byte) ≡ false;
}

abbrev pub decreases-loop-at : goal.decreases-loop-at
decreases-loop-at l = length l.text - l.at
