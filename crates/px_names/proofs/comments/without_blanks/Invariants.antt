use Rattle.std.proofs.Common.{◌≡◌, ◌-◌, ℕ, ◌<◌, ◌≤◌, length, true, slice_index}
use Rattle.px_names.specs.Comments.{is_blank}
use Rattle.px_names.proofs.comments.without_blanks.Given as goal

abbrev pub invariant-loop-from : goal.invariant-loop-from
invariant-loop-from l = record {
  within : l.from ≤ length l.text;
  blank : (k : ℕ) → k < l.from → is_blank (slice_index l.text k) ≡ true;
}

abbrev pub decreases-loop-from : goal.decreases-loop-from
decreases-loop-from l = length l.text - l.from
