use Rattle.std.proofs.Common.{◌≡◌, ◌≤◌, ◌++◌, length, map}
use Rattle.std.specs.Prelude.{option_map}
use Rattle.px_names.specs.Comments.{pairs_between_commas}
use Rattle.px_names.proofs.comments.pairs_between.Given as goal

abbrev pub invariant-loop-pair : goal.invariant-loop-pair
invariant-loop-pair l = record {
  within : length l.left ≤ length l.initial.left;
  found : option_map (λ more. map (λ pair. (pair.name.now, pair.value.now)) l.pairs.items ++ more) (pairs_between_commas l.left) ≡ pairs_between_commas l.initial.left;
}

abbrev pub decreases-loop-pair : goal.decreases-loop-pair
decreases-loop-pair l = length l.left
