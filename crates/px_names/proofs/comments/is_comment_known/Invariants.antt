use Rattle.std.proofs.Common.{◌≡◌, drop, map}
use Rattle.std.specs.List.{list_all}
use Rattle.px_names.specs.Comments.{is_pair_known}
use Rattle.px_names.proofs.comments.is_comment_known.Given as goal

abbrev pub invariant-loop-pair : goal.invariant-loop-pair
invariant-loop-pair l = list_all is_pair_known (map (λ pair. (pair.name.now, pair.value.now)) l.pair-items) ≡ list_all is_pair_known (map (λ pair. (pair.name.now, pair.value.now)) (drop l.pair-index l.pair-items))
