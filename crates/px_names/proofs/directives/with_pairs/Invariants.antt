use Rattle.std.proofs.Common.{◌≡◌, drop, map}
use Rattle.std.specs.Prelude.{fold, filter_map}
use Rattle.px_names.specs.Comments.{setting_of, with_setting}
use Rattle.px_names.proofs.directives.with_pairs.Given as goal

abbrev pub invariant-loop-pair : goal.invariant-loop-pair
invariant-loop-pair l = fold with_setting l.directives (filter_map setting_of (map (λ pair. (pair.name.now, pair.value.now)) (drop l.pair-index l.pairs))) ≡ fold with_setting l.initial.directives (filter_map setting_of (map (λ pair. (pair.name.now, pair.value.now)) l.pairs))
