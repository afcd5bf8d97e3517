-- the place among what is left, from the place that was come to, is that among all
use Rattle.std.proofs.Common.{◌≡◌, ◌+◌, drop}
use Rattle.px_compile.specs.ModuleImage.{none_place}
use Rattle.px_compile.proofs.coding.none_place.Given as goal

abbrev pub invariant-loop-k : goal.invariant-loop-k
invariant-loop-k l = l.k + none_place (drop l.k l.constants) ≡ none_place l.constants
