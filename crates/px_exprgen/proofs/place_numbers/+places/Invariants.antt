use Rattle.std.proofs.Common.{◌≡◌, max, drop}
use Rattle.px_walk.specs.Roses.{gathered, parts_of, size}
use Rattle.px_typed_walk.specs.TypedView.{rose_of_typed}
use Rattle.px_exprgen.specs.Places.{capped, places, places_below}
use Rattle.px_exprgen.proofs.place_numbers.+places.Given as goal

abbrev pub decreases-places : goal.decreases-places
decreases-places l = size (rose_of_typed l.tree.now)

-- the greatest so far and those of the parts that are left are those of all
abbrev pub invariant-loop-k : goal.invariant-loop-k
invariant-loop-k l =
    max l.most (capped (places_below (gathered (drop l.k (parts_of (rose_of_typed l.tree))))))
    ≡ capped (places (rose_of_typed l.tree))
