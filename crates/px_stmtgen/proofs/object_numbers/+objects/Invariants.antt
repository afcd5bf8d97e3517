use Rattle.std.proofs.Common.{◌≡◌, max, drop}
use Rattle.px_walk.specs.Roses.{gathered, parts_of, size}
use Rattle.px_typed_walk.specs.TypedView.{rose_of_typed}
use Rattle.px_exprgen.specs.Places.{capped}
use Rattle.px_stmtgen.specs.Sizes.{objects, objects_below}
use Rattle.px_stmtgen.proofs.object_numbers.+objects.Given as goal

abbrev pub decreases-objects : goal.decreases-objects
decreases-objects l = size (rose_of_typed l.tree.now)

-- the greatest so far and those of the parts that are left are those of all
abbrev pub invariant-loop-k : goal.invariant-loop-k
invariant-loop-k l =
    max l.most (capped (objects_below (gathered (drop l.k (parts_of (rose_of_typed l.tree))))))
    ≡ capped (objects (rose_of_typed l.tree))
