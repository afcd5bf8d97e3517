-- what is left, with the value at hand there, fits where all parts do
use Rattle.std.proofs.Common.{◌≡◌, drop, map}
use Rattle.px_walk.specs.Roses.{gathered}
use Rattle.px_typed_walk.specs.TypedView.{rose_of_typed}
use Rattle.px_compile.specs.Fits.{types_of_locals, parts_fit}
use Rattle.px_compile.proofs.trees.+fits.Given as goal

abbrev pub invariant-parts_fit-loop-part : goal.invariant-parts_fit-loop-part
invariant-parts_fit-loop-part l =
    parts_fit (types_of_locals l.locals) l.hand l.steps (gathered (map rose_of_typed (drop l.part-index l.parts)))
    ≡ parts_fit (types_of_locals l.locals) l.fn.at_hand l.steps (gathered (map rose_of_typed l.parts))
