-- the type so far, or that of the last of what is left, is that of the last of all
use Rattle.std.proofs.Common.{◌≡◌, drop, map}
use Rattle.px_walk.specs.Roses.{gathered}
use Rattle.px_typed_walk.specs.TypedView.{rose_of_typed}
use Rattle.px_code_laws.specs.Fine.{types_of}
use Rattle.px_compile.specs.Fits.{last_type, last_or}
use Rattle.px_compile.proofs.fits.last_type.Given as goal

abbrev pub invariant-loop-part : goal.invariant-loop-part
invariant-loop-part l = last_or l.last (types_of (gathered (map rose_of_typed (drop l.part-index l.parts)))) ≡ last_type (types_of (gathered (map rose_of_typed l.parts)))
