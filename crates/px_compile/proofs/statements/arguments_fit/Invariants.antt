-- what is left fits where all arguments do
use Rattle.std.proofs.Common.{◌≡◌, drop, map}
use Rattle.px_walk.specs.Roses.{gathered}
use Rattle.px_typed_walk.specs.TypedView.{rose_of_typed}
use Rattle.px_compile.specs.FitStatements.{arguments_fit}
use Rattle.px_compile.specs.Fits.{types_of_locals}
use Rattle.px_compile.proofs.statements.arguments_fit.Given as goal

abbrev pub invariant-loop-part : goal.invariant-loop-part
invariant-loop-part l =
    arguments_fit (types_of_locals l.locals) (gathered (map rose_of_typed (drop l.part-index l.parts))) ≡ arguments_fit (types_of_locals l.locals) (gathered (map rose_of_typed l.parts))
