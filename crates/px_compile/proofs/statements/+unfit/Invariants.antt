-- the first one of what is left is the first one of all
use Rattle.std.proofs.Common.{◌≡◌, drop, map}
use Rattle.px_walk.specs.Roses.{gathered}
use Rattle.px_typed_walk.specs.TypedView.{rose_of_typed}
use Rattle.px_types.specs.TypedModule.{function_kept}
use Rattle.px_compile.specs.FitStatements.{callees_of, unfit_among}
use Rattle.px_compile.specs.Fits.{types_of_locals}
use Rattle.px_compile.proofs.statements.+unfit.Given as goal

abbrev pub invariant-unfit_among-loop-tree : goal.invariant-unfit_among-loop-tree
invariant-unfit_among-loop-tree l =
    unfit_among (types_of_locals l.locals) l.gives l.has_none (callees_of (map function_kept l.functions)) (gathered (map rose_of_typed (drop l.tree-index l.trees)))
    ≡ unfit_among (types_of_locals l.locals) l.gives l.has_none (callees_of (map function_kept l.functions)) (gathered (map rose_of_typed l.trees))
