use Rattle.std.proofs.Common.{map, ◌∙◌}
use Rattle.px_types.specs.TypedModule.{function_kept}
use Rattle.px_compile.specs.FitStatements.{callees_of}
use Rattle.px_compile.specs.Fits.{types_of_locals}
use Rattle.px_compile.proofs.StatementParts.{alone_is}
use Rattle.px_compile.proofs.statements.alone_fits.Goals as goal

pub returns : goal.returns
returns c =
    c.alone_by.ensures
    ∙ alone_is (types_of_locals c.args.locals.now) (callees_of (map function_kept c.args.functions.now)) c.args.tree.now c.as_slice.result.now c.tree_fits-fits.result c.as_slice.ensures c.tree_fits-fits.ensures
