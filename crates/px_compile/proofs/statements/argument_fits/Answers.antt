use Rattle.std.proofs.Common.{◌∙◌}
use Rattle.px_compile.specs.Fits.{types_of_locals}
use Rattle.px_compile.proofs.StatementParts.{argument_is}
use Rattle.px_compile.proofs.statements.argument_fits.Goals as goal

pub returns : goal.returns
returns c = c.boxed_fits.ensures ∙ argument_is (types_of_locals c.args.locals.now) c.args.tree.now c.as_slice.result.now c.as_slice.ensures
