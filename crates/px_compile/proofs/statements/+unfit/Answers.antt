use Rattle.std.proofs.Common.{map, ◌∙◌, ap, sym, Some}
use Rattle.px_compile.specs.FitStatements.{placed}
use Rattle.px_walk.specs.Roses.{at_of}
use Rattle.px_typed_walk.specs.TypedView.{rose_of_typed}
use Rattle.px_types.specs.TypedModule.{function_kept}
use Rattle.px_compile.specs.FitStatements.{callees_of}
use Rattle.px_compile.specs.Fits.{types_of_locals}
use Rattle.px_compile.proofs.StatementParts.{unfit_group, unfit_leaf}
use Rattle.px_compile.proofs.statements.+unfit.Goals as goal

pub unfit-returns-then-is_group : goal.unfit-returns-then-is_group
unfit-returns-then-is_group t c =
    c.unfit_among.ensures
    ∙ unfit_group (types_of_locals c.args.locals.now) c.args.gives c.args.has_none (callees_of (map function_kept c.args.functions.now)) c.args.tree.now c.as_slice-parts.result.now c.is_group.result
    c.as_slice-parts.ensures c.is_group.ensures c.if-is_group.true

pub unfit-returns-then-leaf_fits : goal.unfit-returns-then-leaf_fits
unfit-returns-then-leaf_fits t c =
    ap (λ fits. placed fits (at_of (rose_of_typed c.args.tree.now))) (sym c.if-leaf_fits.true)
    ∙ unfit_leaf (types_of_locals c.args.locals.now) c.args.gives c.args.has_none (callees_of (map function_kept c.args.functions.now)) c.args.tree.now c.as_slice-parts.result.now c.is_group.result
    c.leaf_fits.result c.as_slice-parts.ensures c.is_group.ensures c.if-is_group.false c.leaf_fits.ensures

pub unfit-returns-else-leaf_fits : goal.unfit-returns-else-leaf_fits
unfit-returns-else-leaf_fits t c =
    ap Some c.at_of.ensures
    ∙ (ap (λ fits. placed fits (at_of (rose_of_typed c.args.tree.now))) (sym c.if-leaf_fits.false)
    ∙ unfit_leaf (types_of_locals c.args.locals.now) c.args.gives c.args.has_none (callees_of (map function_kept c.args.functions.now)) c.args.tree.now c.as_slice-parts.result.now c.is_group.result
    c.leaf_fits.result c.as_slice-parts.ensures c.is_group.ensures c.if-is_group.false c.leaf_fits.ensures)
