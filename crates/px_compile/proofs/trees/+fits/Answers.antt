use Rattle.px_compile.specs.Fits.{types_of_locals}
use Rattle.px_compile.proofs.Parts.{tree_then, tree_else}
use Rattle.px_compile.proofs.trees.+fits.Goals as goal

pub tree_fits-returns-then-head_fits : goal.tree_fits-returns-then-head_fits
tree_fits-returns-then-head_fits t c =
    tree_then (types_of_locals c.args.locals.now) c.args.at_hand c.args.tree.now c.as_slice-parts.result.now _ _ _ c.as_slice-parts.ensures c.head_fits.ensures
    c.are_steps.ensures c.parts_fit.ensures c.if-head_fits.true

pub tree_fits-returns-else-head_fits : goal.tree_fits-returns-else-head_fits
tree_fits-returns-else-head_fits t c =
    tree_else (types_of_locals c.args.locals.now) c.args.at_hand c.args.tree.now c.as_slice-parts.result.now _ c.as_slice-parts.ensures c.head_fits.ensures
    c.if-head_fits.false
