use Rattle.std.proofs.Common.{◌∙◌, ap, sym}
use Rattle.std.specs.Prelude.{option_map}
use Rattle.px_compile.specs.Fits.{types_of_locals}
use Rattle.px_compile.proofs.StatementParts.{augment_is}
use Rattle.px_compile.proofs.statements.augment_fits.Goals as goal

pub returns-in-Some : goal.returns-in-Some
returns-in-Some c =
    c.augmented_fits.ensures ∙ augment_is (types_of_locals c.args.locals.now) c.in-Some.target.now c.in-Some.tree.now _ (ap (option_map _) (sym c.in-Some.is) ∙ c.two_parts.ensures)
