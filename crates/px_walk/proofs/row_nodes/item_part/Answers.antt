use Rattle.std.proofs.Common.{◌∙◌}
use Rattle.std.specs.Prelude.{slice_get}
use Rattle.px_walk.proofs.ExprEquations.{of_Index, of_Slice, of_Ellipsis}
use Rattle.px_walk.proofs.Parts.{at_item}
use Rattle.px_walk.proofs.row_nodes.item_part.Goals as goal

pub returns-in-Index : goal.returns-in-Index
returns-in-Index c = c.only.ensures ∙ at_item (λ made. slice_get made.1 c.args.k) c.in-Index.is (of_Index _)

pub returns-in-Slice : goal.returns-in-Slice
returns-in-Slice c = c.bound.ensures ∙ at_item (λ made. slice_get made.1 c.args.k) c.in-Slice.is (of_Slice _ _ _)

pub returns-in-Ellipsis : goal.returns-in-Ellipsis
returns-in-Ellipsis c = at_item (λ made. slice_get made.1 c.args.k) c.in-Ellipsis.is of_Ellipsis
