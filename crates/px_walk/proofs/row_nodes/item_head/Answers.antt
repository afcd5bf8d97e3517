use Rattle.std.proofs.Common.{ap, ◌∙◌}
use Rattle.std.specs.Prelude.{is_some}
use Rattle.px_walk.specs.Forms as form
use Rattle.px_walk.proofs.ExprEquations.{of_Index, of_Slice, of_Ellipsis}
use Rattle.px_walk.proofs.Parts.{at_item}
use Rattle.px_walk.proofs.row_nodes.item_head.Goals as goal

pub returns-in-Index : goal.returns-in-Index
returns-in-Index c = at_item (λ made. made.0) c.in-Index.is (of_Index _)

pub returns-in-Slice : goal.returns-in-Slice
returns-in-Slice c =
    ap (λ b. form.Slice b c.is_some-in-Slice.result c.is_some-in-Slice-2.result) c.is_some.ensures
    ∙ ap (λ b. form.Slice (is_some c.in-Slice.from) b c.is_some-in-Slice-2.result) c.is_some-in-Slice.ensures
    ∙ ap (λ b. form.Slice (is_some c.in-Slice.from) (is_some c.in-Slice.to) b) c.is_some-in-Slice-2.ensures
    ∙ at_item (λ made. made.0) c.in-Slice.is (of_Slice _ _ _)

pub returns-in-Ellipsis : goal.returns-in-Ellipsis
returns-in-Ellipsis c = at_item (λ made. made.0) c.in-Ellipsis.is of_Ellipsis
