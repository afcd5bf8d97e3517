use Rattle.std.proofs.Common.{length, ◌∙◌, arith}
use Rattle.px_walk.specs.ExprView.{rose_of_expr}
use Rattle.px_walk.proofs.ExprEquations.{of_Index, of_Slice, of_Ellipsis}
use Rattle.px_walk.proofs.Parts.{at_item, three_written}
use Rattle.px_walk.proofs.row_nodes.item_count.Goals as goal

pub returns-in-Index : goal.returns-in-Index
returns-in-Index c = at_item (λ made. length made.1) c.in-Index.is (of_Index _)

pub returns-in-Slice : goal.returns-in-Slice
returns-in-Slice c =
    let whole = three_written rose_of_expr c.in-Slice.from c.in-Slice.to c.in-Slice.step in
    omega arith ∙ whole ∙ at_item (λ made. length made.1) c.in-Slice.is (of_Slice _ _ _)

pub returns-in-Ellipsis : goal.returns-in-Ellipsis
returns-in-Ellipsis c = at_item (λ made. length made.1) c.in-Ellipsis.is of_Ellipsis
