use Rattle.std.proofs.Common.{map, ap, ◌∙◌}
use Rattle.std.specs.Prelude.{slice_get}
use Rattle.px_tree.specs.declared.expressions.Item.{Item}
use Rattle.px_walk.specs.ExprView.{rose_of_argument, rose_of_item}
use Rattle.px_walk.proofs.ExprEquations.{of_Attribute, of_Call, of_Subscript}
use Rattle.px_walk.proofs.Parts.{at_trailer}
use Rattle.px_walk.proofs.row_nodes.trailer_part.Goals as goal

pub returns-in-Attribute : goal.returns-in-Attribute
returns-in-Attribute c = at_trailer (λ made. slice_get made.1 c.args.k) c.args.at c.in-Attribute.is (of_Attribute _ c.args.at)

pub returns-in-Call : goal.returns-in-Call
returns-in-Call c =
    c.nth_argument.ensures ∙ ap (λ xs. slice_get (map rose_of_argument xs) c.args.k) c.as_slice.ensures
    ∙ at_trailer (λ made. slice_get made.1 c.args.k) c.args.at c.in-Call.is (of_Call _ c.args.at)

pub returns-in-Subscript : goal.returns-in-Subscript
returns-in-Subscript c =
    c.nth_item.ensures ∙ ap (λ xs. slice_get (map (λ (item : Item). rose_of_item item c.args.at) xs) c.args.k) c.as_slice-in-Subscript.ensures
    ∙ at_trailer (λ made. slice_get made.1 c.args.k) c.args.at c.in-Subscript.is (of_Subscript _ _ c.args.at)
