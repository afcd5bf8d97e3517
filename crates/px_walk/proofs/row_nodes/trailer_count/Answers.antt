use Rattle.std.proofs.Common.{length, sym, ◌∙◌}
use Rattle.std.proofs.lemmas.List.{length-map}
use Rattle.px_tree.specs.declared.expressions.Item.{Item}
use Rattle.px_walk.specs.ExprView.{rose_of_argument, rose_of_item}
use Rattle.px_walk.proofs.ExprEquations.{of_Attribute, of_Call, of_Subscript}
use Rattle.px_walk.proofs.Parts.{at_trailer}
use Rattle.px_walk.proofs.row_nodes.trailer_count.Goals as goal

pub returns-in-Attribute : goal.returns-in-Attribute
returns-in-Attribute c = λ at. at_trailer (λ made. length made.1) at c.in-Attribute.is (of_Attribute _ at)

pub returns-in-Call : goal.returns-in-Call
returns-in-Call c = λ at. c.len.ensures ∙ sym (length-map c.in-Call.arguments rose_of_argument) ∙ at_trailer (λ made. length made.1) at c.in-Call.is (of_Call _ at)

pub returns-in-Subscript : goal.returns-in-Subscript
returns-in-Subscript c = λ at. c.len-in-Subscript.ensures ∙ sym (length-map c.in-Subscript.items (λ (item : Item). rose_of_item item at)) ∙ at_trailer (λ made. length made.1) at c.in-Subscript.is (of_Subscript _ _ at)
