use Rattle.std.proofs.Common.{ap, ◌∙◌}
use Rattle.px_walk.specs.Forms as form
use Rattle.px_walk.proofs.ExprEquations.{of_Attribute, of_Call, of_Subscript}
use Rattle.px_walk.proofs.Parts.{at_trailer}
use Rattle.px_walk.proofs.row_nodes.trailer_head.Goals as goal

pub returns-in-Attribute : goal.returns-in-Attribute
returns-in-Attribute c = λ at. ap form.Attribute c.as_slice.ensures ∙ at_trailer (λ made. made.0) at c.in-Attribute.is (of_Attribute _ at)

pub returns-in-Call : goal.returns-in-Call
returns-in-Call c = λ at. at_trailer (λ made. made.0) at c.in-Call.is (of_Call _ at)

pub returns-in-Subscript : goal.returns-in-Subscript
returns-in-Subscript c = λ at. at_trailer (λ made. made.0) at c.in-Subscript.is (of_Subscript _ _ at)
