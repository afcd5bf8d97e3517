use Rattle.std.proofs.Common.{ap, ◌∙◌, rules}
use Rattle.std.proofs.lemmas.Int.{to_z-of_z}
use mir.Val.{SFits}
use mir.Syntax.{w128}
use Rattle.px_walk.specs.Forms as form
use Rattle.px_walk.proofs.ExprEquations.{of_Name, of_Number, of_Text, of_True, of_False, of_None, of_Sizeof, of_Tuple, of_List, of_Dict, of_Row, of_Unary, of_Cast, of_Chain, of_Compare, of_Not, of_And, of_Or, of_Conditional}
use Rattle.px_walk.proofs.Parts.{at_expr}
use Rattle.px_walk.proofs.expr_nodes.expr_head.Goals as goal

pub returns-in-Name : goal.returns-in-Name
returns-in-Name c = ap form.Name c.as_slice.ensures ∙ at_expr (λ made. made.0) c.in-Name.is (of_Name _)

pub returns-in-Number : goal.returns-in-Number
returns-in-Number c = let fits : SFits w128 c.in-Number.n = search rules in
    ap form.Number (to_z-of_z w128 c.in-Number.n fits) ∙ at_expr (λ made. made.0) c.in-Number.is (of_Number _)

pub returns-in-Text : goal.returns-in-Text
returns-in-Text c = ap form.Text c.as_slice-in-Text.ensures ∙ at_expr (λ made. made.0) c.in-Text.is (of_Text _)

pub returns-in-True : goal.returns-in-True
returns-in-True c = at_expr (λ made. made.0) c.in-True.is of_True

pub returns-in-False : goal.returns-in-False
returns-in-False c = at_expr (λ made. made.0) c.in-False.is of_False

pub returns-in-None : goal.returns-in-None
returns-in-None c = at_expr (λ made. made.0) c.in-None.is of_None

pub returns-in-Sizeof : goal.returns-in-Sizeof
returns-in-Sizeof c = at_expr (λ made. made.0) c.in-Sizeof.is (of_Sizeof _)

pub returns-in-Tuple : goal.returns-in-Tuple
returns-in-Tuple c = at_expr (λ made. made.0) c.in-Tuple.is (of_Tuple _)

pub returns-in-List : goal.returns-in-List
returns-in-List c = at_expr (λ made. made.0) c.in-List.is (of_List _)

pub returns-in-Dict : goal.returns-in-Dict
returns-in-Dict c = at_expr (λ made. made.0) c.in-Dict.is (of_Dict _)

pub returns-in-Row : goal.returns-in-Row
returns-in-Row c = at_expr (λ made. made.0) c.in-Row.is (of_Row _ _)

pub returns-in-Unary : goal.returns-in-Unary
returns-in-Unary c = at_expr (λ made. made.0) c.in-Unary.is (of_Unary _ _)

pub returns-in-Cast : goal.returns-in-Cast
returns-in-Cast c = at_expr (λ made. made.0) c.in-Cast.is (of_Cast _ _)

pub returns-in-Chain : goal.returns-in-Chain
returns-in-Chain c = at_expr (λ made. made.0) c.in-Chain.is (of_Chain _ _)

pub returns-in-Compare : goal.returns-in-Compare
returns-in-Compare c = at_expr (λ made. made.0) c.in-Compare.is (of_Compare _ _)

pub returns-in-Not : goal.returns-in-Not
returns-in-Not c = at_expr (λ made. made.0) c.in-Not.is (of_Not _)

pub returns-in-And : goal.returns-in-And
returns-in-And c = at_expr (λ made. made.0) c.in-And.is (of_And _)

pub returns-in-Or : goal.returns-in-Or
returns-in-Or c = at_expr (λ made. made.0) c.in-Or.is (of_Or _)

pub returns-in-Conditional : goal.returns-in-Conditional
returns-in-Conditional c = at_expr (λ made. made.0) c.in-Conditional.is (of_Conditional _ _ _)
