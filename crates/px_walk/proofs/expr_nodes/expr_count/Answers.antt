use Rattle.std.proofs.Common.{length, sym, ap, ◌∙◌}
use Rattle.std.proofs.lemmas.List.{length-map}
use Rattle.px_tree.specs.declared.expressions.Trailer.{Trailer}
use Rattle.px_walk.specs.Roses.{at_of}
use Rattle.px_walk.specs.ExprView.{rose_of_expr, rose_of_entry, rose_of_trailer, rose_of_link, rose_of_comparison}
use Rattle.px_walk.proofs.ExprEquations.{of_Name, of_Number, of_Text, of_True, of_False, of_None, of_Sizeof, of_Tuple, of_List, of_Dict, of_Row, of_Unary, of_Cast, of_Chain, of_Compare, of_Not, of_And, of_Or, of_Conditional}
use Rattle.px_walk.proofs.Parts.{at_expr, one_more}
use Rattle.px_walk.proofs.expr_nodes.expr_count.Goals as goal

pub returns-in-Name : goal.returns-in-Name
returns-in-Name c = at_expr (λ made. length made.1) c.in-Name.is (of_Name _)

pub returns-in-Number : goal.returns-in-Number
returns-in-Number c = at_expr (λ made. length made.1) c.in-Number.is (of_Number _)

pub returns-in-Text : goal.returns-in-Text
returns-in-Text c = at_expr (λ made. length made.1) c.in-Text.is (of_Text _)

pub returns-in-True : goal.returns-in-True
returns-in-True c = at_expr (λ made. length made.1) c.in-True.is of_True

pub returns-in-False : goal.returns-in-False
returns-in-False c = at_expr (λ made. length made.1) c.in-False.is of_False

pub returns-in-None : goal.returns-in-None
returns-in-None c = at_expr (λ made. length made.1) c.in-None.is of_None

pub returns-in-Sizeof : goal.returns-in-Sizeof
returns-in-Sizeof c = at_expr (λ made. length made.1) c.in-Sizeof.is (of_Sizeof _)

pub returns-in-Tuple : goal.returns-in-Tuple
returns-in-Tuple c = c.len.ensures ∙ sym (length-map c.in-Tuple.items rose_of_expr) ∙ at_expr (λ made. length made.1) c.in-Tuple.is (of_Tuple _)

pub returns-in-List : goal.returns-in-List
returns-in-List c = c.len-in-List.ensures ∙ sym (length-map c.in-List.items rose_of_expr) ∙ at_expr (λ made. length made.1) c.in-List.is (of_List _)

pub returns-in-Dict : goal.returns-in-Dict
returns-in-Dict c = c.len-in-Dict.ensures ∙ sym (length-map c.in-Dict.entries rose_of_entry) ∙ at_expr (λ made. length made.1) c.in-Dict.is (of_Dict _)

pub returns-in-Row : goal.returns-in-Row
returns-in-Row c = one_more (ap length c.as_slice.ensures ∙ sym (length-map c.in-Row.trailers (λ (trailer : Trailer). rose_of_trailer trailer (at_of (rose_of_expr c.in-Row.field-0))))) ∙ at_expr (λ made. length made.1) c.in-Row.is (of_Row _ _)

pub returns-in-Unary : goal.returns-in-Unary
returns-in-Unary c = at_expr (λ made. length made.1) c.in-Unary.is (of_Unary _ _)

pub returns-in-Cast : goal.returns-in-Cast
returns-in-Cast c = at_expr (λ made. length made.1) c.in-Cast.is (of_Cast _ _)

pub returns-in-Chain : goal.returns-in-Chain
returns-in-Chain c = one_more (ap length c.as_slice-in-Chain.ensures ∙ sym (length-map c.in-Chain.links rose_of_link)) ∙ at_expr (λ made. length made.1) c.in-Chain.is (of_Chain _ _)

pub returns-in-Compare : goal.returns-in-Compare
returns-in-Compare c = one_more (ap length c.as_slice-in-Compare.ensures ∙ sym (length-map c.in-Compare.comparisons rose_of_comparison)) ∙ at_expr (λ made. length made.1) c.in-Compare.is (of_Compare _ _)

pub returns-in-Not : goal.returns-in-Not
returns-in-Not c = at_expr (λ made. length made.1) c.in-Not.is (of_Not _)

pub returns-in-And : goal.returns-in-And
returns-in-And c = c.len-in-And.ensures ∙ sym (length-map c.in-And.operands rose_of_expr) ∙ at_expr (λ made. length made.1) c.in-And.is (of_And _)

pub returns-in-Or : goal.returns-in-Or
returns-in-Or c = c.len-in-Or.ensures ∙ sym (length-map c.in-Or.operands rose_of_expr) ∙ at_expr (λ made. length made.1) c.in-Or.is (of_Or _)

pub returns-in-Conditional : goal.returns-in-Conditional
returns-in-Conditional c = at_expr (λ made. length made.1) c.in-Conditional.is (of_Conditional _ _ _)
