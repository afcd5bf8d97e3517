use Rattle.std.proofs.Common.{◌-◌, [], ◌∷◌, Some, map, sym, ap, ◌∙◌, arith}
use Rattle.std.specs.Prelude.{slice_get}
use Rattle.px_walk.specs.Roses.{at_of}
use Rattle.px_walk.specs.ExprView.{rose_of_type, rose_of_expr, rose_of_entry, rose_of_trailer, rose_of_link, rose_of_comparison}
use Rattle.px_walk.proofs.ExprEquations.{of_Name, of_Number, of_Text, of_True, of_False, of_None, of_Sizeof, of_Tuple, of_List, of_Dict, of_Row, of_Unary, of_Cast, of_Chain, of_Compare, of_Not, of_And, of_Or, of_Conditional, expr_is}
use Rattle.px_walk.proofs.Parts.{at_expr, get-first, get-later}
use Rattle.px_walk.proofs.expr_nodes.expr_part.Goals as goal

pub returns-in-Name : goal.returns-in-Name
returns-in-Name c =
    at_expr (λ made. slice_get made.1 c.args.k) c.in-Name.is (of_Name _)

pub returns-in-Number : goal.returns-in-Number
returns-in-Number c =
    at_expr (λ made. slice_get made.1 c.args.k) c.in-Number.is (of_Number _)

pub returns-in-Text : goal.returns-in-Text
returns-in-Text c =
    at_expr (λ made. slice_get made.1 c.args.k) c.in-Text.is (of_Text _)

pub returns-in-True : goal.returns-in-True
returns-in-True c =
    at_expr (λ made. slice_get made.1 c.args.k) c.in-True.is of_True

pub returns-in-False : goal.returns-in-False
returns-in-False c =
    at_expr (λ made. slice_get made.1 c.args.k) c.in-False.is of_False

pub returns-in-None : goal.returns-in-None
returns-in-None c =
    at_expr (λ made. slice_get made.1 c.args.k) c.in-None.is of_None

pub returns-in-Sizeof : goal.returns-in-Sizeof
returns-in-Sizeof c =
    c.only.ensures ∙ at_expr (λ made. slice_get made.1 c.args.k) c.in-Sizeof.is (of_Sizeof _)

pub returns-in-Tuple : goal.returns-in-Tuple
returns-in-Tuple c =
    c.nth_expr.ensures ∙ ap (λ xs. slice_get (map rose_of_expr xs) c.args.k) c.as_slice.ensures ∙ at_expr (λ made. slice_get made.1 c.args.k) c.in-Tuple.is (of_Tuple _)

pub returns-in-List : goal.returns-in-List
returns-in-List c =
    c.nth_expr-in-List.ensures ∙ ap (λ xs. slice_get (map rose_of_expr xs) c.args.k) c.as_slice-in-List.ensures ∙ at_expr (λ made. slice_get made.1 c.args.k) c.in-List.is (of_List _)

pub returns-in-Dict : goal.returns-in-Dict
returns-in-Dict c =
    c.nth_entry.ensures ∙ ap (λ xs. slice_get (map rose_of_entry xs) c.args.k) c.as_slice-in-Dict.ensures ∙ at_expr (λ made. slice_get made.1 c.args.k) c.in-Dict.is (of_Dict _)

pub returns-in-Row : goal.returns-in-Row
returns-in-Row c =
    ap (λ e. Some (rose_of_expr e)) c.get.ensures ∙ sym (get-first _ _ c.args.k c.if-k-eq0.true) ∙ at_expr (λ made. slice_get made.1 c.args.k) c.in-Row.is (of_Row _ _)

pub returns-in-Row-2 : goal.returns-in-Row-2
returns-in-Row-2 c =
    c.nth_trailer.ensures
    ∙ ap (λ xs. slice_get (map (λ trailer. rose_of_trailer trailer c.get-in-Row-2.result.now.at) xs) (c.args.k - 1)) c.as_slice-in-Row-2.ensures
    ∙ ap (λ at. slice_get (map (λ trailer. rose_of_trailer trailer at) c.in-Row-2.trailers) (c.args.k - 1))
    (ap (λ e. e.at) c.get-in-Row-2.ensures ∙ sym (ap at_of (expr_is c.in-Row-2.atom)))
    ∙ sym (get-later _ _ c.args.k (c.args.k - 1) (omega arith)) ∙ at_expr (λ made. slice_get made.1 c.args.k) c.in-Row-2.is (of_Row _ _)

pub returns-in-Unary : goal.returns-in-Unary
returns-in-Unary c =
    c.only-in-Unary.ensures ∙ ap (λ e. slice_get (rose_of_expr e ∷ []) c.args.k) c.get-in-Unary.ensures ∙ at_expr (λ made. slice_get made.1 c.args.k) c.in-Unary.is (of_Unary _ _)

pub returns-in-Cast : goal.returns-in-Cast
returns-in-Cast c =
    c.either.ensures ∙ ap (λ e. slice_get (rose_of_type c.in-Cast.typing ∷ rose_of_expr e ∷ []) c.args.k) c.get-in-Cast.ensures ∙ at_expr (λ made. slice_get made.1 c.args.k) c.in-Cast.is (of_Cast _ _)

pub returns-in-Chain : goal.returns-in-Chain
returns-in-Chain c =
    ap (λ e. Some (rose_of_expr e)) c.get-in-Chain.ensures ∙ sym (get-first _ _ c.args.k c.if-k-eq0-2.true) ∙ at_expr (λ made. slice_get made.1 c.args.k) c.in-Chain.is (of_Chain _ _)

pub returns-in-Chain-2 : goal.returns-in-Chain-2
returns-in-Chain-2 c =
    c.nth_link.ensures ∙ ap (λ xs. slice_get (map rose_of_link xs) (c.args.k - 1)) c.as_slice-in-Chain-2.ensures
    ∙ sym (get-later _ _ c.args.k (c.args.k - 1) (omega arith)) ∙ at_expr (λ made. slice_get made.1 c.args.k) c.in-Chain-2.is (of_Chain _ _)

pub returns-in-Compare : goal.returns-in-Compare
returns-in-Compare c =
    ap (λ e. Some (rose_of_expr e)) c.get-in-Compare.ensures ∙ sym (get-first _ _ c.args.k c.if-k-eq0-3.true) ∙ at_expr (λ made. slice_get made.1 c.args.k) c.in-Compare.is (of_Compare _ _)

pub returns-in-Compare-2 : goal.returns-in-Compare-2
returns-in-Compare-2 c =
    c.nth_comparison.ensures ∙ ap (λ xs. slice_get (map rose_of_comparison xs) (c.args.k - 1)) c.as_slice-in-Compare-2.ensures
    ∙ sym (get-later _ _ c.args.k (c.args.k - 1) (omega arith)) ∙ at_expr (λ made. slice_get made.1 c.args.k) c.in-Compare-2.is (of_Compare _ _)

pub returns-in-Not : goal.returns-in-Not
returns-in-Not c =
    c.only-in-Not.ensures ∙ ap (λ e. slice_get (rose_of_expr e ∷ []) c.args.k) c.get-in-Not.ensures ∙ at_expr (λ made. slice_get made.1 c.args.k) c.in-Not.is (of_Not _)

pub returns-in-And : goal.returns-in-And
returns-in-And c =
    c.nth_expr-in-And.ensures ∙ ap (λ xs. slice_get (map rose_of_expr xs) c.args.k) c.as_slice-in-And.ensures ∙ at_expr (λ made. slice_get made.1 c.args.k) c.in-And.is (of_And _)

pub returns-in-Or : goal.returns-in-Or
returns-in-Or c =
    c.nth_expr-in-Or.ensures ∙ ap (λ xs. slice_get (map rose_of_expr xs) c.args.k) c.as_slice-in-Or.ensures ∙ at_expr (λ made. slice_get made.1 c.args.k) c.in-Or.is (of_Or _)

pub returns-in-Conditional : goal.returns-in-Conditional
returns-in-Conditional c =
    ap (λ e. Some (rose_of_expr e)) c.get-in-Conditional.ensures ∙ sym (get-first _ (rose_of_expr c.in-Conditional.field-1 ∷ rose_of_expr c.in-Conditional.field-2 ∷ []) c.args.k c.if-k-eq0-4.true) ∙ at_expr (λ made. slice_get made.1 c.args.k) c.in-Conditional.is (of_Conditional _ _ _)

pub returns-in-Conditional-2 : goal.returns-in-Conditional-2
returns-in-Conditional-2 c =
    c.either-in-Conditional-2.ensures
    ∙ ap (λ e. slice_get (rose_of_expr e ∷ rose_of_expr c.get-in-Conditional-2-2.result.now ∷ []) (c.args.k - 1)) c.get-in-Conditional-2.ensures
    ∙ ap (λ e. slice_get (rose_of_expr c.in-Conditional-2.test ∷ rose_of_expr e ∷ []) (c.args.k - 1)) c.get-in-Conditional-2-2.ensures
    ∙ sym (get-later _ (rose_of_expr c.in-Conditional-2.test ∷ rose_of_expr c.in-Conditional-2.otherwise ∷ []) c.args.k (c.args.k - 1) (omega arith)) ∙ at_expr (λ made. slice_get made.1 c.args.k) c.in-Conditional-2.is (of_Conditional _ _ _)
