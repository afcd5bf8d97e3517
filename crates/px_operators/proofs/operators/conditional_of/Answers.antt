use Rattle.std.proofs.Common.{◌≡◌, [], ◌∷◌, ◌++◌, ap, sym, ◌∙◌}
use Rattle.px_operators.specs.Operators.{conditional_of}
use Rattle.px_operators.specs.Kept.{parts_kept, both_answers}
use Rattle.px_operators.proofs.Joins.{popped, conditional_gives}
use Rattle.px_operators.proofs.operators.conditional_of.Goals as goal

pub returns : goal.returns
returns c =
    let first = popped _ _ _ _ c.pop.ensures c.in-Some-Some-Some.is-0 in
    let second = popped _ _ _ _ c.pop-2.ensures c.in-Some-Some-Some.is-1 in
    let third = popped _ _ _ _ c.pop-3.ensures c.in-Some-Some-Some.is-2 in
    let none : c.pop-3.new.self ≡ [] = c.is_empty.ensures.0 c.if-not-is_empty.false in
    let whole : c.args.parts.items ≡ c.in-Some-Some-Some.left ∷ c.in-Some-Some-Some.test ∷ c.in-Some-Some-Some.right ∷ [] =
    sym c.from_vec-parts.ensures ∙ first ∙ ap (λ xs. xs ++ c.in-Some-Some-Some.right ∷ []) (second ∙ ap (λ xs. xs ++ c.in-Some-Some-Some.test ∷ []) (third ∙ ap (λ xs. xs ++ c.in-Some-Some-Some.left ∷ []) none)) in
    ap (λ parts. conditional_of c.args.number c.args.at (parts_kept parts)) whole
    ∙ conditional_gives c.args.number c.args.at c.in-Some-Some-Some.left c.in-Some-Some-Some.test c.in-Some-Some-Some.right
    c.operand_part.result c.tested_part.result c.operand_part-2.result c.in_ok-left.left c.in_ok-left.test c.in_ok-left.right c.in_ok-choice.field-0
    c.operand_part.ensures c.tested_part.ensures c.operand_part-2.ensures
    (sym (c.both.ensures ∙ ap (λ a. both_answers a c.operand_part-2.result) c.both-left_and_test.ensures) ∙ c.in_ok-left.was)
    c.in_ok-choice.ensures
