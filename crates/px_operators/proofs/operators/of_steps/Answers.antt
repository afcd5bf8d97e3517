use Rattle.std.proofs.Common.{◌≡◌, ◌≤◌, ◌-◌, length, get_or, ap, sym, ◌∙◌, subst}
use Rattle.px_operators.proofs.Joins.{of_several}
use Rattle.px_operators.proofs.operators.of_steps.Goals as goal

pub returns : goal.returns
returns c =
    let items = c.args.steps.items in
    let same : c.as_slice.result.now ≡ items = c.as_slice.ensures.value in
    of_several c.args.number c.args.at items c.last-item.result c.tree_of.result c.type_of-t.result
    (c.last-item.is ∙ ap (λ xs. get_or xs (length xs - 1) c.last-item.result) same)
    c.type_of-t.ensures
    (subst (λ xs. 1 ≤ length xs) same c.in-len1-up.len_at_least)
    (λ one. c.if-len-eq1.false (c.len.ensures ∙ sym c.as_slice.ensures.len ∙ ap length same ∙ one))
    (rw c.from_vec.ensures at c.tree_of.ensures)
