use Rattle.std.proofs.Common.{◌≡◌, refl, sym, ◌∙◌, subst}
use Rattle.px_tree.specs.declared.expressions.Expr.{Expr}
use Rattle.px_tree.specs.declared.expressions.ExprForm.TheVariants as form
use Rattle.px_cli.specs.FirstMeaning.{IsCall}
use Rattle.px_cli.proofs.CallLemmas.{one_call}
use Rattle.px_cli.proofs.statements.arguments_of.Goals as goal

pub returns-then-is_named : goal.returns-then-is_named
returns-then-is_named c =
    let one = sym c.as_slice.ensures ∙ c.in-Some-Call.ensures in
    let named = subst (λ (e : Expr). e.form ≡ form.Name c.args.name.now) c.get.ensures (c.if-is_named.ensures.0 refl) in
    subst (λ xs. IsCall c.args.name.now c.args.call.now xs) (sym (c.as_slice-then-is_named.ensures ∙ c.in-Some-Call.arguments-is))
    (one_call c.in-Row.called c.in-Row.trailers c.in-Some-Call.field-0.now c.in-Some-Call.arguments c.in-Row.is one c.in-Some-Call.field-0-is named)
