use Rattle.std.proofs.Common.{rules, refl, sym, ◌∙◌, subst, FitsSigned}
use Rattle.std.specs.Int.{w128}
use Rattle.std.proofs.lemmas.Bool.{false≢true}
use Rattle.std.proofs.lemmas.Int.{to_z-of_z}
use Rattle.px_cli.specs.FirstMeaning.{ProductIs, TermsGive}
use Rattle.px_cli.specs.KeptValues.{BeginsWithTerm, values_of}
use Rattle.px_cli.proofs.ExpressionLemmas.{Tells, same_chain, sum_told, sum_chain, terms_told}
use Rattle.px_cli.proofs.expressions.value_of_sum.Goals as goal
use Rattle.px_cli.proofs.expressions.value_of_sum.Goals.{in-Chain+else-begins_with_term, in_default}

pub returns-in_err-begun-clause-value : goal.returns-in_err-begun-clause-value
returns-in_err-begun-clause-value c =
    rw c.from_residual.ensures (λ v h.
    let chain = sum_chain {first = c.in-Chain.first} {links = c.in-Chain.links} c.in-Chain.is (subst BeginsWithTerm c.as_slice.ensures (c.if-begins_with_term.ensures.0 refl)) h in
    c.in_err-begun.ensures.value chain.begun (subst (λ x. ProductIs (values_of c.args.variables.now) x chain.begun) (sym c.get.ensures) chain.is))

pub returns-then-begins_with_term-clause-value : goal.returns-then-begins_with_term-clause-value
returns-then-begins_with_term-clause-value c =
    let values = values_of c.args.variables.now in
    let fits : FitsSigned w128 c.in_ok-begun.begun = search rules in
    terms_told values c.args.expr.now c.in-Chain.first c.in_ok-begun.begun c.in-Chain.links c.with_terms.result c.in-Chain.is
    (subst BeginsWithTerm c.as_slice.ensures (c.if-begins_with_term.ensures.0 refl))
    (subst (λ x. ProductIs values x c.in_ok-begun.begun) c.get.ensures c.in_ok-begun.ensures.value)
    (subst (λ xs. Tells (TermsGive values c.in_ok-begun.begun xs) c.with_terms.result) c.as_slice-then-begins_with_term.ensures (rw (to_z-of_z w128 c.in_ok-begun.begun fits) at c.with_terms.ensures.value))

pub returns-clause-value : goal.returns-clause-value
returns-clause-value c =
    sum_told (values_of c.args.variables.now) c.args.expr.now c.value_of_product-2.result
    (λ first links is begins. elim c.match-expr.branch [
      | in-Chain+else-begins_with_term w ↦ false≢true (w.if-begins_with_term.ensures.1 (subst BeginsWithTerm ((same_chain {first = first} {other = w.in-Chain.first} {links = links} {others = w.in-Chain.links} is w.in-Chain.is).1 ∙ sym w.as_slice.ensures) begins))
      | in_default w ↦ w.in_default.not-Chain first links is
    ])
    c.value_of_product-2.ensures.value
