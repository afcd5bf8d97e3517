use Rattle.std.proofs.Common.{rules, inl, inr, FitsSigned}
use Rattle.std.specs.Int.{w128}
use Rattle.std.proofs.lemmas.Int.{to_z-of_z}
use Rattle.px_cli.proofs.ExpressionLemmas.{next_term, terms_on, terms_end}
use Rattle.px_cli.proofs.expressions.with_terms.Goals as goal

pub returns-in_err-value-clause-value : goal.returns-in_err-value-clause-value
returns-in_err-value-clause-value c =
    let first_fits : FitsSigned w128 c.args.first = search rules in
    let from = rw (to_z-of_z w128 c.args.first first_fits) at c.loop-link.invariant in
    rw c.from_residual.ensures (λ whole h.
    let one = next_term c.args.links.now c.loop-link.link-index c.link-item.result c.loop-link-test.true c.link-item.is from h in
    c.in_err-value.ensures.value one.value one.is)

pub returns-in_err-sum-clause-value : goal.returns-in_err-sum-clause-value
returns-in_err-sum-clause-value c =
    let first_fits : FitsSigned w128 c.args.first = search rules in
    let from = rw (to_z-of_z w128 c.args.first first_fits) at c.loop-link.invariant in
    rw c.from_residual-in_err-sum.ensures (λ whole h.
    let one = next_term c.args.links.now c.loop-link.link-index c.link-item.result c.loop-link-test.true c.link-item.is from h in
    elim (one.totals) [ inl f ↦ c.in_err-sum.ensures.0 f.0 | inr f ↦ c.in_err-sum.ensures.1 f.0 ])

pub loop-link-preserved : goal.loop-link-preserved
loop-link-preserved c =
    let value_fits : FitsSigned w128 c.in_ok-value.value = search rules in
    let fits : FitsSigned w128 c.in_ok-sum.sum = search rules in
    let first_fits : FitsSigned w128 c.args.first = search rules in
    let from = rw (to_z-of_z w128 c.args.first first_fits) at c.loop-link.invariant in
    rw (to_z-of_z w128 c.in_ok-sum.sum fits) (rw (to_z-of_z w128 c.args.first first_fits)
    (terms_on c.args.links.now c.loop-link.link-index c.link-item.result c.loop-link-test.true c.link-item.is c.in_ok-value.ensures.value (rw (to_z-of_z w128 c.in_ok-value.value value_fits) at c.in_ok-sum.ensures) from))

pub returns-clause-value : goal.returns-clause-value
returns-clause-value c =
    let first_fits : FitsSigned w128 c.args.first = search rules in
    let from = rw (to_z-of_z w128 c.args.first first_fits) at c.loop-link.invariant in
    terms_end c.args.links.now c.loop-link.link-index c.loop-link-test.false from
