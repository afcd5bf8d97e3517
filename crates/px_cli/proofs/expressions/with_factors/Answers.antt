use Rattle.std.proofs.Common.{rules, FitsSigned}
use Rattle.std.specs.Int.{w128}
use Rattle.std.proofs.lemmas.Int.{to_z-of_z}
use Rattle.px_cli.proofs.ExpressionLemmas.{next_factor, factors_on, factors_end}
use Rattle.px_cli.proofs.expressions.with_factors.Goals as goal

pub returns-in_err-value-clause-value : goal.returns-in_err-value-clause-value
returns-in_err-value-clause-value c =
    let first_fits : FitsSigned w128 c.args.first = search rules in
    let from = rw (to_z-of_z w128 c.args.first first_fits) at c.loop-link.invariant in
    rw c.from_residual.ensures (λ whole h.
    let one = next_factor c.args.links.now c.loop-link.link-index c.link-item.result c.loop-link-test.true c.link-item.is from h in
    c.in_err-value.ensures.value one.value one.is)

pub returns-in_err-product-clause-value : goal.returns-in_err-product-clause-value
returns-in_err-product-clause-value c =
    let first_fits : FitsSigned w128 c.args.first = search rules in
    let from = rw (to_z-of_z w128 c.args.first first_fits) at c.loop-link.invariant in
    rw c.from_residual-in_err-product.ensures (λ whole h.
    let one = next_factor c.args.links.now c.loop-link.link-index c.link-item.result c.loop-link-test.true c.link-item.is from h in
    c.in_err-product.ensures one.op)

pub loop-link-preserved : goal.loop-link-preserved
loop-link-preserved c =
    let value_fits : FitsSigned w128 c.in_ok-value.value = search rules in
    let fits : FitsSigned w128 c.in_ok-product.product = search rules in
    let first_fits : FitsSigned w128 c.args.first = search rules in
    let from = rw (to_z-of_z w128 c.args.first first_fits) at c.loop-link.invariant in
    rw (to_z-of_z w128 c.in_ok-product.product fits) (rw (to_z-of_z w128 c.args.first first_fits)
    (factors_on c.args.links.now c.loop-link.link-index c.link-item.result c.loop-link-test.true c.link-item.is c.in_ok-product.ensures.0 c.in_ok-value.ensures.value (rw (to_z-of_z w128 c.in_ok-value.value value_fits) at c.in_ok-product.ensures.1) from))

pub returns-clause-value : goal.returns-clause-value
returns-clause-value c =
    let first_fits : FitsSigned w128 c.args.first = search rules in
    let from = rw (to_z-of_z w128 c.args.first first_fits) at c.loop-link.invariant in
    factors_end c.args.links.now c.loop-link.link-index c.loop-link-test.false from
