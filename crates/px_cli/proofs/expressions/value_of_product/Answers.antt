use Rattle.std.proofs.Common.{rules, sym, subst, FitsSigned}
use Rattle.std.specs.Int.{w128}
use Rattle.std.proofs.lemmas.Int.{to_z-of_z}
use Rattle.std.proofs.lemmas.Bool.{false≢true}
use Rattle.px_cli.specs.FirstMeaning.{AtomIs, FactorsGive}
use Rattle.px_cli.specs.KeptValues.{values_of}
use Rattle.px_cli.proofs.ExpressionLemmas.{Tells, product_told, product_chain, factors_told}
use Rattle.px_cli.proofs.expressions.value_of_product.Goals as goal

pub returns-in_default : goal.returns-in_default
returns-in_default c = record {
  value = product_told (values_of c.args.variables.now) c.args.expr.now c.value_of_atom.result c.in_default.not-Chain c.value_of_atom.ensures.value;
  long = c.value_of_atom.ensures.long;
}

pub returns-in_err-begun-clause-value : goal.returns-in_err-begun-clause-value
returns-in_err-begun-clause-value c =
    rw c.from_residual.ensures (λ v h.
    let chain = (product_chain {first = c.in-Chain.first} {links = c.in-Chain.links} c.in-Chain.is h).0 in
    c.in_err-begun.ensures.value chain.begun (subst (λ x. AtomIs (values_of c.args.variables.now) x chain.begun) (sym c.get.ensures) chain.atom))

pub returns-clause-value : goal.returns-clause-value
returns-clause-value c =
    let values = values_of c.args.variables.now in
    let fits : FitsSigned w128 c.in_ok-begun.begun = search rules in
    factors_told values c.args.expr.now c.in-Chain.first c.in_ok-begun.begun c.in-Chain.links c.with_factors.result c.in-Chain.is
    (λ e. false≢true (c.if-is_empty.ensures.1 e))
    (subst (λ x. AtomIs values x c.in_ok-begun.begun) c.get.ensures c.in_ok-begun.ensures.value)
    (subst (λ xs. Tells (FactorsGive values c.in_ok-begun.begun xs) c.with_factors.result) c.as_slice.ensures (rw (to_z-of_z w128 c.in_ok-begun.begun fits) at c.with_factors.ensures.value))
