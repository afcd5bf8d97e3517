use Rattle.px_cli.specs.KeptValues.{values_of}
use Rattle.px_cli.proofs.ExpressionLemmas.{TermsFrom}
use Rattle.px_cli.proofs.expressions.with_terms.Given as goal

abbrev pub invariant-loop-link : goal.invariant-loop-link
invariant-loop-link l = TermsFrom (values_of l.variables) l.fn.first l.links l.link-index l.sum
