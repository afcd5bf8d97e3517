use Rattle.std.proofs.Common.{ap, ◌∙◌}
use Rattle.px_cli.specs.KeptValues.{values_of}
use Rattle.px_cli.proofs.ExpressionLemmas.{name_told}
use Rattle.px_cli.proofs.expressions.value_of_atom.Goals as goal

pub returns-in-Name-clause-value : goal.returns-in-Name-clause-value
returns-in-Name-clause-value c = name_told (values_of c.args.variables.now) c.args.expr.now c.in-Name.name c.value.result c.in-Name.is (c.value.ensures ∙ ap (values_of c.args.variables.now) c.as_slice.ensures)
