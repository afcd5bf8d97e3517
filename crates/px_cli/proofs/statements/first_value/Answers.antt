use Rattle.px_cli.specs.KeptValues.{values_of}
use Rattle.px_cli.proofs.DoesLemmas.{begun_told}
use Rattle.px_cli.proofs.statements.first_value.Goals as goal

pub returns-in-Some-clause-value : goal.returns-in-Some-clause-value
returns-in-Some-clause-value c = begun_told (values_of c.args.variables.now) c.args.declarator.now c.in-Some.given c.value_of_sum.result c.in-Some.is c.value_of_sum.ensures.value
