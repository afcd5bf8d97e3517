use Rattle.px_cli.specs.KeptValues.{values_of}
use Rattle.px_cli.proofs.RunLemmas.{BodyFrom}
use Rattle.px_cli.proofs.running.run_body.Given as goal

abbrev pub invariant-loop-statement : goal.invariant-loop-statement
invariant-loop-statement l = BodyFrom l.body l.statement-index (values_of l.variables) l.output
