use Rattle.std.proofs.Common.{ℕ, List}
use Rattle.std.proofs.lemmas.Result.{err_from_is_err_and}
use Rattle.px_cli.proofs.RefusalLemmas.{refused_weaker}
use Rattle.px_cli.proofs.RunLemmas.{body_begun, body_on, body_ended, body_stops}
use Rattle.px_cli.proofs.running.run_body.Goals as goal

pub loop-statement-init : goal.loop-statement-init
loop-statement-init c = body_begun c.args.body.now _ c.new-output.result c.new-variables.ensures c.new-output.ensures

pub returns-in_err-run_statement-clause-refused : goal.returns-in_err-run_statement-clause-refused
returns-in_err-run_statement-clause-refused c =
    let p = err_from_is_err_and c.from_residual.result c.from_residual.ensures.1 in
    rw (p.1, p.2) (refused_weaker (Unit {0}) (List ℕ) c.in_err-run_statement.field-0.0 c.in_err-run_statement.ensures.refused (λ refusal h.
    (c.statement-item.result.at, body_stops c.statement-item.result c.loop-statement-test.true c.statement-item.is h.0 c.loop-statement.invariant, h.1)))

pub loop-statement-preserved : goal.loop-statement-preserved
loop-statement-preserved c =
    let done = c.in_ok-run_statement.ensures.done in
    body_on c.statement-item.result c.loop-statement-test.true c.statement-item.is done.1 done.2 c.in_ok-run_statement.ensures.longs c.loop-statement.invariant

pub returns-clause-done : goal.returns-clause-done
returns-clause-done c = body_ended c.loop-statement-test.false c.loop-statement.invariant
