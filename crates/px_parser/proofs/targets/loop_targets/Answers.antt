use Rattle.std.proofs.Common.{sym, subst}
use Rattle.std.proofs.lemmas.Result.{err_from_is_err_and}
use Rattle.px_lexer.specs.Terminals.{terminals_of}
use Rattle.px_parser.specs.Shapes.{Nested}
use Rattle.px_parser.specs.Ends.{EndsLoopTarget}
use Rattle.px_parser.specs.Readings.{IsReading}
use Rattle.px_parser.specs.StatementGrammar.{IsTarget}
use Rattle.px_parser.proofs.TargetsLoops.{first_target_refused}
use Rattle.px_parser.proofs.targets.loop_targets.Goals as goal

pub returns-in_err-first : goal.returns-in_err-first
returns-in_err-first c =
    let p = err_from_is_err_and c.from_residual.result c.from_residual.ensures.1 in
    rw (p.1, p.2) (λ room. first_target_refused (terminals_of c.args.tokens.now) c.args.from room _ (c.in_err-first.ensures room))

pub further_targets-requires-clause-read : goal.further_targets-requires-clause-read
further_targets-requires-clause-read c = λ room.
    subst (λ e. IsReading (Nested IsTarget) EndsLoopTarget (terminals_of c.args.tokens.now) c.args.from room e c.in_ok-first.first.to) (sym c.in_ok-first_tree.ensures) (c.in_ok-first.ensures room)
