use Rattle.std.proofs.lemmas.Result.{err_from_is_err_and}
use Rattle.px_lexer.specs.Terminals.{terminals_of}
use Rattle.px_exprs.specs.Runs.{nesting_limit}
use Rattle.px_parser.specs.Parsing.{strict}
use Rattle.px_parser.specs.Ends.{EndsExprs}
use Rattle.px_parser.proofs.ExprShapes.{good_exprs_read}
use Rattle.px_parser.proofs.Steps.{fails, step_alike}
use Rattle.px_parser.proofs.ValuesShapes.{exprs_alike, exprs_of_read}
use Rattle.px_parser.proofs.exprs.values.Goals as goal

pub returns-in_err-found : goal.returns-in_err-found
returns-in_err-found c =
    let p = err_from_is_err_and c.from_residual.result c.from_residual.ensures.1 in
    λ room. rw (p.1, p.2) (fails (step_alike EndsExprs (terminals_of c.args.tokens.now) c.args.from room good_exprs_read.rises exprs_alike) _ (c.in_err-found.ensures room))

pub returns : goal.returns
returns c = λ room.
    let found = c.in_ok-found.ensures room in
    record { derived = exprs_of_read (strict nesting_limit) (terminals_of c.args.tokens.now) c.args.from room c.in_ok-found.found.to c.in_ok-found.found.tree found.derived; stops = found.stops; within = found.within }
