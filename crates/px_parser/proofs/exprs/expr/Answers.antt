use Rattle.std.proofs.lemmas.Result.{err_from_is_err_and}
use Rattle.px_exprs.specs.Codes.{Past}
use Rattle.px_exprs.specs.Grammar.{IsExpr}
use Rattle.px_lexer.specs.Terminals.{terminals_of}
use Rattle.px_parser.proofs.NestedReadings.{expr_lines, nested_reading, nested_unread}
use Rattle.px_parser.proofs.exprs.expr.Goals as goal

pub returns-in_err-read : goal.returns-in_err-read
returns-in_err-read c =
    let p = err_from_is_err_and c.from_residual.result c.from_residual.ensures.1 in
    λ room. rw (p.1, p.2) (nested_unread IsExpr (Past 26) expr_lines (terminals_of c.args.tokens.now) c.args.from room _ c.in_err-read.ensures)

pub returns : goal.returns
returns c = λ room. nested_reading room c.in_ok-read.ensures
