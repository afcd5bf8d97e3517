use Rattle.std.proofs.lemmas.Result.{err_from_is_err_and}
use Rattle.px_lexer.specs.Terminals.{terminals_of}
use Rattle.px_parser.proofs.TokenShapes.{misread}
use Rattle.px_parser.proofs.Steps.{fails}
use Rattle.px_parser.proofs.BlockSteps.{step_indented_newline, step_indented_indent, step_indented_statements, step_indented_dedent, read_indented}
use Rattle.px_parser.proofs.ReadingSteps.{inside_tokens}
use Rattle.px_parser.proofs.blocks.Statements.indented_block.Goals as goal

pub returns-in_err-end : goal.returns-in_err-end
returns-in_err-end g c =
    let p = err_from_is_err_and c.from_residual.result c.from_residual.ensures.1 in
    rw (p.1, p.2) (fails (step_indented_newline (terminals_of c.args.tokens.now) c.args.from c.args.room) c.in_err-end.field-0.0 (misread (c.in_err-end.ensures c.args.room)))

pub indent-requires-clause-inside : goal.indent-requires-clause-inside
indent-requires-clause-inside g c = inside_tokens c.args.tokens.now _ (c.in_ok-end.ensures c.args.room).within

pub returns-in_err-deeper : goal.returns-in_err-deeper
returns-in_err-deeper g c =
    let p = err_from_is_err_and c.from_residual-in_err-deeper.result c.from_residual-in_err-deeper.ensures.1 in
    rw (p.1, p.2) (fails (step_indented_indent (c.in_ok-end.ensures c.args.room)) c.in_err-deeper.field-0.0 (misread (c.in_err-deeper.ensures c.args.room)))

pub statements-requires-clause-inside : goal.statements-requires-clause-inside
statements-requires-clause-inside g c = inside_tokens c.args.tokens.now _ (c.in_ok-deeper.ensures c.args.room).within

pub returns-in_err-found : goal.returns-in_err-found
returns-in_err-found g c =
    let p = err_from_is_err_and c.from_residual-in_err-found.result c.from_residual-in_err-found.ensures.1 in
    rw (p.1, p.2) (fails (step_indented_statements (c.in_ok-end.ensures c.args.room) (c.in_ok-deeper.ensures c.args.room)) c.in_err-found.field-0.0 c.in_err-found.ensures)

pub dedent-requires-clause-inside : goal.dedent-requires-clause-inside
dedent-requires-clause-inside g c = inside_tokens c.args.tokens.now _ c.in_ok-found.ensures.within

pub returns-in_err-closing : goal.returns-in_err-closing
returns-in_err-closing g c =
    let p = err_from_is_err_and c.from_residual-in_err-closing.result c.from_residual-in_err-closing.ensures.1 in
    rw (p.1, p.2) (fails (step_indented_dedent (c.in_ok-end.ensures c.args.room) (c.in_ok-deeper.ensures c.args.room) c.in_ok-found.ensures) c.in_err-closing.field-0.0 (misread (c.in_err-closing.ensures c.args.room)))

pub returns : goal.returns
returns g c = read_indented (c.in_ok-end.ensures c.args.room) (c.in_ok-deeper.ensures c.args.room) c.in_ok-found.ensures (c.in_ok-closing.ensures c.args.room)
