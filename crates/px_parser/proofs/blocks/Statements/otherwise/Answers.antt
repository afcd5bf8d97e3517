use Rattle.std.proofs.lemmas.Result.{err_from_is_err_and}
use Rattle.px_base.proofs.Facts.{denied}
use Rattle.px_lexer.specs.Terminals.{terminals_of}
use Rattle.px_parser.proofs.Steps.{fails}
use Rattle.px_parser.proofs.CompoundSteps.{otherwise_refused, otherwise_gone_on, otherwise_none, else_read}
use Rattle.px_parser.proofs.ReadingSteps.{inside_tokens, inside_terminals}
use Rattle.px_parser.proofs.blocks.Statements.otherwise.Goals as goal

pub returns-then-not-is_keyword : goal.returns-then-not-is_keyword
returns-then-not-is_keyword g c = otherwise_none (terminals_of c.args.tokens.now) c.args.from c.args.room (inside_terminals c.args.tokens.now _ c.requires.inside) (denied c.is_keyword.ensures c.if-not-is_keyword.true) c.gone_on.result c.gone_on.ensures

pub body-requires-clause-inside : goal.body-requires-clause-inside
body-requires-clause-inside g c = inside_tokens c.args.tokens.now _ (else_read c.args.tokens.now c.args.from c.args.room c.requires.input (c.is_keyword.ensures.0 c.if-not-is_keyword.false)).within

pub returns-in_err-body : goal.returns-in_err-body
returns-in_err-body g c =
    let p = err_from_is_err_and c.from_residual.result c.from_residual.ensures.1 in
    rw (p.1, p.2) (fails (otherwise_refused (else_read c.args.tokens.now c.args.from c.args.room c.requires.input (c.is_keyword.ensures.0 c.if-not-is_keyword.false))) c.in_err-body.field-0.0 c.in_err-body.ensures)

pub returns : goal.returns
returns g c = otherwise_gone_on (else_read c.args.tokens.now c.args.from c.args.room c.requires.input (c.is_keyword.ensures.0 c.if-not-is_keyword.false)) c.in_ok-body.ensures c.gone_on-2.result c.gone_on-2.ensures
