use Rattle.std.proofs.lemmas.Result.{err_from_is_err_and}
use Rattle.px_lexer.specs.Terminals.{terminals_of}
use Rattle.px_parser.proofs.TokenShapes.{misread}
use Rattle.px_parser.proofs.Steps.{fails}
use Rattle.px_parser.proofs.CompoundSteps.{step_body_colon, step_body_block, read_body}
use Rattle.px_parser.proofs.ReadingSteps.{inside_tokens}
use Rattle.px_parser.proofs.blocks.Statements.body.Goals as goal

pub returns-in_err-colon : goal.returns-in_err-colon
returns-in_err-colon g c =
    let p = err_from_is_err_and c.from_residual.result c.from_residual.ensures.1 in
    rw (p.1, p.2) (fails (step_body_colon (terminals_of c.args.tokens.now) c.args.from c.args.room) c.in_err-colon.field-0.0 (misread (c.in_err-colon.ensures c.args.room)))

pub block-requires : goal.block-requires
block-requires g c = c.requires.nests.callable _ _ _ c.requires.input (inside_tokens c.args.tokens.now _ (c.in_ok-colon.ensures c.args.room).within)

pub returns-in_err-found : goal.returns-in_err-found
returns-in_err-found g c =
    let p = err_from_is_err_and c.from_residual-in_err-found.result c.from_residual-in_err-found.ensures.1 in
    rw (p.1, p.2) (fails (step_body_block (c.in_ok-colon.ensures c.args.room)) c.in_err-found.field-0.0 (c.requires.nests.reads _ _ _ _ c.requires.input (inside_tokens c.args.tokens.now _ (c.in_ok-colon.ensures c.args.room).within) c.in_err-found.ensures))

pub returns : goal.returns
returns g c = read_body (c.in_ok-colon.ensures c.args.room) (c.requires.nests.reads _ _ _ _ c.requires.input (inside_tokens c.args.tokens.now _ (c.in_ok-colon.ensures c.args.room).within) c.in_ok-found.ensures)
