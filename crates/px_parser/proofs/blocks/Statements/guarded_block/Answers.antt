use Rattle.std.proofs.lemmas.Result.{err_from_is_err_and}
use Rattle.std.proofs.Common.{◌∙◌}
use Rattle.px_lexer.specs.Terminals.{terminals_of}
use Rattle.px_parser.proofs.TokenShapes.{misread}
use Rattle.px_parser.proofs.Steps.{fails}
use Rattle.px_parser.proofs.CompoundSteps.{step_guarded_word, step_guarded_test, step_guarded_body, read_guarded}
use Rattle.px_parser.proofs.ReadingSteps.{inside_tokens}
use Rattle.px_parser.proofs.blocks.Statements.guarded_block.Goals as goal

pub returns-in_err-word : goal.returns-in_err-word
returns-in_err-word g c =
    let p = err_from_is_err_and c.from_residual.result c.from_residual.ensures.1 in
    rw (p.1, p.2) (fails (step_guarded_word c.args.word (terminals_of c.args.tokens.now) c.args.from c.args.room) c.in_err-word.field-0.0 (misread (c.in_err-word.ensures c.args.room)))

pub expr-requires-clause-inside : goal.expr-requires-clause-inside
expr-requires-clause-inside g c = inside_tokens c.args.tokens.now _ (c.in_ok-word.ensures c.args.room).within

pub returns-in_err-test : goal.returns-in_err-test
returns-in_err-test g c =
    let p = err_from_is_err_and c.from_residual-in_err-test.result c.from_residual-in_err-test.ensures.1 in
    rw (p.1, p.2) (fails (step_guarded_test c.args.word (c.in_ok-word.ensures c.args.room)) c.in_err-test.field-0.0 (c.in_err-test.ensures c.args.room))

pub body-requires-clause-inside : goal.body-requires-clause-inside
body-requires-clause-inside g c = inside_tokens c.args.tokens.now _ (c.in_ok-test.ensures c.args.room).within

pub returns-in_err-body : goal.returns-in_err-body
returns-in_err-body g c =
    let p = err_from_is_err_and c.from_residual-in_err-body.result c.from_residual-in_err-body.ensures.1 in
    rw (p.1, p.2) (fails (step_guarded_body c.args.word (c.in_ok-word.ensures c.args.room) (c.in_ok-test.ensures c.args.room)) c.in_err-body.field-0.0 c.in_err-body.ensures)

pub returns : goal.returns
returns g c = rw (c.into_inner.ensures ∙ c.in_ok-test_tree.ensures) (read_guarded c.args.word c.place.ensures (c.in_ok-word.ensures c.args.room) (c.in_ok-test.ensures c.args.room) c.in_ok-body.ensures)
