use Rattle.std.proofs.lemmas.Result.{err_from_is_err_and}
use Rattle.px_lexer.specs.Terminals.{terminals_of}
use Rattle.px_parser.proofs.TokenShapes.{misread}
use Rattle.px_parser.proofs.Steps.{fails}
use Rattle.px_parser.proofs.SimpleSteps.{global_first, global_names, global_answer}
use Rattle.px_parser.proofs.TokenSteps.{reading_inside}
use Rattle.px_parser.proofs.simple.global.Goals as goal

pub returns-in_err-word : goal.returns-in_err-word
returns-in_err-word c =
    let p = err_from_is_err_and c.from_residual.result c.from_residual.ensures.1 in
    λ room. rw (p.1, p.2) (fails (global_first (terminals_of c.args.tokens.now) c.args.from room) _ (misread (c.in_err-word.ensures room)))

pub names-requires-clause-inside : goal.names-requires-clause-inside
names-requires-clause-inside c = reading_inside c.args.tokens.now (c.in_ok-word.ensures 0)

pub returns-in_err-found : goal.returns-in_err-found
returns-in_err-found c =
    let p = err_from_is_err_and c.from_residual-in_err-found.result c.from_residual-in_err-found.ensures.1 in
    λ room. rw (p.1, p.2) (fails (global_names (c.in_ok-word.ensures room)) _ (c.in_err-found.ensures room))

pub returns : goal.returns
returns c = λ room. global_answer (c.in_ok-word.ensures room) (c.in_ok-found.ensures room) _ c.keep_before_simple_end.ensures
