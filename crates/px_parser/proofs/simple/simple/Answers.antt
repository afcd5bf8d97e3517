use Rattle.std.proofs.Common.{arith}
use Rattle.std.proofs.lemmas.Result.{err_from_is_err_and}
use Rattle.px_lexer.specs.Terminals.{terminals_of}
use Rattle.px_parser.proofs.Steps.{fails}
use Rattle.px_parser.proofs.SimpleSteps.{simple_first, simple_read}
use Rattle.px_parser.proofs.TokenSteps.{reading_inside}
use Rattle.px_parser.proofs.simple.simple.Goals as goal

pub returns-in_err-found : goal.returns-in_err-found
returns-in_err-found c =
    let p = err_from_is_err_and c.from_residual.result c.from_residual.ensures.1 in
    λ room. rw (p.1, p.2) (fails (simple_first (terminals_of c.args.tokens.now) c.args.from room) _ (c.in_err-found.ensures room))

pub returns : goal.returns
returns c = λ room. simple_read (c.in_ok-found.ensures room) c.place.ensures

pub overflow_cast-result : goal.overflow_cast-result
overflow_cast-result c = omega (arith, c.requires.input.input.few, reading_inside c.args.tokens.now (c.in_ok-found.ensures 0))
