use Rattle.std.proofs.Common.{arith}
use Rattle.std.proofs.lemmas.Result.{err_from_is_err_and}
use Rattle.px_lexer.specs.Terminals.{terminals_of}
use Rattle.px_parser.proofs.TokenShapes.{misread}
use Rattle.px_parser.proofs.ReadingSteps.{inside_tokens}
use Rattle.px_parser.specs.ModuleGrammar.{Parameter}
use Rattle.px_parser.specs.Ends.{EndsParameter}
use Rattle.px_parser.proofs.FunctionReading.{named_refused}
use Rattle.px_parser.proofs.FunctionSteps.{maybe_spelled, parameter_first, parameter_second, parameter_read}
use Rattle.px_parser.proofs.functions.parameter.Goals as goal

pub returns-in_err-head : goal.returns-in_err-head
returns-in_err-head c =
    let p = err_from_is_err_and c.from_residual.result c.from_residual.ensures.1 in
    λ room. rw (p.1, p.2) (parameter_first (terminals_of c.args.tokens.now) c.args.from room _ (c.in_err-head.ensures room))

pub not_none-requires-clause-inside : goal.not_none-requires-clause-inside
not_none-requires-clause-inside c = inside_tokens c.args.tokens.now _ (c.in_ok-head.ensures 0).within

pub returns-in_err-behind : goal.returns-in_err-behind
returns-in_err-behind c =
    let p = err_from_is_err_and c.from_residual-in_err-behind.result c.from_residual-in_err-behind.ensures.1 in
    λ room. rw (p.1, p.2) (parameter_second (terminals_of c.args.tokens.now) c.args.from _ room _ _ (c.in_ok-head.ensures room) (misread (c.in_err-behind.ensures room)))

pub overflow_cast-result : goal.overflow_cast-result
overflow_cast-result c =
    let inside = inside_tokens c.args.tokens.now c.in_ok-head.head.to (c.in_ok-head.ensures 0).within in
    omega (arith, inside, (maybe_spelled (c.in_ok-head.ensures 0)).1, c.requires.input.input.few)

pub returns-in_err-name : goal.returns-in_err-name
returns-in_err-name c =
    let p = err_from_is_err_and c.from_residual-in_err-name.result c.from_residual-in_err-name.ensures.1 in
    λ room. rw (p.1, p.2) (named_refused Parameter EndsParameter (terminals_of c.args.tokens.now) c.args.from room _ _ _ (maybe_spelled (c.in_ok-head.ensures 0)).0.1 c.in_err-name.ensures)

pub returns : goal.returns
returns c = λ room. parameter_read (terminals_of c.args.tokens.now) c.args.from _ _ room _ c.in_ok-head.head.tree _ _ c.place.ensures (c.in_ok-head.ensures room) c.in_ok-name.ensures (c.in_ok-behind.ensures room)
