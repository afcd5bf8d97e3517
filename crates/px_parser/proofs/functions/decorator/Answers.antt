use Rattle.std.proofs.lemmas.Result.{err_from_is_err_and}
use Rattle.px_lexer.specs.Terminals.{terminals_of}
use Rattle.px_parser.proofs.TokenShapes.{misread}
use Rattle.px_parser.proofs.ReadingSteps.{inside_tokens}
use Rattle.px_parser.proofs.FunctionReading.{decorator_sign, decorator_name, decorator_opening, decorator_value, decorator_closing, decorator_end, decorator_read}
use Rattle.px_parser.proofs.functions.decorator.Goals as goal

pub returns-in_err-sign : goal.returns-in_err-sign
returns-in_err-sign c =
    let p = err_from_is_err_and c.from_residual.result c.from_residual.ensures.1 in
    λ room. rw (p.1, p.2) (decorator_sign (terminals_of c.args.tokens.now) c.args.from room _ (misread (c.in_err-sign.ensures room)))

pub names-requires-clause-inside : goal.names-requires-clause-inside
names-requires-clause-inside c = inside_tokens c.args.tokens.now _ (c.in_ok-sign.ensures 0).within

pub returns-in_err-name : goal.returns-in_err-name
returns-in_err-name c =
    let p = err_from_is_err_and c.from_residual-in_err-name.result c.from_residual-in_err-name.ensures.1 in
    λ room. rw (p.1, p.2) (decorator_name (terminals_of c.args.tokens.now) c.args.from _ room _ (c.in_ok-sign.ensures room) (c.in_err-name.ensures room))

pub operator-requires-2-clause-inside : goal.operator-requires-2-clause-inside
operator-requires-2-clause-inside c = inside_tokens c.args.tokens.now _ (c.in_ok-name.ensures 0).within

pub returns-in_err-opening : goal.returns-in_err-opening
returns-in_err-opening c =
    let p = err_from_is_err_and c.from_residual-in_err-opening.result c.from_residual-in_err-opening.ensures.1 in
    λ room. rw (p.1, p.2) (decorator_opening (terminals_of c.args.tokens.now) c.args.from _ _ room _ _ (c.in_ok-sign.ensures room) (c.in_ok-name.ensures room) (misread (c.in_err-opening.ensures room)))

pub truth-requires-clause-inside : goal.truth-requires-clause-inside
truth-requires-clause-inside c = inside_tokens c.args.tokens.now _ (c.in_ok-opening.ensures 0).within

pub returns-in_err-value : goal.returns-in_err-value
returns-in_err-value c =
    let p = err_from_is_err_and c.from_residual-in_err-value.result c.from_residual-in_err-value.ensures.1 in
    λ room. rw (p.1, p.2) (decorator_value (terminals_of c.args.tokens.now) c.args.from _ _ _ room _ _ (c.in_ok-sign.ensures room) (c.in_ok-name.ensures room) (c.in_ok-opening.ensures room) (misread (c.in_err-value.ensures room)))

pub operator-requires-3-clause-inside : goal.operator-requires-3-clause-inside
operator-requires-3-clause-inside c = inside_tokens c.args.tokens.now _ (c.in_ok-value.ensures 0).within

pub returns-in_err-closing : goal.returns-in_err-closing
returns-in_err-closing c =
    let p = err_from_is_err_and c.from_residual-in_err-closing.result c.from_residual-in_err-closing.ensures.1 in
    λ room. rw (p.1, p.2) (decorator_closing (terminals_of c.args.tokens.now) c.args.from _ _ _ _ room _ _ _ (c.in_ok-sign.ensures room) (c.in_ok-name.ensures room) (c.in_ok-opening.ensures room) (c.in_ok-value.ensures room) (misread (c.in_err-closing.ensures room)))

pub newline-requires-clause-inside : goal.newline-requires-clause-inside
newline-requires-clause-inside c = inside_tokens c.args.tokens.now _ (c.in_ok-closing.ensures 0).within

pub returns-in_err-end : goal.returns-in_err-end
returns-in_err-end c =
    let p = err_from_is_err_and c.from_residual-in_err-end.result c.from_residual-in_err-end.ensures.1 in
    λ room. rw (p.1, p.2) (decorator_end (terminals_of c.args.tokens.now) c.args.from _ _ _ _ _ room _ _ _ (c.in_ok-sign.ensures room) (c.in_ok-name.ensures room) (c.in_ok-opening.ensures room) (c.in_ok-value.ensures room) (c.in_ok-closing.ensures room) (misread (c.in_err-end.ensures room)))

pub place-requires-2 : goal.place-requires-2
place-requires-2 c = inside_tokens c.args.tokens.now _ (c.in_ok-sign.ensures 0).within

pub returns : goal.returns
returns c = λ room. decorator_read (terminals_of c.args.tokens.now) c.args.from _ _ _ _ _ _ room _ _ _ _ c.place.ensures c.place-2.ensures (c.in_ok-sign.ensures room) (c.in_ok-name.ensures room) (c.in_ok-opening.ensures room) (c.in_ok-value.ensures room) (c.in_ok-closing.ensures room) (c.in_ok-end.ensures room)
