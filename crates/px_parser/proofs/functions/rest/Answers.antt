use Rattle.std.proofs.lemmas.Result.{err_from_is_err_and}
use Rattle.px_lexer.specs.Terminals.{terminals_of}
use Rattle.px_parser.proofs.TokenShapes.{misread}
use Rattle.px_parser.proofs.ReadingSteps.{inside_tokens}
use Rattle.px_exprs.specs.Runs.{nesting_limit}
use Rattle.px_parser.proofs.FunctionSteps.{rest_opening, rest_parameters, rest_closing, rest_tail, rest_colon, rest_body, rest_read}
use Rattle.px_parser.proofs.functions.rest.Goals as goal

pub returns-in_err-opening : goal.returns-in_err-opening
returns-in_err-opening c =
    let p = err_from_is_err_and c.from_residual.result c.from_residual.ensures.1 in
    rw (p.1, p.2) (rest_opening c.args.kind (terminals_of c.args.tokens.now) c.args.from nesting_limit _ (misread (c.in_err-opening.ensures nesting_limit)))

pub parameters-requires-clause-inside : goal.parameters-requires-clause-inside
parameters-requires-clause-inside c = inside_tokens c.args.tokens.now _ (c.in_ok-opening.ensures 0).within

pub returns-in_err-params : goal.returns-in_err-params
returns-in_err-params c =
    let p = err_from_is_err_and c.from_residual-in_err-params.result c.from_residual-in_err-params.ensures.1 in
    rw (p.1, p.2) (rest_parameters c.args.kind (terminals_of c.args.tokens.now) c.args.from _ nesting_limit _ (c.in_ok-opening.ensures nesting_limit) (c.in_err-params.ensures nesting_limit))

pub operator-requires-2-clause-inside : goal.operator-requires-2-clause-inside
operator-requires-2-clause-inside c = inside_tokens c.args.tokens.now _ (c.in_ok-params.ensures 0).within

pub returns-in_err-closing : goal.returns-in_err-closing
returns-in_err-closing c =
    let p = err_from_is_err_and c.from_residual-in_err-closing.result c.from_residual-in_err-closing.ensures.1 in
    rw (p.1, p.2) (rest_closing c.args.kind (terminals_of c.args.tokens.now) c.args.from _ _ nesting_limit _ _ (c.in_ok-opening.ensures nesting_limit) (c.in_ok-params.ensures nesting_limit) (misread (c.in_err-closing.ensures nesting_limit)))

pub tail-requires-clause-inside : goal.tail-requires-clause-inside
tail-requires-clause-inside c = inside_tokens c.args.tokens.now _ (c.in_ok-closing.ensures 0).within

pub returns-in_err-tail : goal.returns-in_err-tail
returns-in_err-tail c =
    let p = err_from_is_err_and c.from_residual-in_err-tail.result c.from_residual-in_err-tail.ensures.1 in
    rw (p.1, p.2) (rest_tail c.args.kind (terminals_of c.args.tokens.now) c.args.from _ _ _ nesting_limit _ _ (c.in_ok-opening.ensures nesting_limit) (c.in_ok-params.ensures nesting_limit) (c.in_ok-closing.ensures nesting_limit) (c.in_err-tail.ensures nesting_limit))

pub operator-requires-3-clause-inside : goal.operator-requires-3-clause-inside
operator-requires-3-clause-inside c = inside_tokens c.args.tokens.now _ (c.in_ok-tail.ensures 0).within

pub returns-in_err-colon : goal.returns-in_err-colon
returns-in_err-colon c =
    let p = err_from_is_err_and c.from_residual-in_err-colon.result c.from_residual-in_err-colon.ensures.1 in
    rw (p.1, p.2) (rest_colon c.args.kind (terminals_of c.args.tokens.now) c.args.from _ _ _ _ nesting_limit _ _ _ (c.in_ok-opening.ensures nesting_limit) (c.in_ok-params.ensures nesting_limit) (c.in_ok-closing.ensures nesting_limit) (c.in_ok-tail.ensures nesting_limit) (misread (c.in_err-colon.ensures nesting_limit)))

pub block-requires-clause-inside : goal.block-requires-clause-inside
block-requires-clause-inside c = inside_tokens c.args.tokens.now _ (c.in_ok-colon.ensures 0).within

pub returns-in_err-body : goal.returns-in_err-body
returns-in_err-body c =
    let p = err_from_is_err_and c.from_residual-in_err-body.result c.from_residual-in_err-body.ensures.1 in
    rw (p.1, p.2) (rest_body c.args.kind (terminals_of c.args.tokens.now) c.args.from _ _ _ _ _ nesting_limit _ _ _ (c.in_ok-opening.ensures nesting_limit) (c.in_ok-params.ensures nesting_limit) (c.in_ok-closing.ensures nesting_limit) (c.in_ok-tail.ensures nesting_limit) (c.in_ok-colon.ensures nesting_limit) c.in_err-body.ensures)

pub returns : goal.returns
returns c = rest_read c.args.kind (terminals_of c.args.tokens.now) c.args.from _ _ _ _ _ _ nesting_limit _ _ _ (c.in_ok-opening.ensures nesting_limit) (c.in_ok-params.ensures nesting_limit) (c.in_ok-closing.ensures nesting_limit) (c.in_ok-tail.ensures nesting_limit) (c.in_ok-colon.ensures nesting_limit) c.in_ok-body.ensures
