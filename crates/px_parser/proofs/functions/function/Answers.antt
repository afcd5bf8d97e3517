use Rattle.std.proofs.lemmas.Result.{err_from_is_err_and}
use Rattle.px_lexer.specs.Terminals.{terminals_of}
use Rattle.px_parser.proofs.ReadingSteps.{inside_tokens}
use Rattle.px_exprs.specs.Runs.{nesting_limit}
use Rattle.px_parser.proofs.HeadReading.{head_spelled}
use Rattle.px_parser.proofs.FunctionSteps.{function_decorators, function_head, function_rest, function_read}
use Rattle.px_parser.proofs.functions.function.Goals as goal

pub returns-in_err-decorators : goal.returns-in_err-decorators
returns-in_err-decorators c =
    let p = err_from_is_err_and c.from_residual.result c.from_residual.ensures.1 in
    rw (p.1, p.2) (function_decorators (terminals_of c.args.tokens.now) c.args.from nesting_limit _ (c.in_err-decorators.ensures nesting_limit))

pub head-requires-clause-inside : goal.head-requires-clause-inside
head-requires-clause-inside c = inside_tokens c.args.tokens.now _ (c.in_ok-decorators.ensures 0).within

pub returns-in_err-head : goal.returns-in_err-head
returns-in_err-head c =
    let p = err_from_is_err_and c.from_residual-in_err-head.result c.from_residual-in_err-head.ensures.1 in
    rw (p.1, p.2) (function_head (terminals_of c.args.tokens.now) c.args.from _ nesting_limit _ _ (c.in_ok-decorators.ensures nesting_limit) (c.in_err-head.ensures nesting_limit))

pub rest-requires-clause-inside : goal.rest-requires-clause-inside
rest-requires-clause-inside c = inside_tokens c.args.tokens.now _ (c.in_ok-head.ensures 0).within

pub returns-in_err-rest : goal.returns-in_err-rest
returns-in_err-rest c =
    let p = err_from_is_err_and c.from_residual-in_err-rest.result c.from_residual-in_err-rest.ensures.1 in
    rw (p.1, p.2) (function_rest (terminals_of c.args.tokens.now) c.args.from _ _ nesting_limit _ _ _ (c.in_ok-decorators.ensures nesting_limit) (c.in_ok-head.ensures nesting_limit) c.in_err-rest.ensures)

pub function_with-requires-clause-headed : goal.function_with-requires-clause-headed
function_with-requires-clause-headed c = inside_tokens c.args.tokens.now _ (c.in_ok-decorators.ensures 0).within

pub function_with-requires-clause-named : goal.function_with-requires-clause-named
function_with-requires-clause-named c = head_spelled (c.in_ok-head.ensures 0)

pub returns : goal.returns
returns c =
    let made = c.in_ok-tree.ensures in
    rw made.6 (function_read (terminals_of c.args.tokens.now) c.args.from _ _ _ nesting_limit made.0 made.1 _ _ made.2 _ made.3 made.4 (c.in_ok-decorators.ensures nesting_limit) (c.in_ok-head.ensures nesting_limit) made.5 c.in_ok-rest.ensures)
