use Rattle.std.proofs.Common.{◌+◌, arith}
use Rattle.std.proofs.lemmas.Result.{err_from_is_err_and}
use Rattle.px_lexer.specs.declared.spelling.Operator.TheVariants as sign
use Rattle.px_lexer.specs.declared.token_list.TokenKind.TheVariants as kind
use Rattle.px_exprs.proofs.TokenReading.{goes_on}
use Rattle.px_lexer.proofs.TokenAccess.{name_kind}
use Rattle.px_exprs.proofs.TrailerSteps.{attribute_refused, attribute_read}
use Rattle.px_exprs.proofs.trailers.attribute.Goals as goal

pub overflow_add-from : goal.overflow_add-from
overflow_add-from c = omega (arith, goes_on c.args.tokens.now c.args.from (kind.Operator sign.Point) c.requires.input c.requires.begins (omega arith), c.requires.input.few)

pub returns-in_err-found : goal.returns-in_err-found
returns-in_err-found c =
    let p = err_from_is_err_and c.from_residual.result c.from_residual.ensures.1 in
    rw (p.1, p.2) (attribute_refused c.args.tokens.now c.args.room c.requires.input c.requires.begins c.in_err-found.field-0.0 c.in_err-found.ensures)

pub overflow_add-result : goal.overflow_add-result
overflow_add-result c =
    omega (arith, goes_on c.args.tokens.now (c.args.from + 1) kind.Name c.requires.input (name_kind c.in_ok-found.ensures) (omega arith), c.requires.input.few)

pub returns : goal.returns
returns c = attribute_read c.args.tokens.now c.args.room c.requires.input c.requires.begins c.in_ok-found.ensures
