use Rattle.std.proofs.Common.{arith}
use Rattle.std.proofs.lemmas.Result.{err_from_is_err_and}
use Rattle.px_lexer.specs.Terminals.{terminals_of}
use Rattle.px_lexer.proofs.TokenAccess.{stands_within}
use Rattle.px_parser.proofs.FunctionReading.{named_memory}
use Rattle.px_parser.proofs.functions.function_with.Goals as goal

pub returns-in_err-name : goal.returns-in_err-name
returns-in_err-name c =
    let p = err_from_is_err_and c.from_residual.result c.from_residual.ensures.1 in
    rw (p.1, p.2) (named_memory (terminals_of c.args.tokens.now) c.args.head.1.1.1 _ _ c.requires.named.1 c.in_err-name.ensures)

pub overflow_cast-result : goal.overflow_cast-result
overflow_cast-result c =
    let named = c.requires.named.1 in
    omega (arith, stands_within c.args.tokens.now c.args.head.1.1.1 named.token named.stands, c.requires.input.input.few)
