use Rattle.std.proofs.Common.{arith}
use Rattle.std.proofs.lemmas.Result.{err_from_is_err_and}
use Rattle.px_lexer.proofs.TokenAccess.{stands_within}
use Rattle.px_parser.proofs.VariableReading.{name_memory}
use Rattle.px_parser.proofs.variables.variables.Goals as goal

pub overflow_cast-number : goal.overflow_cast-number
overflow_cast-number c = omega (arith, stands_within c.args.tokens.now c.args.number c.requires.named.1.token c.requires.named.1.stands, c.requires.input.input.few)

pub place-requires : goal.place-requires
place-requires c = stands_within c.args.tokens.now c.args.number c.requires.named.1.token c.requires.named.1.stands

pub returns-in_err-name : goal.returns-in_err-name
returns-in_err-name c =
    let p = err_from_is_err_and c.from_residual-in_err-name.result c.from_residual-in_err-name.ensures.1 in
    rw (p.1, p.2) (name_memory _ c.requires.named c.in_err-name.ensures)
