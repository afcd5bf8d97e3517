use Rattle.std.proofs.Common.{◌≤◌, suc, length, refl, arith}
use Rattle.std.proofs.lemmas.Result.{err_from_is_err_and}
use Rattle.px_lexer.specs.declared.spelling.Operator.TheVariants as sign
use Rattle.px_lexer.specs.declared.token_list.TokenKind.TheVariants as kind
use Rattle.px_exprs.specs.Grammar.{AreExprs}
use Rattle.px_lexer.specs.Terminals.{terminals_of}
use Rattle.px_exprs.proofs.TokenReading.{goes_on}
use Rattle.px_lexer.proofs.TokenAccess.{length_terminals}
use Rattle.px_exprs.proofs.AtomSteps.{enclosed_read, bracket_over, bracket_refused, behind_bracket, way_listed, tuple_enclosed, tuple_atom}
use Rattle.px_exprs.proofs.grammar.Grammar.parentheses.Goals as goal

pub returns-in_err-room : goal.returns-in_err-room
returns-in_err-room g c =
    let ts = terminals_of c.args.tokens.now in
    let p = err_from_is_err_and c.from_residual.result c.from_residual.ensures.1 in
    let inside : suc c.args.from ≤ length ts = omega (arith, c.requires.inside, length_terminals c.args.tokens.now) in
    rw (p.1, p.2) (bracket_over tuple_enclosed c.requires.begins (way_listed AreExprs ts (suc c.args.from) inside) c.in_err-room.field-0.0 c.in_err-room.ensures)

pub exprs-requires-clause-inside : goal.exprs-requires-clause-inside
exprs-requires-clause-inside g c = omega (arith, goes_on c.args.tokens.now c.args.from (kind.Operator sign.OpenParenthesis) c.requires.input c.requires.begins (omega arith))

pub returns-in_err-found : goal.returns-in_err-found
returns-in_err-found g c =
    let p = err_from_is_err_and c.from_residual-in_err-found.result c.from_residual-in_err-found.ensures.1 in
    rw (p.1, p.2) (bracket_refused tuple_enclosed c.requires.begins c.in_ok-room.ensures.1 c.in_err-found.field-0.0 c.in_err-found.ensures)

pub overflow_add-result-2 : goal.overflow_add-result-2
overflow_add-result-2 g c = omega (arith, c.in_ok-found.ensures.within, length_terminals c.args.tokens.now, c.requires.input.few)

pub returns : goal.returns
returns g c =
    let found = c.in_ok-found.ensures in
    enclosed_read c.args.tokens.now c.requires.input (omega arith) found c.in_ok-room.ensures.1 refl refl (tuple_atom c.requires.begins (behind_bracket found) found.stops c.parenthesize.ensures)
