use Rattle.std.proofs.Common.{arith}
use Rattle.std.proofs.lemmas.Result.{err_from_is_err_and}
use Rattle.px_lexer.specs.declared.spelling.Keyword.TheVariants as word
use Rattle.px_lexer.specs.Terminals.{terminals_of}
use Rattle.px_lexer.proofs.TokenAccess.{length_terminals}
use Rattle.px_parser.proofs.Steps.{fails}
use Rattle.px_parser.proofs.CompoundSteps.{step_while, while_built, number_inside}
use Rattle.px_parser.proofs.blocks.Statements.while_.Goals as goal

pub returns-in_err-found : goal.returns-in_err-found
returns-in_err-found g c =
    let p = err_from_is_err_and c.from_residual.result c.from_residual.ensures.1 in
    rw (p.1, p.2) (fails (step_while (terminals_of c.args.tokens.now) c.args.from c.args.room) c.in_err-found.field-0.0 c.in_err-found.ensures)

pub compound-tree-requires-clause-small : goal.compound-tree-requires-clause-small
compound-tree-requires-clause-small g c = omega (arith, number_inside word.While c.in_ok-found.ensures, c.requires.input.input.few, length_terminals c.args.tokens.now)

pub returns : goal.returns
returns g c = while_built c.in_ok-found.ensures c.compound-tree.ensures.1 c.compound-tree.ensures.2
