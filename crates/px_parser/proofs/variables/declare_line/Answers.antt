use Rattle.std.proofs.Common.{arith}
use Rattle.std.proofs.lemmas.Result.{err_from_is_err_and}
use Rattle.px_lexer.specs.Terminals.{terminals_of}
use Rattle.px_lexer.proofs.TokenAccess.{length_terminals}
use Rattle.px_parser.proofs.TokenShapes.{misread}
use Rattle.px_parser.proofs.TokenSteps.{reading_inside}
use Rattle.px_parser.proofs.DeclareReading.{declared_inside, line_word_refused, line_declared_refused, line_read}
use Rattle.px_parser.proofs.variables.declare_line.Goals as goal

pub returns-in_err-word : goal.returns-in_err-word
returns-in_err-word c =
    let p = err_from_is_err_and c.from_residual.result c.from_residual.ensures.1 in
    λ room. rw (p.1, p.2) (line_word_refused (terminals_of c.args.tokens.now) c.args.from room _ (misread (c.in_err-word.ensures room)))

pub declared_variables-requires-clause-inside : goal.declared_variables-requires-clause-inside
declared_variables-requires-clause-inside c = reading_inside c.args.tokens.now (c.in_ok-word.ensures 0)

pub returns-in_err-found : goal.returns-in_err-found
returns-in_err-found c =
    let p = err_from_is_err_and c.from_residual-in_err-found.result c.from_residual-in_err-found.ensures.1 in
    λ room. rw (p.1, p.2) (line_declared_refused (terminals_of c.args.tokens.now) c.args.from _ room _ (c.in_ok-word.ensures room) (c.in_err-found.ensures room))

pub declare_node-requires-clause-small : goal.declare_node-requires-clause-small
declare_node-requires-clause-small c = omega (arith, declared_inside (terminals_of c.args.tokens.now) _ _ 0 _ (c.in_ok-found.ensures 0), length_terminals c.args.tokens.now, c.requires.input.input.few)

pub returns : goal.returns
returns c = λ room. line_read (terminals_of c.args.tokens.now) c.args.from _ _ room _ _ (c.in_ok-word.ensures room) (c.in_ok-found.ensures room) c.declare_node.ensures
