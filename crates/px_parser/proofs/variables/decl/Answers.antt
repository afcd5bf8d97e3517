use Rattle.std.proofs.lemmas.Result.{err_from_is_err_and}
use Rattle.px_lexer.specs.Terminals.{terminals_of}
use Rattle.px_parser.proofs.TokenSteps.{reading_inside}
use Rattle.px_parser.proofs.VariableReading.{decl_name_refused, decl_value_refused, decl_read}
use Rattle.px_parser.proofs.variables.decl.Goals as goal

pub returns-in_err-name : goal.returns-in_err-name
returns-in_err-name c =
    let p = err_from_is_err_and c.from_residual.result c.from_residual.ensures.1 in
    λ room. rw (p.1, p.2) (decl_name_refused (terminals_of c.args.tokens.now) c.args.from room _ (c.in_err-name.ensures room))

pub initial_value-requires-clause-inside : goal.initial_value-requires-clause-inside
initial_value-requires-clause-inside c = reading_inside c.args.tokens.now (c.in_ok-name.ensures 0)

pub returns-in_err-value : goal.returns-in_err-value
returns-in_err-value c =
    let p = err_from_is_err_and c.from_residual-in_err-value.result c.from_residual-in_err-value.ensures.1 in
    λ room. rw (p.1, p.2) (decl_value_refused (terminals_of c.args.tokens.now) c.args.from _ room _ _ (c.in_ok-name.ensures room) (c.in_err-value.ensures room))

pub returns : goal.returns
returns c = λ room. rw c.unbox.ensures (decl_read (terminals_of c.args.tokens.now) c.args.from _ _ room _ _ _ (c.in_ok-name.ensures room) (c.in_ok-value.ensures room) c.place.ensures)
