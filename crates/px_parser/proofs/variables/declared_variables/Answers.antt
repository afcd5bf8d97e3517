use Rattle.std.proofs.lemmas.Result.{err_from_is_err_and}
use Rattle.px_lexer.specs.Terminals.{terminals_of}
use Rattle.px_parser.proofs.TokenSteps.{reading_inside}
use Rattle.px_parser.proofs.DeclareReading.{declared_type_refused, declared_rest_refused, typed_named, declared_read}
use Rattle.px_parser.proofs.variables.declared_variables.Goals as goal

pub returns-in_err-typing : goal.returns-in_err-typing
returns-in_err-typing c =
    let p = err_from_is_err_and c.from_residual.result c.from_residual.ensures.1 in
    λ room. rw (p.1, p.2) (declared_type_refused (terminals_of c.args.tokens.now) c.args.from room _ (c.in_err-typing.ensures room))

pub decl_rest-requires-clause-inside : goal.decl_rest-requires-clause-inside
decl_rest-requires-clause-inside c = reading_inside c.args.tokens.now (c.in_ok-typing.ensures 0)

pub returns-in_err-value : goal.returns-in_err-value
returns-in_err-value c =
    let p = err_from_is_err_and c.from_residual-in_err-value.result c.from_residual-in_err-value.ensures.1 in
    λ room. rw (p.1, p.2) (declared_rest_refused (terminals_of c.args.tokens.now) c.args.from _ room _ _ (c.in_ok-typing.ensures room) (c.in_err-value.ensures room))

pub variables-requires-clause-named : goal.variables-requires-clause-named
variables-requires-clause-named c = typed_named (terminals_of c.args.tokens.now) c.args.from _ 0 _ (c.in_ok-typing.ensures 0)

pub returns : goal.returns
returns c = λ room. declared_read (terminals_of c.args.tokens.now) c.args.from _ _ room _ _ _ (c.in_ok-typing.ensures room) (c.in_ok-value.ensures room) c.in_ok-names.ensures
