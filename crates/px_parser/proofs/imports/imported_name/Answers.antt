use Rattle.std.proofs.lemmas.Result.{err_from_is_err_and}
use Rattle.px_lexer.specs.Terminals.{terminals_of}
use Rattle.px_parser.proofs.ReadingSteps.{inside_tokens}
use Rattle.px_parser.proofs.ImportReading.{imported_first, imported_second, imported_read}
use Rattle.px_parser.proofs.imports.imported_name.Goals as goal

pub returns-in_err-name : goal.returns-in_err-name
returns-in_err-name c =
    let p = err_from_is_err_and c.from_residual.result c.from_residual.ensures.1 in
    λ room. rw (p.1, p.2) (imported_first (terminals_of c.args.tokens.now) c.args.from room _ (c.in_err-name.ensures room))

pub returns : goal.returns
returns c = λ room. imported_read c.place.ensures (c.in_ok-name.ensures room) (c.in_ok-other.ensures room)

pub alias-requires-clause-inside : goal.alias-requires-clause-inside
alias-requires-clause-inside c = inside_tokens c.args.tokens.now _ (c.in_ok-name.ensures 0).within

pub returns-in_err-other : goal.returns-in_err-other
returns-in_err-other c =
    let p = err_from_is_err_and c.from_residual-in_err-other.result c.from_residual-in_err-other.ensures.1 in
    λ room. rw (p.1, p.2) (imported_second (terminals_of c.args.tokens.now) c.args.from _ room _ _ (c.in_ok-name.ensures room) (c.in_err-other.ensures room))
