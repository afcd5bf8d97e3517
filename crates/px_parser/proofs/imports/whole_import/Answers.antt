use Rattle.std.proofs.lemmas.Result.{err_from_is_err_and}
use Rattle.px_base.proofs.Facts.{denied}
use Rattle.px_lexer.specs.Terminals.{terminals_of}
use Rattle.px_parser.proofs.TokenShapes.{misread}
use Rattle.px_parser.proofs.ReadingSteps.{inside_tokens}
use Rattle.px_parser.proofs.ImportReading.{whole_first, whole_names, whole_alias, whole_stuck, whole_read}
use Rattle.px_parser.proofs.imports.whole_import.Goals as goal

pub returns-in_err-word : goal.returns-in_err-word
returns-in_err-word c =
    let p = err_from_is_err_and c.from_residual.result c.from_residual.ensures.1 in
    λ room. rw (p.1, p.2) (whole_first (terminals_of c.args.tokens.now) c.args.from room _ (misread (c.in_err-word.ensures room)))

pub names-requires-clause-inside : goal.names-requires-clause-inside
names-requires-clause-inside c = inside_tokens c.args.tokens.now _ (c.in_ok-word.ensures 0).within

pub returns-in_err-module : goal.returns-in_err-module
returns-in_err-module c =
    let p = err_from_is_err_and c.from_residual-in_err-module.result c.from_residual-in_err-module.ensures.1 in
    λ room. rw (p.1, p.2) (whole_names (terminals_of c.args.tokens.now) c.args.from _ room _ _ (c.in_ok-word.ensures room) (c.in_err-module.ensures room))

pub alias-requires-clause-inside : goal.alias-requires-clause-inside
alias-requires-clause-inside c = inside_tokens c.args.tokens.now _ (c.in_ok-module.ensures 0).within

pub returns-in_err-other : goal.returns-in_err-other
returns-in_err-other c =
    let p = err_from_is_err_and c.from_residual-in_err-other.result c.from_residual-in_err-other.ensures.1 in
    λ room. rw (p.1, p.2) (whole_alias (terminals_of c.args.tokens.now) c.args.from _ _ room _ _ _ (c.in_ok-word.ensures room) (c.in_ok-module.ensures room) (c.in_err-other.ensures room))

pub returns-then-is_newline : goal.returns-then-is_newline
returns-then-is_newline c = λ room. whole_read (terminals_of c.args.tokens.now) c.args.from _ _ _ room _ _ _ (c.in_ok-word.ensures room) (c.in_ok-module.ensures room) (c.in_ok-other.ensures room) (c.is_newline.ensures.0 c.if-is_newline.true)

pub returns-else-is_newline : goal.returns-else-is_newline
returns-else-is_newline c = λ room. whole_stuck (terminals_of c.args.tokens.now) c.args.from _ _ _ room _ _ _ (c.in_ok-word.ensures room) (c.in_ok-module.ensures room) (c.in_ok-other.ensures room) (denied c.is_newline.ensures c.if-is_newline.false)
