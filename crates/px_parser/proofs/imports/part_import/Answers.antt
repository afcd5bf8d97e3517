use Rattle.std.proofs.lemmas.Result.{err_from_is_err_and}
use Rattle.px_lexer.specs.Terminals.{terminals_of}
use Rattle.px_parser.proofs.TokenShapes.{misread}
use Rattle.px_parser.proofs.ReadingSteps.{inside_tokens}
use Rattle.px_parser.proofs.ImportReading.{part_first, part_module, part_word, part_names, part_read}
use Rattle.px_parser.proofs.imports.part_import.Goals as goal

pub returns-in_err-first : goal.returns-in_err-first
returns-in_err-first c =
    let p = err_from_is_err_and c.from_residual.result c.from_residual.ensures.1 in
    λ room. rw (p.1, p.2) (part_first (terminals_of c.args.tokens.now) c.args.from room _ (misread (c.in_err-first.ensures room)))

pub names-requires-clause-inside : goal.names-requires-clause-inside
names-requires-clause-inside c = inside_tokens c.args.tokens.now _ (c.in_ok-first.ensures 0).within

pub returns-in_err-module : goal.returns-in_err-module
returns-in_err-module c =
    let p = err_from_is_err_and c.from_residual-in_err-module.result c.from_residual-in_err-module.ensures.1 in
    λ room. rw (p.1, p.2) (part_module (terminals_of c.args.tokens.now) c.args.from _ room _ (c.in_ok-first.ensures room) (c.in_err-module.ensures room))

pub import_word-requires-clause-inside : goal.import_word-requires-clause-inside
import_word-requires-clause-inside c = inside_tokens c.args.tokens.now _ (c.in_ok-module.ensures 0).within

pub returns-in_err-word : goal.returns-in_err-word
returns-in_err-word c =
    let p = err_from_is_err_and c.from_residual-in_err-word.result c.from_residual-in_err-word.ensures.1 in
    λ room. rw (p.1, p.2) (part_word (terminals_of c.args.tokens.now) c.args.from _ _ room _ _ (c.in_ok-first.ensures room) (c.in_ok-module.ensures room) (misread (c.in_err-word.ensures room)))

pub imported_names-requires-clause-inside : goal.imported_names-requires-clause-inside
imported_names-requires-clause-inside c = inside_tokens c.args.tokens.now _ (c.in_ok-word.ensures 0).within

pub returns-in_err-found : goal.returns-in_err-found
returns-in_err-found c =
    let p = err_from_is_err_and c.from_residual-in_err-found.result c.from_residual-in_err-found.ensures.1 in
    λ room. rw (p.1, p.2) (part_names (terminals_of c.args.tokens.now) c.args.from _ _ _ room _ _ _ (c.in_ok-first.ensures room) (c.in_ok-module.ensures room) (c.in_ok-word.ensures room) (c.in_err-found.ensures room))

pub returns : goal.returns
returns c = λ room. part_read (terminals_of c.args.tokens.now) c.args.from _ _ _ _ room _ _ _ (c.in_ok-first.ensures room) (c.in_ok-module.ensures room) (c.in_ok-word.ensures room) (c.in_ok-found.ensures room)
