use Rattle.std.proofs.lemmas.Result.{err_from_is_err_and}
use Rattle.std.proofs.Common.{add-one}
use Rattle.px_base.proofs.Facts.{denied}
use Rattle.px_parser.proofs.ImportReading.{alias_absent, alias_unread, alias_stuck, alias_read}
use Rattle.px_parser.proofs.imports.alias.Goals as goal

pub returns-then-not-is_keyword : goal.returns-then-not-is_keyword
returns-then-not-is_keyword c = λ room. alias_absent c.args.tokens.now c.args.from room c.requires.inside (denied c.is_keyword.ensures c.if-not-is_keyword.true)

pub returns-in_err-name : goal.returns-in_err-name
returns-in_err-name c =
    let p = err_from_is_err_and c.from_residual.result c.from_residual.ensures.1 in
    λ room. rw (p.1, p.2) (alias_unread c.args.tokens.now c.args.from _ room _ c.requires.input (c.is_keyword.ensures.0 c.if-not-is_keyword.false) (add-one c.args.from) (c.in_err-name.ensures room))

pub returns-then-is_keyword : goal.returns-then-is_keyword
returns-then-is_keyword c = λ room. alias_stuck c.args.tokens.now c.args.from _ _ room _ c.requires.input (c.is_keyword.ensures.0 c.if-not-is_keyword.false) (add-one c.args.from) (c.in_ok-name.ensures room) (c.is_keyword-2.ensures.0 c.if-is_keyword.true)

pub returns : goal.returns
returns c = λ room. alias_read c.args.tokens.now c.args.from _ _ room _ c.requires.input (c.is_keyword.ensures.0 c.if-not-is_keyword.false) (add-one c.args.from) (c.in_ok-name.ensures room) (denied c.is_keyword-2.ensures c.if-is_keyword.false)
