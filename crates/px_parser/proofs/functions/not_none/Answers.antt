use Rattle.std.proofs.Common.{true, false, add-one}
use Rattle.std.proofs.lemmas.Result.{err_from_is_err_and}
use Rattle.px_base.proofs.Facts.{denied}
use Rattle.px_lexer.specs.Terminals.{terminals_of}
use Rattle.px_parser.proofs.FunctionReading.{no_not_none, not_without_none, not_none_reads, not_none_told}
use Rattle.px_parser.proofs.functions.not_none.Goals as goal

pub returns-then-not-is_keyword : goal.returns-then-not-is_keyword
returns-then-not-is_keyword c = λ room. not_none_told (terminals_of c.args.tokens.now) c.args.from c.args.from room false c.keep_before_end.result c.keep_before_end.ensures (no_not_none c.args.tokens.now c.args.from room c.keep_before_end.result c.requires.inside (denied c.is_keyword.ensures c.if-not-is_keyword.true) c.keep_before_end.ensures)

pub returns-in_err-word : goal.returns-in_err-word
returns-in_err-word c =
    let p = err_from_is_err_and c.from_residual.result c.from_residual.ensures.1 in
    λ room. rw (p.1, p.2) (not_without_none c.args.tokens.now c.args.from _ room _ c.requires.input (c.is_keyword.ensures.0 c.if-not-is_keyword.false) (add-one c.args.from) (c.in_err-word.ensures room))

pub returns : goal.returns
returns c = λ room. not_none_told (terminals_of c.args.tokens.now) c.args.from c.in_ok-word.word.to room true c.keep_before_end-2.result c.keep_before_end-2.ensures
    (not_none_reads c.args.tokens.now c.args.from _ _ room c.keep_before_end-2.result c.requires.input (c.is_keyword.ensures.0 c.if-not-is_keyword.false) (add-one c.args.from) (c.in_ok-word.ensures room) c.keep_before_end-2.ensures)
