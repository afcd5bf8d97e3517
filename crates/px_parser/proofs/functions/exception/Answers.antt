use Rattle.std.proofs.Common.{add-one}
use Rattle.px_base.proofs.Facts.{denied}
use Rattle.px_parser.proofs.SignatureReading.{excepting_reads, noexcept_reads, unwritten_reads}
use Rattle.px_parser.proofs.functions.exception.Goals as goal

pub returns-then-is_keyword : goal.returns-then-is_keyword
returns-then-is_keyword c = λ room. excepting_reads c.args.tokens.now c.args.from _ room c.exception_form.result c.requires.input (c.is_keyword.ensures.0 c.if-is_keyword.true) (add-one c.args.from) (c.exception_form.ensures room)

pub returns-then-is_word : goal.returns-then-is_word
returns-then-is_word c = λ room. noexcept_reads c.args.tokens.now c.args.from _ room c.says.result c.requires.input (c.is_word.ensures.0 c.if-is_word.true) (add-one c.args.from) c.says.ensures

pub returns : goal.returns
returns c = λ room. unwritten_reads c.args.tokens.now c.args.from room c.says-2.result c.requires.inside (denied c.is_word.ensures c.if-is_word.false, denied c.is_keyword.ensures c.if-is_keyword.false) c.says-2.ensures
