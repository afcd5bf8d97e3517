use Rattle.std.proofs.Common.{add-one}
use Rattle.std.proofs.lemmas.Result.{err_from_is_err_and}
use Rattle.px_base.proofs.Facts.{denied}
use Rattle.px_lexer.specs.Terminals.{terminals_of}
use Rattle.px_parser.proofs.SignatureReading.{star_reads, question_unread, question_reads, value_unread, value_reads}
use Rattle.px_parser.proofs.functions.exception_form.Goals as goal

pub returns-then-is_operator : goal.returns-then-is_operator
returns-then-is_operator c = λ room. star_reads c.args.tokens.now c.args.from _ room c.says.result c.requires.input (c.is_operator.ensures.0 c.if-is_operator.true) (add-one c.args.from) c.says.ensures

pub returns-in_err-value : goal.returns-in_err-value
returns-in_err-value c =
    let p = err_from_is_err_and c.from_residual.result c.from_residual.ensures.1 in
    λ room. rw (p.1, p.2) (question_unread c.args.tokens.now c.args.from _ room _ c.requires.input (c.is_operator-2.ensures.0 c.if-is_operator-2.true) (add-one c.args.from) (c.in_err-value.ensures room))

pub returns-then-is_operator-2 : goal.returns-then-is_operator-2
returns-then-is_operator-2 c = λ room. question_reads c.args.tokens.now c.args.from _ _ room _ c.says-then-is_operator-2.result c.requires.input (c.is_operator-2.ensures.0 c.if-is_operator-2.true) (add-one c.args.from) (c.in_ok-value.ensures room) c.says-then-is_operator-2.ensures

pub returns-in_err-value-2 : goal.returns-in_err-value-2
returns-in_err-value-2 c =
    let p = err_from_is_err_and c.from_residual-in_err-value-2.result c.from_residual-in_err-value-2.ensures.1 in
    λ room. rw (p.1, p.2) (value_unread (terminals_of c.args.tokens.now) c.args.from room _ (denied c.is_operator-2.ensures c.if-is_operator-2.false, denied c.is_operator.ensures c.if-is_operator.false) (c.in_err-value-2.ensures room))

pub returns : goal.returns
returns c = λ room. value_reads (terminals_of c.args.tokens.now) c.args.from _ room _ c.says-2.result (denied c.is_operator-2.ensures c.if-is_operator-2.false, denied c.is_operator.ensures c.if-is_operator.false) (c.in_ok-value-2.ensures room) c.says-2.ensures
