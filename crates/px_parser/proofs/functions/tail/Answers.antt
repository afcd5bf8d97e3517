use Rattle.std.proofs.Common.{sym, ◌∙◌}
use Rattle.std.proofs.lemmas.Result.{err_from_is_err_and}
use Rattle.px_base.proofs.Facts.{denied}
use Rattle.px_lexer.specs.Terminals.{terminals_of}
use Rattle.px_parser.proofs.TokenShapes.{misread}
use Rattle.px_parser.proofs.ReadingSteps.{inside_tokens}
use Rattle.px_parser.proofs.SignatureReading.{told_def, told_other, tail_first, tail_second, tail_read, def_tail_read, def_tail_stuck}
use Rattle.px_parser.proofs.functions.tail.Goals as goal

pub returns-then-is_operator : goal.returns-then-is_operator
returns-then-is_operator c = λ room. rw c.in_ok-unwritten.ensures (def_tail_read c.args.which c.args.tokens.now c.args.from room (told_def c.args.which (sym c.eq.ensures ∙ c.if-eq.true)) c.requires.inside (c.is_operator.ensures.0 c.if-is_operator.true))

pub returns-then-eq : goal.returns-then-eq
returns-then-eq c = λ room. def_tail_stuck c.args.which c.args.tokens.now c.args.from room (told_def c.args.which (sym c.eq.ensures ∙ c.if-eq.true)) c.requires.inside (denied c.is_operator.ensures c.if-is_operator.false)

pub returns-in_err-exception : goal.returns-in_err-exception
returns-in_err-exception c =
    let p = err_from_is_err_and c.from_residual-in_err-exception.result c.from_residual-in_err-exception.ensures.1 in
    λ room. rw (p.1, p.2) (tail_first c.args.which (terminals_of c.args.tokens.now) c.args.from room _ (told_other c.args.which (sym c.eq.ensures ∙ c.if-eq.false)) (c.in_err-exception.ensures room))

pub lock_form-requires-clause-inside : goal.lock_form-requires-clause-inside
lock_form-requires-clause-inside c = inside_tokens c.args.tokens.now _ (c.in_ok-exception.ensures 0).within

pub returns-in_err-lock : goal.returns-in_err-lock
returns-in_err-lock c =
    let p = err_from_is_err_and c.from_residual-in_err-lock.result c.from_residual-in_err-lock.ensures.1 in
    λ room. rw (p.1, p.2) (tail_second c.args.which (terminals_of c.args.tokens.now) c.args.from _ room _ _ (told_other c.args.which (sym c.eq.ensures ∙ c.if-eq.false)) (c.in_ok-exception.ensures room) (misread (c.in_err-lock.ensures room)))

pub returns : goal.returns
returns c = λ room. rw c.in_ok-exception_tree.ensures (tail_read c.args.which (terminals_of c.args.tokens.now) c.args.from _ _ room _ _ (told_other c.args.which (sym c.eq.ensures ∙ c.if-eq.false)) (c.in_ok-exception.ensures room) (c.in_ok-lock.ensures room))
