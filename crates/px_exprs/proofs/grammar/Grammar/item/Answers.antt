use Rattle.std.proofs.lemmas.Result.{err_from_is_err_and}
use Rattle.px_base.proofs.Facts.{denied}
use Rattle.px_lexer.specs.Terminals.{terminals_of}
use Rattle.px_exprs.proofs.Steps.{fails}
use Rattle.px_exprs.proofs.ItemSteps.{first_bound, dots_stuck, dots_read, indexed, nothing_read}
use Rattle.px_exprs.proofs.grammar.Grammar.item.Goals as goal

pub returns-then-not-ends_element : goal.returns-then-not-ends_element
returns-then-not-ends_element g c =
    let dots = c.is_operator.ensures.0 c.if-is_operator.true in
    dots_stuck c.args.tokens.now c.args.room c.requires.input dots (denied c.ends_element.ensures c.if-not-ends_element.true)

pub returns-then-is_operator : goal.returns-then-is_operator
returns-then-is_operator g c =
    let dots = c.is_operator.ensures.0 c.if-is_operator.true in
    dots_read c.args.tokens.now c.args.room c.requires.input dots (c.ends_element.ensures.0 c.if-not-ends_element.false)

pub returns-in_err-first : goal.returns-in_err-first
returns-in_err-first g c =
    let p = err_from_is_err_and c.from_residual.result c.from_residual.ensures.1 in
    rw (p.1, p.2) (fails (first_bound (terminals_of c.args.tokens.now) c.args.from c.args.room (denied c.is_operator.ensures c.if-is_operator.false)) c.in_err-first.field-0.0 c.in_err-first.ensures)

pub returns-in-Some : goal.returns-in-Some
returns-in-Some g c = rw c.into_inner.ensures (indexed c.in_ok-first.ensures (denied c.is_operator-2.ensures c.if-is_operator-2.false) c.in-Some.is)

pub returns-in-None : goal.returns-in-None
returns-in-None g c = nothing_read c.in_ok-first.ensures (denied c.is_operator-2.ensures c.if-is_operator-2.false) c.in-None.is
