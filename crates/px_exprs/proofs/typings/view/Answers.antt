use Rattle.std.proofs.Common.{◌+◌, refl, sym, subst, add-one, arith}
use Rattle.std.proofs.lemmas.Result.{err_from_is_err_and}
use Rattle.px_base.proofs.Facts.{denied}
use Rattle.px_lexer.specs.declared.spelling.Operator.TheVariants as sign
use Rattle.px_lexer.specs.declared.token_list.TokenKind.TheVariants as kind
use Rattle.px_lexer.specs.Terminals.{HasKind, terminals_of}
use Rattle.px_exprs.specs.Readings.{IsStuck, At}
use Rattle.px_exprs.specs.Typings.{AreAxes, HasAxes}
use Rattle.px_exprs.proofs.TokenReading.{goes_on}
use Rattle.px_lexer.proofs.TokenAccess.{length_terminals, stands_within}
use Rattle.px_exprs.proofs.TypeReading.{view_stuck, view_end_stuck, room_unread, view_axes_unread}
use Rattle.px_exprs.proofs.typings.view.Goals as goal

pub returns-then-not-is_operator : goal.returns-then-not-is_operator
returns-then-not-is_operator c =
    let tokens = c.args.tokens.now in
    view_stuck (terminals_of tokens) c.args.from c.args.room c.args.closing (omega (arith, length_terminals tokens, c.requires.inside)) (denied c.is_operator.ensures c.if-is_operator.false)
    (denied c.is_operator-2.ensures c.if-not-is_operator.true)

pub returns-in_err-room_within : goal.returns-in_err-room_within
returns-in_err-room_within c =
    let tokens = c.args.tokens.now in
    let p = err_from_is_err_and c.from_residual.result c.from_residual.ensures.1 in
    let opened = c.is_operator-2.ensures.0 c.if-not-is_operator.false in
    let over = c.in_err-room_within.ensures in
    rw (p.1, p.2) (room_unread (terminals_of tokens) c.args.from c.args.room c.args.closing c.in_err-room_within.field-0.0
    (omega (arith, length_terminals tokens, c.requires.inside)) c.requires.closes opened over.0 over.1)

pub axes-requires-clause-inside : goal.axes-requires-clause-inside
axes-requires-clause-inside c =
    let opened = c.is_operator-2.ensures.0 c.if-not-is_operator.false in
    omega (arith, goes_on c.args.tokens.now c.args.from (kind.Operator sign.OpenBracket) c.requires.input opened (omega arith))

pub returns-in_err-axes : goal.returns-in_err-axes
returns-in_err-axes c =
    let p = err_from_is_err_and c.from_residual-in_err-axes.result c.from_residual-in_err-axes.ensures.1 in
    let opened = c.is_operator-2.ensures.0 c.if-not-is_operator.false in
    rw (p.1, p.2) (view_axes_unread (terminals_of c.args.tokens.now) c.args.from (c.args.from + 1) c.args.room c.args.closing c.in_err-axes.field-0.0
    (add-one c.args.from) c.requires.closes c.in_ok-room_within.ensures.0 opened c.in_err-axes.ensures)

pub overflow_add-to : goal.overflow_add-to
overflow_add-to c = omega (arith, c.in_ok-axes.ensures.within, length_terminals c.args.tokens.now, c.requires.input.few)

pub returns-then-is_operator-2 : goal.returns-then-is_operator-2
returns-then-is_operator-2 c =
    let tokens = c.args.tokens.now in
    let ts = terminals_of tokens in
    let axes = c.in_ok-axes.axes in
    let opened = c.is_operator-2.ensures.0 c.if-not-is_operator.false in
    let known = subst (λ x. AreAxes ts x axes.tree axes.to) (add-one c.args.from) c.in_ok-axes.ensures.derived.0 in
    let closed = c.is_operator-3.ensures.0 c.if-is_operator-2.true in
    record {
      derived = HasAxes.view axes.to opened known c.in_ok-axes.ensures.stops refl (add-one axes.to);
      shallow = omega (arith, c.in_ok-room_within.ensures.0);
      stops = closed;
      within = omega (arith, length_terminals tokens, stands_within tokens (axes.to + 1) closed.token closed.stands);
    }

pub returns-else-is_operator-2 : goal.returns-else-is_operator-2
returns-else-is_operator-2 c =
    let tokens = c.args.tokens.now in
    let ts = terminals_of tokens in
    let axes = c.in_ok-axes.axes in
    let opened = c.is_operator-2.ensures.0 c.if-not-is_operator.false in
    let known = subst (λ x. AreAxes ts x axes.tree axes.to) (add-one c.args.from) c.in_ok-axes.ensures.derived.0 in
    let more = goes_on tokens axes.to (kind.Operator sign.CloseBracket) c.requires.input c.in_ok-axes.ensures.stops (omega arith) in
    let stuck = view_end_stuck ts c.args.from c.args.room axes.to axes.tree c.args.closing
    (omega (arith, more, length_terminals tokens)) c.requires.closes c.in_ok-room_within.ensures.0 opened known c.in_ok-axes.ensures.stops
    (λ closed. denied c.is_operator-3.ensures c.if-is_operator-2.false (subst (λ x. HasKind ts x (kind.Operator c.args.closing)) (sym (add-one axes.to)) closed)) in
    subst (IsStuck HasAxes (At c.args.closing) ts c.args.from c.args.room) (sym (add-one axes.to)) stuck
