use Rattle.std.proofs.Common.{◌+◌, ◌-◌, ◌<◌, length, sym, ◌∙◌, arith}
use Rattle.std.proofs.lemmas.Result.{err_from_is_err_and}
use Rattle.px_base.proofs.Facts.{denied}
use Rattle.px_lexer.specs.declared.spelling.Operator.TheVariants as sign
use Rattle.px_lexer.specs.declared.token_list.TokenKind.TheVariants as kind
use Rattle.px_lexer.specs.Terminals.{terminals_of}
use Rattle.px_parser.proofs.ExprShapes.{solid_expr}
use Rattle.px_parser.proofs.ExprLists.{commas_none, commas_more, element_refused, others_last, others_ended}
use Rattle.px_parser.proofs.exprs.others.Goals as goal

pub loop-alloc-init : goal.loop-alloc-init
loop-alloc-init c = (commas_none (terminals_of c.args.tokens.now) c.args.from _ c.new-items.ensures, c.requires.inside)

pub returns-in_err-next : goal.returns-in_err-next
returns-in_err-next c =
    let p = err_from_is_err_and c.from_residual.result c.from_residual.ensures.1 in
    let begins = sym c.begins_expr.ensures ∙ c.loop-alloc-test.true in
    λ room. rw (p.1, p.2) (element_refused (terminals_of c.args.tokens.now) c.args.from c.loop-alloc.to room _ c.loop-alloc.invariant.0 begins _ (c.in_err-next.ensures room))

pub returns-then-not-is_operator : goal.returns-then-not-is_operator
returns-then-not-is_operator c =
    let begins = sym c.begins_expr.ensures ∙ c.loop-alloc-test.true in
    λ room. others_last (terminals_of c.args.tokens.now) c.args.from c.loop-alloc.to _ room _ _ _ c.loop-alloc.invariant.0 begins (c.in_ok-next.ensures room) (denied c.is_operator.ensures c.if-not-is_operator.true) c.in_ok-push.ensures.ok _ c.keep_before_end.ensures

pub loop-alloc-smaller : goal.loop-alloc-smaller
loop-alloc-smaller c =
    let reading = c.in_ok-next.ensures 0 in
    let less : length c.args.tokens.now.list - (c.in_ok-next.next.to + 1) < length c.args.tokens.now.list - c.loop-alloc.to = omega (arith, solid_expr.grows reading.derived, c.loop-alloc.invariant.1) in
    less

pub loop-alloc-preserved : goal.loop-alloc-preserved
loop-alloc-preserved c =
    let comma = c.is_operator.ensures.0 c.if-not-is_operator.false in
    let on = c.requires.input.goes_on c.in_ok-next.next.to (kind.Operator sign.Comma) comma (λ e. cc) in
    (commas_more (terminals_of c.args.tokens.now) c.args.from c.loop-alloc.to c.in_ok-next.next.to _ _ _ c.loop-alloc.invariant.0 (λ room. c.in_ok-next.ensures room) comma c.in_ok-push.ensures.ok, omega (arith, on))

pub returns : goal.returns
returns c =
    let none = sym c.begins_expr.ensures ∙ c.loop-alloc-test.false in
    λ room. others_ended c.args.tokens.now c.args.from c.loop-alloc.to room _ c.loop-alloc.invariant.0 none c.loop-alloc.invariant.1 _ c.keep_before_end-2.ensures
