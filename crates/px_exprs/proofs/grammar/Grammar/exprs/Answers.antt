use Rattle.std.proofs.Common.{◌<◌, ◌-◌, ◌+◌, length, arith}
use Rattle.std.proofs.lemmas.Result.{err_from_is_err_and}
use Rattle.px_base.proofs.Facts.{denied}
use Rattle.px_exprs.specs.Grammar.{IsExpr}
use Rattle.px_exprs.proofs.ListSteps.{expr_elements}
use Rattle.px_exprs.proofs.ListReadings.{list_begun, list_refused, list_last, list_on, list_whole, list_forward}
use Rattle.px_exprs.proofs.grammar.Grammar.exprs.Goals as goal

pub loop-closing-init : goal.loop-closing-init
loop-closing-init g c = (list_begun IsExpr c.new-items.ensures, omega arith, c.requires.inside)

pub returns-in_err-next : goal.returns-in_err-next
returns-in_err-next g c =
    let laws = expr_elements c.args.closing c.requires.closes in
    let p = err_from_is_err_and c.from_residual.result c.from_residual.ensures.1 in
    let kept = c.loop-closing.invariant in
    rw (p.1, p.2) (list_refused laws kept.0 kept.1 (denied c.is_operator.ensures c.loop-closing-test.true) c.in_err-next.field-0.0 c.in_err-next.ensures)

pub returns-then-is_operator : goal.returns-then-is_operator
returns-then-is_operator g c =
    let laws = expr_elements c.args.closing c.requires.closes in
    let kept = c.loop-closing.invariant in
    let close = c.is_operator-in-loop-closing.ensures.0 c.if-is_operator.true in
    list_last laws {fs = c.push.new.self} kept.0 kept.1 c.in_ok-next.ensures close c.in_ok-push.ensures.ok c.max-depth.ensures

pub overflow_add-to : goal.overflow_add-to
overflow_add-to g c =
    let kept = c.loop-closing.invariant in
    let none = denied c.is_operator-in-loop-closing.ensures c.if-is_operator.false in
    let on = list_on c.args.tokens.now c.requires.input {fs = c.push.new.self} kept.0 kept.1 c.in_ok-next.ensures none c.in_ok-push.ensures.ok c.max-depth.ensures in
    omega (arith, on.2, c.requires.input.few)

pub loop-closing-smaller : goal.loop-closing-smaller
loop-closing-smaller g c =
    let forward = list_forward (expr_elements c.args.closing c.requires.closes) c.in_ok-next.ensures in
    let inside = c.loop-closing.invariant.2 in
    let less : length c.args.tokens.now.list - (c.in_ok-next.next.to + 1) < length c.args.tokens.now.list - c.loop-closing.to = omega (arith, forward, inside) in
    less

pub loop-closing-preserved : goal.loop-closing-preserved
loop-closing-preserved g c =
    let kept = c.loop-closing.invariant in
    let none = denied c.is_operator-in-loop-closing.ensures c.if-is_operator.false in
    list_on c.args.tokens.now c.requires.input {fs = c.push.new.self} kept.0 kept.1 c.in_ok-next.ensures none c.in_ok-push.ensures.ok c.max-depth.ensures

pub returns : goal.returns
returns g c =
    let laws = expr_elements c.args.closing c.requires.closes in
    let kept = c.loop-closing.invariant in
    list_whole laws c.args.tokens.now kept.0 kept.1 kept.2 (c.is_operator.ensures.0 c.loop-closing-test.false)
