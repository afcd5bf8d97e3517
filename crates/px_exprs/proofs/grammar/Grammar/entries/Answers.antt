use Rattle.std.proofs.Common.{◌<◌, ◌-◌, ◌+◌, length, arith}
use Rattle.std.proofs.lemmas.Result.{err_from_is_err_and}
use Rattle.px_base.proofs.Facts.{denied}
use Rattle.px_exprs.specs.Parts.{IsEntry}
use Rattle.px_exprs.proofs.ListSteps.{entry_elements}
use Rattle.px_exprs.proofs.ListReadings.{list_begun, list_refused, list_last, list_on, list_whole, list_forward}
use Rattle.px_exprs.proofs.grammar.Grammar.entries.Goals as goal

pub loop-items-init : goal.loop-items-init
loop-items-init g c = (list_begun IsEntry c.new-items.ensures, omega arith, c.requires.inside)

pub returns-in_err-next : goal.returns-in_err-next
returns-in_err-next g c =
    let laws = entry_elements in
    let p = err_from_is_err_and c.from_residual.result c.from_residual.ensures.1 in
    let kept = c.loop-items.invariant in
    rw (p.1, p.2) (list_refused laws kept.0 kept.1 (denied c.is_operator.ensures c.loop-items-test.true) c.in_err-next.field-0.0 c.in_err-next.ensures)

pub returns-then-is_operator : goal.returns-then-is_operator
returns-then-is_operator g c =
    let laws = entry_elements in
    let kept = c.loop-items.invariant in
    let close = c.is_operator-in-loop-items.ensures.0 c.if-is_operator.true in
    list_last laws {fs = c.push.new.self} kept.0 kept.1 c.in_ok-next.ensures close c.in_ok-push.ensures.ok c.max-depth.ensures

pub overflow_add-to : goal.overflow_add-to
overflow_add-to g c =
    let kept = c.loop-items.invariant in
    let none = denied c.is_operator-in-loop-items.ensures c.if-is_operator.false in
    let on = list_on c.args.tokens.now c.requires.input {fs = c.push.new.self} kept.0 kept.1 c.in_ok-next.ensures none c.in_ok-push.ensures.ok c.max-depth.ensures in
    omega (arith, on.2, c.requires.input.few)

pub loop-items-smaller : goal.loop-items-smaller
loop-items-smaller g c =
    let forward = list_forward entry_elements c.in_ok-next.ensures in
    let inside = c.loop-items.invariant.2 in
    let less : length c.args.tokens.now.list - (c.in_ok-next.next.to + 1) < length c.args.tokens.now.list - c.loop-items.to = omega (arith, forward, inside) in
    less

pub loop-items-preserved : goal.loop-items-preserved
loop-items-preserved g c =
    let kept = c.loop-items.invariant in
    let none = denied c.is_operator-in-loop-items.ensures c.if-is_operator.false in
    list_on c.args.tokens.now c.requires.input {fs = c.push.new.self} kept.0 kept.1 c.in_ok-next.ensures none c.in_ok-push.ensures.ok c.max-depth.ensures

pub returns : goal.returns
returns g c =
    let laws = entry_elements in
    let kept = c.loop-items.invariant in
    list_whole laws c.args.tokens.now kept.0 kept.1 kept.2 (c.is_operator.ensures.0 c.loop-items-test.false)
