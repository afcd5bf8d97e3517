use Rattle.std.proofs.Common.{◌≡◌, ◌<◌, ◌-◌, ◌+◌, length, arith}
use Rattle.std.proofs.lemmas.Result.{err_from_is_err_and}
use Rattle.px_base.proofs.Facts.{denied}
use Rattle.px_lexer.specs.declared.spelling.Operator.TheVariants as sign
use Rattle.px_lexer.specs.Terminals.{IsOperator, terminals_of}
use Rattle.px_exprs.specs.Grammar.{IsItem}
use Rattle.px_exprs.proofs.ItemSteps.{item_laws}
use Rattle.px_exprs.proofs.TrailerSteps.{items_refused, items_last, items_whole}
use Rattle.px_exprs.proofs.ListReadings.{list_begun, list_on, list_forward}
use Rattle.px_exprs.proofs.grammar.Grammar.items.Goals as goal
use Rattle.px_exprs.proofs.grammar.Grammar.items.Goals.{then-to-from, else-to-from+then-not-is_operator}

pub loop-to-init : goal.loop-to-init
loop-to-init g c = (list_begun IsItem c.in_ok-items.ensures, omega arith, c.requires.inside)

pub returns-in_err-next : goal.returns-in_err-next
returns-in_err-next g c =
    let p = err_from_is_err_and c.from_residual-in_err-next.result c.from_residual-in_err-next.ensures.1 in
    let kept = c.loop-to.invariant in
    let begun : IsOperator (terminals_of c.args.tokens.now) c.loop-to.to sign.CloseBracket → c.loop-to.to ≡ c.args.from =
    elim c.if-to-from.branch [
      | then-to-from w ↦ (λ h. w.if-to-from.true)
      | else-to-from+then-not-is_operator w ↦ (λ h. absurd (denied w.is_operator.ensures w.if-not-is_operator.true h))
    ] in
    rw (p.1, p.2) (items_refused kept.0 kept.1 begun c.in_err-next.field-0.0 c.in_err-next.ensures)

pub returns-then-is_operator : goal.returns-then-is_operator
returns-then-is_operator g c =
    let kept = c.loop-to.invariant in
    let close = c.is_operator-in-loop-to.ensures.0 c.if-is_operator.true in
    items_last {fs = c.push.new.self} kept.0 kept.1 c.in_ok-next.ensures close c.in_ok-push.ensures.ok c.max-depth.ensures

pub overflow_add-to : goal.overflow_add-to
overflow_add-to g c =
    let kept = c.loop-to.invariant in
    let none = denied c.is_operator-in-loop-to.ensures c.if-is_operator.false in
    let on = list_on c.args.tokens.now c.requires.input {fs = c.push.new.self} kept.0 kept.1 c.in_ok-next.ensures none c.in_ok-push.ensures.ok c.max-depth.ensures in
    omega (arith, on.2, c.requires.input.few)

pub loop-to-smaller : goal.loop-to-smaller
loop-to-smaller g c =
    let forward = list_forward item_laws c.in_ok-next.ensures in
    let inside = c.loop-to.invariant.2 in
    let less : length c.args.tokens.now.list - (c.in_ok-next.next.to + 1) < length c.args.tokens.now.list - c.loop-to.to = omega (arith, forward, inside) in
    less

pub loop-to-preserved : goal.loop-to-preserved
loop-to-preserved g c =
    let kept = c.loop-to.invariant in
    let none = denied c.is_operator-in-loop-to.ensures c.if-is_operator.false in
    list_on c.args.tokens.now c.requires.input {fs = c.push.new.self} kept.0 kept.1 c.in_ok-next.ensures none c.in_ok-push.ensures.ok c.max-depth.ensures

pub returns : goal.returns
returns g c =
    let kept = c.loop-to.invariant in
    items_whole c.args.tokens.now kept.0 kept.1 kept.2 c.if-to-from.false (c.is_operator.ensures.0 c.if-not-is_operator.false)
