use Rattle.std.proofs.Common.{◌-◌, ◌<◌, length, arith}
use Rattle.std.proofs.lemmas.Result.{err_from_is_err_and}
use Rattle.px_base.proofs.Facts.{denied}
use Rattle.px_lexer.proofs.TokenAccess.{length_terminals}
use Rattle.px_parser.proofs.Steps.{fails}
use Rattle.px_parser.proofs.ReadingSteps.{inside_terminals, inside_tokens}
use Rattle.px_parser.proofs.ItemLoop.{items_begun, items_on, items_read, step_items_next, item_grows}
use Rattle.px_parser.proofs.modules.items.Goals as goal

pub loop-alloc-init : goal.loop-alloc-init
loop-alloc-init c = items_begun _ c.new-tree.ensures (inside_terminals c.args.tokens.now 0 c.requires.some)

pub item-requires-clause-inside : goal.item-requires-clause-inside
item-requires-clause-inside c = inside_tokens c.args.tokens.now _ c.loop-alloc.invariant.within

pub returns-in_err-next : goal.returns-in_err-next
returns-in_err-next c =
    let p = err_from_is_err_and c.from_residual.result c.from_residual.ensures.1 in
    rw (p.1, p.2) (fails (step_items_next c.loop-alloc.invariant (denied c.is_end.ensures c.loop-alloc-test.true)) c.in_err-next.field-0.0 c.in_err-next.ensures)

pub loop-alloc-smaller : goal.loop-alloc-smaller
loop-alloc-smaller c =
    let forward = item_grows c.in_ok-next.ensures in
    let less : length c.args.tokens.now.list - c.in_ok-next.next.to < length c.args.tokens.now.list - c.loop-alloc.to = omega (arith, forward, c.loop-alloc.invariant.within, length_terminals c.args.tokens.now) in
    less

pub loop-alloc-preserved : goal.loop-alloc-preserved
loop-alloc-preserved c = items_on _ c.loop-alloc.invariant c.in_ok-next.ensures c.in_ok-tree.ensures

pub returns : goal.returns
returns c = items_read c.loop-alloc.invariant (c.is_end.ensures.0 c.loop-alloc-test.false)
