use Rattle.std.proofs.Common.{◌<◌, ◌-◌, length, sym, subst, arith}
use Rattle.std.proofs.lemmas.Result.{err_from_is_err_and}
use Rattle.px_base.proofs.Facts.{denied}
use Rattle.px_lexer.specs.Terminals.{terminals_of}
use Rattle.px_lexer.proofs.TokenAccess.{length_terminals}
use Rattle.px_parser.proofs.TargetsSteps.{Assigning, assigning_begins, equal_stuck}
use Rattle.px_parser.proofs.TargetsReading.{next_refused, assigning_on, next_forward, assignment_read}
use Rattle.px_parser.proofs.targets.assignment.Goals as goal

pub loop-alloc-init : goal.loop-alloc-init
loop-alloc-init c =
    subst (λ xs. Assigning (terminals_of c.args.tokens.now) c.args.from xs c.args.read.0 c.args.end) (sym c.new-targets.ensures) (assigning_begins c.args.read c.requires.read c.requires.plain)

pub returns-then-not-is_target : goal.returns-then-not-is_target
returns-then-not-is_target c = equal_stuck c.loop-alloc.invariant (denied c.is_target.ensures c.if-not-is_target.true) (c.is_operator.ensures.0 c.loop-alloc-test.true)

pub returns-in_err-next : goal.returns-in_err-next
returns-in_err-next c =
    let p = err_from_is_err_and c.from_residual-in_err-next.result c.from_residual-in_err-next.ensures.1 in
    rw (p.1, p.2) (λ room. next_refused c.loop-alloc.invariant (c.is_target.ensures.0 c.if-not-is_target.false) (c.is_operator.ensures.0 c.loop-alloc-test.true) room _ (c.in_err-next.ensures room))

pub loop-alloc-smaller : goal.loop-alloc-smaller
loop-alloc-smaller c =
    let forward = next_forward (c.in_ok-next.ensures 0) in
    let inside = (c.loop-alloc.invariant.read 0).within in
    let less : length c.args.tokens.now.list - c.in_ok-next.next.to < length c.args.tokens.now.list - c.loop-alloc.to = omega (arith, forward, inside, length_terminals c.args.tokens.now) in
    less

pub loop-alloc-preserved : goal.loop-alloc-preserved
loop-alloc-preserved c =
    subst (λ xs. Assigning (terminals_of c.args.tokens.now) c.args.from xs c.in_ok-next.next.tree.0 c.in_ok-next.next.to) (sym c.in_ok-push.ensures.ok)
    (assigning_on c.in_ok-next.next.tree c.loop-alloc.invariant (c.is_target.ensures.0 c.if-not-is_target.false) (c.is_operator.ensures.0 c.loop-alloc-test.true) c.in_ok-next.ensures)

pub returns : goal.returns
returns c = λ room. assignment_read c.loop-alloc.invariant (denied c.is_operator.ensures c.loop-alloc-test.false) room c.keep_before_simple_end.result c.keep_before_simple_end.ensures
