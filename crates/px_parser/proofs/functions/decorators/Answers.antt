use Rattle.std.proofs.Common.{◌<◌, ◌-◌, length, arith}
use Rattle.std.proofs.lemmas.Result.{err_from_is_err_and}
use Rattle.px_base.proofs.Facts.{denied}
use Rattle.px_lexer.specs.Terminals.{terminals_of}
use Rattle.px_parser.proofs.ReadingSteps.{inside_tokens}
use Rattle.px_parser.proofs.FunctionShapes.{solid_decorator_line}
use Rattle.px_parser.proofs.FunctionSteps.{no_decorators, decorators_more, decorators_unread, decorators_read}
use Rattle.px_parser.proofs.functions.decorators.Goals as goal

pub loop-alloc-init : goal.loop-alloc-init
loop-alloc-init c = no_decorators c.args.tokens.now c.args.from _ c.new-tree.ensures c.requires.inside

pub returns-in_err-next : goal.returns-in_err-next
returns-in_err-next c =
    let p = err_from_is_err_and c.from_residual.result c.from_residual.ensures.1 in
    λ room. rw (p.1, p.2) (decorators_unread (terminals_of c.args.tokens.now) c.args.from _ room _ _ c.loop-alloc.invariant (c.is_operator.ensures.0 c.loop-alloc-test.true) (c.in_err-next.ensures room))

pub loop-alloc-smaller : goal.loop-alloc-smaller
loop-alloc-smaller c =
    let grows = solid_decorator_line.grows (c.in_ok-next.ensures 0).derived in
    let inside = inside_tokens c.args.tokens.now c.loop-alloc.to c.loop-alloc.invariant.within in
    let less : length c.args.tokens.now.list - c.in_ok-next.next.to < length c.args.tokens.now.list - c.loop-alloc.to = omega (arith, grows, inside) in
    less

pub loop-alloc-preserved : goal.loop-alloc-preserved
loop-alloc-preserved c = decorators_more c.loop-alloc.invariant c.in_ok-push.ensures.ok c.in_ok-next.ensures

pub returns : goal.returns
returns c = λ room. decorators_read room c.loop-alloc.invariant (denied c.is_operator.ensures c.loop-alloc-test.false)
