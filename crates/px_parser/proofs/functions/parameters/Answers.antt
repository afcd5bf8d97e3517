use Rattle.std.proofs.Common.{◌+◌, ◌<◌, ◌-◌, add-one, length, arith}
use Rattle.std.proofs.lemmas.Result.{err_from_is_err_and}
use Rattle.px_base.proofs.Facts.{denied}
use Rattle.px_lexer.specs.Terminals.{terminals_of}
use Rattle.px_parser.proofs.ReadingSteps.{inside_tokens}
use Rattle.px_parser.proofs.FunctionShapes.{solid_parameter}
use Rattle.px_parser.proofs.FunctionSteps.{no_parameters, parameters_more, parameters_unread, parameters_last, parameters_end}
use Rattle.px_parser.proofs.functions.parameters.Goals as goal

pub loop-alloc-init : goal.loop-alloc-init
loop-alloc-init c = no_parameters c.args.tokens.now c.args.from _ c.new-tree.ensures c.requires.inside

pub parameter-requires-clause-inside : goal.parameter-requires-clause-inside
parameter-requires-clause-inside c = inside_tokens c.args.tokens.now c.loop-alloc.to c.loop-alloc.invariant.within

pub returns-in_err-next : goal.returns-in_err-next
returns-in_err-next c =
    let p = err_from_is_err_and c.from_residual.result c.from_residual.ensures.1 in
    λ room. rw (p.1, p.2) (parameters_unread (terminals_of c.args.tokens.now) c.args.from _ room _ _ c.loop-alloc.invariant (denied c.is_operator.ensures c.loop-alloc-test.true) (c.in_err-next.ensures room))

pub returns-then-is_operator : goal.returns-then-is_operator
returns-then-is_operator c = λ room. parameters_last room c.loop-alloc.invariant c.in_ok-push.ensures.ok (c.in_ok-next.ensures room) (c.is_operator-in-loop-alloc.ensures.0 c.if-is_operator.true)

pub overflow_add-to : goal.overflow_add-to
overflow_add-to c =
    let inside = inside_tokens c.args.tokens.now c.in_ok-next.next.to (c.in_ok-next.ensures 0).within in
    omega (arith, inside, c.requires.input.input.few)

pub loop-alloc-smaller : goal.loop-alloc-smaller
loop-alloc-smaller c =
    let grows = solid_parameter.grows (c.in_ok-next.ensures 0).derived in
    let inside = inside_tokens c.args.tokens.now c.loop-alloc.to c.loop-alloc.invariant.within in
    let less : length c.args.tokens.now.list - (c.in_ok-next.next.to + 1) < length c.args.tokens.now.list - c.loop-alloc.to = omega (arith, grows, inside) in
    less

pub loop-alloc-preserved : goal.loop-alloc-preserved
loop-alloc-preserved c = parameters_more c.args.tokens.now c.args.from c.loop-alloc.to c.in_ok-next.next.to _ _ _ _ c.requires.input c.loop-alloc.invariant c.in_ok-push.ensures.ok c.in_ok-next.ensures (denied c.is_operator-in-loop-alloc.ensures c.if-is_operator.false) (add-one c.in_ok-next.next.to)

pub returns : goal.returns
returns c = λ room. parameters_end room c.loop-alloc.invariant (c.is_operator.ensures.0 c.loop-alloc-test.false)
