use Rattle.std.proofs.Common.{◌+◌, ◌-◌, ◌<◌, ◌≤◌, length, arith}
use Rattle.std.proofs.lemmas.Result.{err_from_is_err_and}
use Rattle.px_base.proofs.Facts.{denied}
use Rattle.px_lexer.specs.declared.spelling.Operator.TheVariants as sign
use Rattle.px_lexer.specs.declared.token_list.TokenKind.TheVariants as kind
use Rattle.px_lexer.specs.Terminals.{terminals_of}
use Rattle.px_parser.proofs.TokenShapes.{misread}
use Rattle.px_parser.proofs.TokenSteps.{reading_inside, next_inside}
use Rattle.px_parser.proofs.VariableShapes.{good_decl}
use Rattle.px_parser.proofs.VariableReading.{no_more, one_more, rest_value_refused, rest_decl_refused, rest_end_refused, rest_read}
use Rattle.px_parser.proofs.variables.decl_rest.Goals as goal

pub returns-in_err-value : goal.returns-in_err-value
returns-in_err-value c =
    let p = err_from_is_err_and c.from_residual.result c.from_residual.ensures.1 in
    λ room. rw (p.1, p.2) (rest_value_refused (terminals_of c.args.tokens.now) c.args.from room _ (c.in_err-value.ensures room))

pub loop-alloc-init : goal.loop-alloc-init
loop-alloc-init c = no_more c.args.tokens.now _ _ _ c.args.from c.in_ok-value.ensures c.new-others.ensures

pub overflow_add-to : goal.overflow_add-to
overflow_add-to c = omega (arith, reading_inside c.args.tokens.now (c.loop-alloc.invariant 0), c.requires.input.input.few)

pub decl-requires-clause-inside : goal.decl-requires-clause-inside
decl-requires-clause-inside c = next_inside c.args.tokens.now c.loop-alloc.to (kind.Operator sign.Comma) c.requires.input (c.is_operator.ensures.0 c.loop-alloc-test.true) (λ e. cc)

pub returns-in_err-next : goal.returns-in_err-next
returns-in_err-next c =
    let p = err_from_is_err_and c.from_residual-in_err-next.result c.from_residual-in_err-next.ensures.1 in
    let comma = c.is_operator.ensures.0 c.loop-alloc-test.true in
    λ room. rw (p.1, p.2) (rest_decl_refused c.args.tokens.now c.args.from _ _ room _ _ _ (c.in_ok-value.ensures room) (c.loop-alloc.invariant room) comma (c.in_err-next.ensures room))

pub loop-alloc-smaller : goal.loop-alloc-smaller
loop-alloc-smaller c =
    let forward : c.loop-alloc.to + 1 ≤ c.in_ok-next.next.to = good_decl.sound.forward (c.in_ok-next.ensures 0).derived in
    let inside = reading_inside c.args.tokens.now (c.loop-alloc.invariant 0) in
    let less : length c.args.tokens.now.list - c.in_ok-next.next.to < length c.args.tokens.now.list - c.loop-alloc.to = omega (arith, forward, inside) in
    less

pub loop-alloc-preserved : goal.loop-alloc-preserved
loop-alloc-preserved c =
    let comma = c.is_operator.ensures.0 c.loop-alloc-test.true in
    one_more c.args.tokens.now _ _ _ _ _ _ c.loop-alloc.invariant comma c.in_ok-next.ensures c.in_ok-push.ensures.ok

pub newline-requires-clause-inside : goal.newline-requires-clause-inside
newline-requires-clause-inside c = reading_inside c.args.tokens.now (c.loop-alloc.invariant 0)

pub returns-in_err-end : goal.returns-in_err-end
returns-in_err-end c =
    let p = err_from_is_err_and c.from_residual-in_err-end.result c.from_residual-in_err-end.ensures.1 in
    let none = denied c.is_operator.ensures c.loop-alloc-test.false in
    λ room. rw (p.1, p.2) (rest_end_refused c.args.tokens.now c.args.from _ _ room _ _ _ (c.in_ok-value.ensures room) (c.loop-alloc.invariant room) none (misread (c.in_err-end.ensures room)))

pub returns : goal.returns
returns c = λ room. rest_read c.args.tokens.now c.args.from _ _ _ room _ _ (c.in_ok-value.ensures room) (c.loop-alloc.invariant room) (c.in_ok-end.ensures room)
