use Rattle.std.proofs.Common.{◌-◌, ◌<◌, length, arith}
use Rattle.std.proofs.lemmas.Result.{err_from_is_err_and}
use Rattle.px_base.proofs.Facts.{denied}
use Rattle.px_lexer.specs.Terminals.{terminals_of}
use Rattle.px_lexer.proofs.TokenAccess.{length_terminals}
use Rattle.px_parser.proofs.TokenSteps.{reading_inside}
use Rattle.px_parser.proofs.VariableShapes.{solid_declared}
use Rattle.px_parser.proofs.DeclareReading.{declared_inside, lines_first_refused, lines_next_refused, one_line, more_lines, lines_read}
use Rattle.px_parser.proofs.variables.group_lines.Goals as goal

pub returns-in_err-first : goal.returns-in_err-first
returns-in_err-first c =
    let p = err_from_is_err_and c.from_residual.result c.from_residual.ensures.1 in
    λ room. rw (p.1, p.2) (lines_first_refused (terminals_of c.args.tokens.now) c.args.from room _ (c.in_err-first.ensures room))

pub declaration-requires-clause-small : goal.declaration-requires-clause-small
declaration-requires-clause-small c = omega (arith, declared_inside (terminals_of c.args.tokens.now) _ _ 0 _ (c.in_ok-first.ensures 0), length_terminals c.args.tokens.now, c.requires.input.input.few)

pub loop-alloc-init : goal.loop-alloc-init
loop-alloc-init c = one_line (terminals_of c.args.tokens.now) c.args.from _ _ _ _ _ c.in_ok-first.ensures c.declaration.ensures c.new-tree.ensures c.in_ok-push.ensures.ok

pub declared_variables-requires-in-loop-alloc-clause-inside : goal.declared_variables-requires-in-loop-alloc-clause-inside
declared_variables-requires-in-loop-alloc-clause-inside c = reading_inside c.args.tokens.now (c.loop-alloc.invariant 0)

pub returns-in_err-next : goal.returns-in_err-next
returns-in_err-next c =
    let p = err_from_is_err_and c.from_residual-in_err-next.result c.from_residual-in_err-next.ensures.1 in
    λ room. rw (p.1, p.2) (lines_next_refused (terminals_of c.args.tokens.now) c.args.from _ room _ _ (c.loop-alloc.invariant room) (denied c.is_dedent.ensures c.loop-alloc-test.true) (c.in_err-next.ensures room))

pub declaration-requires-in-loop-alloc-clause-inside : goal.declaration-requires-in-loop-alloc-clause-inside
declaration-requires-in-loop-alloc-clause-inside c = reading_inside c.args.tokens.now (c.loop-alloc.invariant 0)

pub declaration-requires-in-loop-alloc-clause-small : goal.declaration-requires-in-loop-alloc-clause-small
declaration-requires-in-loop-alloc-clause-small c = omega (arith, declared_inside (terminals_of c.args.tokens.now) _ _ 0 _ (c.in_ok-next.ensures 0), length_terminals c.args.tokens.now, c.requires.input.input.few)

pub loop-alloc-smaller : goal.loop-alloc-smaller
loop-alloc-smaller c =
    let forward : c.loop-alloc.to < c.in_ok-next.next.to = solid_declared.grows (c.in_ok-next.ensures 0).derived in
    let inside = reading_inside c.args.tokens.now (c.loop-alloc.invariant 0) in
    let less : length c.args.tokens.now.list - c.in_ok-next.next.to < length c.args.tokens.now.list - c.loop-alloc.to = omega (arith, forward, inside) in
    less

pub loop-alloc-preserved : goal.loop-alloc-preserved
loop-alloc-preserved c = more_lines (terminals_of c.args.tokens.now) c.args.from _ _ _ _ _ _ c.loop-alloc.invariant c.in_ok-next.ensures c.declaration-in-loop-alloc.ensures c.in_ok-push-2.ensures.ok

pub returns : goal.returns
returns c = λ room. lines_read (terminals_of c.args.tokens.now) c.args.from _ room _ (c.loop-alloc.invariant room) (c.is_dedent.ensures.0 c.loop-alloc-test.false)
