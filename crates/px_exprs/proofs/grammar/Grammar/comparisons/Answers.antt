use Rattle.std.proofs.Common.{suc, ◌-◌, ◌<◌, length, refl, arith}
use Rattle.std.proofs.lemmas.Result.{err_from_is_err_and}
use Rattle.px_base.proofs.Facts.{denied}
use Rattle.px_exprs.specs.Codes.{Past}
use Rattle.px_exprs.specs.Grammar.{binary_levels}
use Rattle.px_lexer.specs.Terminals.{terminals_of}
use Rattle.px_exprs.specs.Parts.{all as all_levels}
use Rattle.px_lexer.proofs.TokenAccess.{length_terminals}
use Rattle.px_exprs.proofs.JunctionSteps.{run_begun}
use Rattle.px_exprs.proofs.ComparisonSteps.{begins_inside, begins_stops, operator_refused, operand_refused, comparison_on, comparison_forward, comparisons_read}
use Rattle.px_exprs.proofs.grammar.Grammar.comparisons.Goals as goal

pub loop-found-init : goal.loop-found-init
loop-found-init g c = run_begun (Past 18) c.args.room c.in_ok-found.ensures (begins_stops c.requires.begins) c.requires.inside (length_terminals c.args.tokens.now)

pub compare_operator-requires-clause-begins : goal.compare_operator-requires-clause-begins
compare_operator-requires-clause-begins g c = c.begins_comparison.ensures.0 c.loop-found-test.true

pub returns-in_err-op : goal.returns-in_err-op
returns-in_err-op g c =
    let p = err_from_is_err_and c.from_residual-in_err-op.result c.from_residual-in_err-op.ensures.1 in
    let begins = c.begins_comparison.ensures.0 c.loop-found-test.true in
    let inside : suc c.loop-found.to < length (terminals_of c.args.tokens.now) = omega (arith, begins_inside c.args.tokens.now c.loop-found.to c.requires.input begins, length_terminals c.args.tokens.now) in
    rw (p.1, p.2) (operator_refused c.loop-found.invariant begins inside _ c.in_err-op.ensures.stuck)

pub binary-requires-clause-known : goal.binary-requires-clause-known
unfolding binary_levels
binary-requires-clause-known g c = all_levels refl

pub returns-in_err-operand : goal.returns-in_err-operand
unfolding binary_levels
returns-in_err-operand g c =
    let p = err_from_is_err_and c.from_residual-in_err-operand.result c.from_residual-in_err-operand.ensures.1 in
    rw (p.1, p.2)
    (operand_refused c.loop-found.invariant (c.begins_comparison.ensures.0 c.loop-found-test.true) c.in_ok-op.ensures.read c.in_ok-op.ensures.longest _ c.in_err-operand.ensures)

pub loop-found-smaller : goal.loop-found-smaller
unfolding binary_levels
loop-found-smaller g c =
    let forward = comparison_forward c.in_ok-op.ensures.read c.in_ok-operand.ensures in
    let inside = c.loop-found.invariant.3 in
    let less : length c.args.tokens.now.list - c.in_ok-operand.operand.to < length c.args.tokens.now.list - c.loop-found.to = omega (arith, forward, inside, length_terminals c.args.tokens.now) in
    less

pub loop-found-preserved : goal.loop-found-preserved
unfolding binary_levels
loop-found-preserved g c =
    comparison_on c.loop-found.invariant c.in_ok-op.ensures.read c.in_ok-operand.ensures c.in_ok-push.ensures.ok c.max-depth.ensures

pub returns : goal.returns
returns g c = comparisons_read c.loop-found.invariant c.requires.begins (denied c.begins_comparison.ensures c.loop-found-test.false)
