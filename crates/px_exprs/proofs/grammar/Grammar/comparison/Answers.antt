use Rattle.std.proofs.Common.{refl, arith}
use Rattle.std.proofs.lemmas.Result.{err_from_is_err_and}
use Rattle.px_base.proofs.Facts.{denied}
use Rattle.px_exprs.specs.Grammar.{binary_levels}
use Rattle.px_lexer.specs.Terminals.{terminals_of}
use Rattle.px_exprs.specs.Parts.{all as all_levels}
use Rattle.px_lexer.proofs.TokenAccess.{length_terminals}
use Rattle.px_exprs.proofs.ComparisonSteps.{one_operand_refused, one_operand_read, no_room_for_comparisons, comparisons_refused, compare_read}
use Rattle.px_exprs.proofs.grammar.Grammar.comparison.Goals as goal

pub binary-requires-clause-known : goal.binary-requires-clause-known
unfolding binary_levels
binary-requires-clause-known g c = all_levels refl

pub returns-in_err-first : goal.returns-in_err-first
unfolding binary_levels
returns-in_err-first g c =
    let p = err_from_is_err_and c.from_residual.result c.from_residual.ensures.1 in
    rw (p.1, p.2) (one_operand_refused (terminals_of c.args.tokens.now) c.args.from c.args.room _ c.in_err-first.ensures)

pub returns-then-not-begins_comparison : goal.returns-then-not-begins_comparison
unfolding binary_levels
returns-then-not-begins_comparison g c = one_operand_read c.in_ok-first.ensures (denied c.begins_comparison.ensures c.if-not-begins_comparison.true)

pub returns-in_err-room : goal.returns-in_err-room
unfolding binary_levels
returns-in_err-room g c =
    let p = err_from_is_err_and c.from_residual-in_err-room.result c.from_residual-in_err-room.ensures.1 in
    rw (p.1, p.2) (no_room_for_comparisons c.in_ok-first.ensures (c.begins_comparison.ensures.0 c.if-not-begins_comparison.false) _ c.in_err-room.ensures)

pub comparisons-requires-clause-inside : goal.comparisons-requires-clause-inside
unfolding binary_levels
comparisons-requires-clause-inside g c =
    let reading = c.in_ok-first.ensures in
    omega (arith, reading.within, length_terminals c.args.tokens.now)

pub comparisons-requires-clause-begins : goal.comparisons-requires-clause-begins
comparisons-requires-clause-begins g c = c.begins_comparison.ensures.0 c.if-not-begins_comparison.false

pub returns-in_err-others : goal.returns-in_err-others
unfolding binary_levels
returns-in_err-others g c =
    let p = err_from_is_err_and c.from_residual-in_err-others.result c.from_residual-in_err-others.ensures.1 in
    rw (p.1, p.2) (comparisons_refused c.in_ok-first.ensures (c.begins_comparison.ensures.0 c.if-not-begins_comparison.false) c.in_ok-room.ensures _ c.in_err-others.ensures)

pub node-requires-clause-small : goal.node-requires-clause-small
unfolding binary_levels
node-requires-clause-small g c =
    let reading = c.in_ok-first.ensures in
    omega (arith, reading.within, length_terminals c.args.tokens.now, c.requires.input.few)

pub returns : goal.returns
unfolding binary_levels
returns g c =
    let made = c.node.ensures in
    compare_read c.in_ok-first.ensures c.in_ok-room.ensures c.in_ok-others.ensures c.in_ok-first_tree.ensures made.1 made.2 c.max-depth.ensures refl
