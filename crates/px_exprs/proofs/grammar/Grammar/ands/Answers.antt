use Rattle.std.proofs.Common.{◌<◌, ◌-◌, length, arith}
use Rattle.std.proofs.lemmas.Result.{err_from_is_err_and}
use Rattle.px_base.proofs.Facts.{denied}
use Rattle.px_lexer.specs.declared.spelling.Keyword.TheVariants as word
use Rattle.px_lexer.specs.declared.token_list.TokenKind.TheVariants as kind
use Rattle.px_exprs.specs.Codes.{Past}
use Rattle.px_exprs.proofs.Stops.{and_stops}
use Rattle.px_exprs.proofs.TokenReading.{goes_on}
use Rattle.px_lexer.proofs.TokenAccess.{length_terminals}
use Rattle.px_exprs.proofs.JunctionSteps.{run_begun, ands_refused, ands_on, ands_read, not_forward}
use Rattle.px_exprs.proofs.grammar.Grammar.ands.Goals as goal

pub loop-operands-init : goal.loop-operands-init
loop-operands-init g c = run_begun (Past 23) c.args.room c.new-operands.ensures (and_stops c.requires.begins) c.requires.inside (length_terminals c.args.tokens.now)

pub overflow_add-to : goal.overflow_add-to
overflow_add-to g c =
    let inside = goes_on c.args.tokens.now c.loop-operands.to (kind.Keyword word.And) c.requires.input (c.is_keyword.ensures.0 c.loop-operands-test.true) (omega arith) in
    omega (arith, inside, c.requires.input.few)

pub inversion-requires-clause-inside : goal.inversion-requires-clause-inside
inversion-requires-clause-inside g c =
    let inside = goes_on c.args.tokens.now c.loop-operands.to (kind.Keyword word.And) c.requires.input (c.is_keyword.ensures.0 c.loop-operands-test.true) (omega arith) in
    omega (arith, inside)

pub returns-in_err-operand : goal.returns-in_err-operand
returns-in_err-operand g c =
    let p = err_from_is_err_and c.from_residual.result c.from_residual.ensures.1 in
    rw (p.1, p.2) (ands_refused c.loop-operands.invariant (c.is_keyword.ensures.0 c.loop-operands-test.true) _ c.in_err-operand.ensures)

pub loop-operands-smaller : goal.loop-operands-smaller
loop-operands-smaller g c =
    let forward = not_forward c.in_ok-operand.ensures in
    let inside = c.loop-operands.invariant.3 in
    let less : length c.args.tokens.now.list - c.in_ok-operand.operand.to < length c.args.tokens.now.list - c.loop-operands.to = omega (arith, forward, inside, length_terminals c.args.tokens.now) in
    less

pub loop-operands-preserved : goal.loop-operands-preserved
loop-operands-preserved g c = ands_on c.loop-operands.invariant (c.is_keyword.ensures.0 c.loop-operands-test.true) c.in_ok-operand.ensures c.in_ok-push.ensures.ok c.max-depth.ensures

pub returns : goal.returns
returns g c = ands_read c.loop-operands.invariant c.requires.begins (denied c.is_keyword.ensures c.loop-operands-test.false)
