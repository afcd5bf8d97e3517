use Rattle.std.proofs.Common.{◌-◌, ◌<◌, length, refl, arith}
use Rattle.std.proofs.lemmas.Result.{err_from_is_err_and}
use Rattle.px_base.proofs.Facts.{denied}
use Rattle.px_lexer.specs.Terminals.{terminals_of}
use Rattle.px_lexer.proofs.TokenAccess.{length_terminals}
use Rattle.px_parser.proofs.Steps.{fails}
use Rattle.px_parser.proofs.BlockSteps.{statements_begun, statements_on, statements_read, step_statements_first, step_statements_next, statement_grows}
use Rattle.px_parser.proofs.ReadingSteps.{inside_tokens}
use Rattle.px_parser.proofs.blocks.Statements.statements.Goals as goal

pub returns-in_err-first : goal.returns-in_err-first
returns-in_err-first g c =
    let p = err_from_is_err_and c.from_residual.result c.from_residual.ensures.1 in
    rw (p.1, p.2) (fails (step_statements_first (terminals_of c.args.tokens.now) c.args.from c.args.room) c.in_err-first.field-0.0 c.in_err-first.ensures)

pub loop-tree-init : goal.loop-tree-init
loop-tree-init g c = statements_begun _ c.in_ok-first.ensures (rw (c.in_ok-append.ensures, c.new-tree.ensures) refl)

pub statement-requires-in-loop-tree-clause-inside : goal.statement-requires-in-loop-tree-clause-inside
statement-requires-in-loop-tree-clause-inside g c = inside_tokens c.args.tokens.now _ c.loop-tree.invariant.within

pub returns-in_err-next : goal.returns-in_err-next
returns-in_err-next g c =
    let p = err_from_is_err_and c.from_residual-in_err-next.result c.from_residual-in_err-next.ensures.1 in
    rw (p.1, p.2) (fails (step_statements_next c.loop-tree.invariant (denied c.is_dedent.ensures c.loop-tree-test.true)) c.in_err-next.field-0.0 c.in_err-next.ensures)

pub loop-tree-smaller : goal.loop-tree-smaller
loop-tree-smaller g c =
    let forward = statement_grows c.in_ok-next.ensures in
    let less : length c.args.tokens.now.list - c.in_ok-next.next.to < length c.args.tokens.now.list - c.loop-tree.to = omega (arith, forward, c.loop-tree.invariant.within, length_terminals c.args.tokens.now) in
    less

pub loop-tree-preserved : goal.loop-tree-preserved
loop-tree-preserved g c = statements_on _ c.loop-tree.invariant c.in_ok-next.ensures c.in_ok-append-2.ensures

pub returns : goal.returns
returns g c = statements_read c.loop-tree.invariant (c.is_dedent.ensures.0 c.loop-tree-test.false)
