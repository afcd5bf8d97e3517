use Rattle.std.proofs.Common.{false, refl, arith}
use Rattle.std.proofs.lemmas.Option.{slice_get_read}
use Rattle.px_tree.specs.declared.statements.Stmt.{Stmt}
use Rattle.px_walk.specs.StmtView.{rose_of_stmt}
use Rattle.px_typed_walk.specs.TypedView.{rose_of_typed}
use Rattle.px_operators.specs.Kept.{gathered_kept}
use Rattle.px_types.specs.Statements.{statement}
use Rattle.px_types.specs.Typers.{environment_of}
use Rattle.px_types.proofs.StatementLoops.{from_first, from_next, from_none, all_given}
use Rattle.px_types.proofs.typed_functions.block.Goals as goal

pub loop-statement-init : goal.loop-statement-init
loop-statement-init c =
    from_first rose_of_typed (λ (s : Stmt). statement (environment_of c.args.typer.now) false (rose_of_stmt s)) (gathered_kept c.new-all.result) c.args.statements.now c.new-all.ensures

pub loop-statement-preserved : goal.loop-statement-preserved
loop-statement-preserved c =
    from_next rose_of_typed (λ (s : Stmt). statement (environment_of c.args.typer.now) false (rose_of_stmt s)) (gathered_kept c.loop-statement.all) (gathered_kept c.take.new.self) c.args.statements.now
    c.loop-statement.statement-index c.statement-item.result c.statement.result _
    c.loop-statement.invariant (slice_get_read _ _ _ _ refl c.loop-statement-test.true c.statement-item.is) c.statement.ensures c.in_ok-take.ensures

pub returns : goal.returns
returns c =
    all_given (λ all. all.items) rose_of_typed c.all.result (gathered_kept c.loop-statement.all) _ c.all.ensures
    (from_none rose_of_typed (λ (s : Stmt). statement (environment_of c.args.typer.now) false (rose_of_stmt s)) (gathered_kept c.loop-statement.all) c.args.statements.now c.loop-statement.statement-index _
    c.loop-statement.invariant c.loop-statement-test.false)
