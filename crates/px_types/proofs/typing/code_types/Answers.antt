use Rattle.std.proofs.Common.{false, refl, ap, arith}
use Rattle.std.proofs.lemmas.Option.{slice_get_read}
use Rattle.px_tree.specs.declared.statements.Stmt.{Stmt}
use Rattle.px_walk.specs.StmtView.{rose_of_stmt}
use Rattle.px_typed_walk.specs.TypedView.{rose_of_typed}
use Rattle.px_operators.specs.Outcomes.{mapped}
use Rattle.px_operators.specs.Kept.{trees_kept, gathered_kept}
use Rattle.px_environments.specs.Signatures.{statement_item}
use Rattle.px_types.specs.Statements.{statement}
use Rattle.px_types.specs.StatementsKept.{trees_gathered}
use Rattle.px_types.specs.Typers.{environment_of}
use Rattle.px_types.proofs.StatementLoops.{all_given}
use Rattle.px_types.proofs.ModuleSteps.{items_first, items_next, items_none}
use Rattle.px_types.proofs.typing.code_types.Goals as goal

pub loop-item-init : goal.loop-item-init
loop-item-init c =
    items_first statement_item (λ (s : Stmt). statement (environment_of c.args.typer.now) false (rose_of_stmt s)) (trees_gathered c.new-all.result) c.args.items.now (ap (mapped trees_kept) c.new-all.ensures)

pub loop-item-preserved : goal.loop-item-preserved
loop-item-preserved c =
    items_next statement_item (λ (s : Stmt). statement (environment_of c.args.typer.now) false (rose_of_stmt s)) (trees_gathered c.loop-item.all) (trees_gathered c.take_statement.new.all) c.args.items.now
    c.loop-item.item-index c.item-item.result _ c.loop-item.invariant (slice_get_read _ _ _ _ refl c.loop-item-test.true c.item-item.is) c.in_ok-take_statement.ensures

pub returns : goal.returns
returns c =
    all_given (λ all. all.items) rose_of_typed c.all.result (gathered_kept c.loop-item.all) _ c.all.ensures
    (items_none statement_item (λ (s : Stmt). statement (environment_of c.args.typer.now) false (rose_of_stmt s)) (trees_gathered c.loop-item.all) c.args.items.now c.loop-item.item-index _ c.loop-item.invariant c.loop-item-test.false)
