use Rattle.std.proofs.Common.{◌≡◌, drop, map, false}
use Rattle.px_tree.specs.declared.statements.Stmt.{Stmt}
use Rattle.px_walk.specs.StmtView.{rose_of_stmt}
use Rattle.px_operators.specs.Outcomes.{all_of}
use Rattle.px_operators.specs.Kept.{gathers}
use Rattle.px_types.specs.Statements.{statement}
use Rattle.px_types.specs.StatementsKept.{trees_gathered}
use Rattle.px_types.specs.Typers.{environment_of}
use Rattle.px_types.proofs.typed_functions.block.Given as goal

-- what was gathered, with what is still to come, is all
abbrev pub invariant-loop-statement : goal.invariant-loop-statement
invariant-loop-statement l =
    gathers (trees_gathered l.all) (map (λ (s : Stmt). statement (environment_of l.typer) false (rose_of_stmt s)) (drop l.statement-index l.statements))
    ≡ all_of (map (λ (s : Stmt). statement (environment_of l.typer) false (rose_of_stmt s)) l.statements)
