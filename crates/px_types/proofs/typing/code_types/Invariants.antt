use Rattle.std.proofs.Common.{◌≡◌, drop, map, false}
use Rattle.std.specs.Prelude.{filter_map}
use Rattle.px_tree.specs.declared.statements.Stmt.{Stmt}
use Rattle.px_walk.specs.StmtView.{rose_of_stmt}
use Rattle.px_operators.specs.Outcomes.{all_of}
use Rattle.px_operators.specs.Kept.{gathers}
use Rattle.px_environments.specs.Signatures.{statement_item}
use Rattle.px_types.specs.Statements.{statement}
use Rattle.px_types.specs.StatementsKept.{trees_gathered}
use Rattle.px_types.specs.Typers.{environment_of}
use Rattle.px_types.proofs.typing.code_types.Given as goal

-- what was gathered, with what is still to come, is all
abbrev pub invariant-loop-item : goal.invariant-loop-item
invariant-loop-item l =
    gathers (trees_gathered l.all) (map (λ (s : Stmt). statement (environment_of l.typer) false (rose_of_stmt s)) (filter_map statement_item (drop l.item-index l.items)))
    ≡ all_of (map (λ (s : Stmt). statement (environment_of l.typer) false (rose_of_stmt s)) (filter_map statement_item l.items))
