use Rattle.std.proofs.Common.{ℕ, map, take, sym, subst}
use Rattle.std.specs.Prelude.{slice_get}
use Rattle.px_base.specs.declared.refusals.Span.{Span}
use Rattle.px_walk.specs.Nodes.{rose_of}
use Rattle.px_walk.specs.Roses.{number_of, at_of, parts_of}
use Rattle.px_typed_walk.specs.TypedView.{rose_of_typed}
use Rattle.px_operators.specs.Outcomes.{Gives, followed, both, all_of}
use Rattle.px_operators.specs.Conversions.{valued}
use Rattle.px_operators.specs.Kept.{trees_kept}
use Rattle.px_typed_expressions.specs.Expressions.{expression, expression_at}
use Rattle.px_types.specs.StatementsKept.{assigned_to}
use Rattle.px_types.specs.Typers.{environment_of}
use Rattle.px_types.proofs.StatementLoops.{joined_as, given_ok, then_given, there}
use Rattle.px_types.proofs.StatementSteps.{assign_is}
use Rattle.px_types.proofs.typer.Typer.assign.Goals as goal

pub returns : goal.returns
returns c =
    let environment = environment_of c.args.self.now in
    let node = rose_of c.args.node in
    let parts = parts_of node in
    let targets = all_of (map (expression environment) (take c.args.count parts)) in
    let value = followed (expression_at environment (at_of node) (slice_get parts c.args.count)) valued in
    let trees = c.in_ok-targets.targets in
    let tree = c.in_ok-targets.tree in
    let first = c.first_expressions-targets.result in
    subst (Gives rose_of_typed c.assignment.result) (sym (assign_is environment (number_of node) (at_of node) c.args.count parts c.if-count-eq0.false))
    (then_given rose_of_typed (both targets value) (trees_kept trees.items, rose_of_typed tree) (assigned_to (number_of node) (at_of node)) c.assignment.result
    (given_ok (λ pair. (trees_kept pair.0.items, rose_of_typed pair.1)) c.both.result (both targets value) (trees, tree)
    (joined_as (λ all. trees_kept all.items) rose_of_typed first c.value_at.result targets value c.both.result c.both.ensures c.first_expressions-targets.ensures c.value_at.ensures)
    c.in_ok-targets.was)
    (there (λ (n : ℕ) (s : Span). assigned_to n s (trees_kept trees.items, rose_of_typed tree)) c.number.result (number_of node) c.at.result (at_of node) c.assignment.result c.number.ensures c.at.ensures c.assignment.ensures))
