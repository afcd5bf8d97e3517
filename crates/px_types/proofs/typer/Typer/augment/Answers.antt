use Rattle.std.proofs.Common.{ℕ}
use Rattle.std.specs.Prelude.{slice_get}
use Rattle.px_base.specs.declared.refusals.Span.{Span}
use Rattle.px_walk.specs.Nodes.{rose_of}
use Rattle.px_walk.specs.Roses.{number_of, at_of, parts_of}
use Rattle.px_typed_walk.specs.TypedView.{rose_of_typed}
use Rattle.px_operators.specs.Outcomes.{followed, both}
use Rattle.px_operators.specs.Operators.{operand}
use Rattle.px_operators.specs.Kept.{operand_kept}
use Rattle.px_typed_expressions.specs.Expressions.{expression_at}
use Rattle.px_types.specs.Statements.{augmented}
use Rattle.px_types.specs.Typers.{environment_of}
use Rattle.px_types.proofs.StatementLoops.{joined_as, given_ok, then_given, there}
use Rattle.px_types.proofs.typer.Typer.augment.Goals as goal

pub returns : goal.returns
returns c =
    let environment = environment_of c.args.self.now in
    let node = rose_of c.args.node in
    let first = followed (expression_at environment (at_of node) (slice_get (parts_of node) 0)) operand in
    let second = followed (expression_at environment (at_of node) (slice_get (parts_of node) 1)) operand in
    let target = c.in_ok-target.target in
    let right = c.in_ok-target.right in
    then_given rose_of_typed (both first second) (operand_kept target, operand_kept right) (augmented environment.cdivision (number_of node) (at_of node) c.args.op) c.augmented.result
    (given_ok (λ pair. (operand_kept pair.0, operand_kept pair.1)) c.both.result (both first second) (target, right)
    (joined_as operand_kept operand_kept c.operand_at.result c.operand_at-2.result first second c.both.result c.both.ensures c.operand_at.ensures c.operand_at-2.ensures)
    c.in_ok-target.was)
    (there (λ (n : ℕ) (s : Span). augmented environment.cdivision n s c.args.op (operand_kept target, operand_kept right)) c.number.result (number_of node) c.at.result (at_of node) c.augmented.result c.number.ensures c.at.ensures c.augmented.ensures)
