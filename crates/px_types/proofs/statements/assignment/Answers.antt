use Rattle.std.proofs.Common.{sym, subst, ◌∙◌}
use Rattle.px_typed_walk.specs.TypedView.{rose_of_typed}
use Rattle.px_operators.specs.Outcomes.{Gives}
use Rattle.px_types.proofs.StatementSteps.{one_target, other_targets}
use Rattle.px_types.proofs.statements.assignment.Goals as goal

pub returns-in_ok-target : goal.returns-in_ok-target
returns-in_ok-target c =
    subst (Gives rose_of_typed c.assigned.result)
    (sym (one_target c.args.number c.args.at c.args.targets.items (rose_of_typed c.args.tree) c.in_ok-target.target (sym c.in_ok-target.ensures)))
    c.assigned.ensures

pub returns-else-len-eq1 : goal.returns-else-len-eq1
returns-else-len-eq1 c =
    subst (Gives rose_of_typed c.assigned_each.result)
    (sym (other_targets c.args.number c.args.at c.args.targets.items (rose_of_typed c.args.tree) (λ one. c.if-len-eq1.false (c.len.ensures ∙ c.args.targets.ok.0 ∙ one))))
    c.assigned_each.ensures
