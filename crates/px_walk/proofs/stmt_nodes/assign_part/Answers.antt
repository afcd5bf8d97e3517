use Rattle.std.proofs.Common.{[], ◌∷◌, sym, ◌∙◌}
use Rattle.px_walk.specs.ExprView.{rose_of_expr}
use Rattle.px_walk.proofs.Parts.{before-mapped, behind-mapped}
use Rattle.px_walk.proofs.stmt_nodes.assign_part.Goals as goal

pub returns-then-k-targets : goal.returns-then-k-targets
returns-then-k-targets c = c.nth_expr.ensures ∙ sym (before-mapped rose_of_expr c.args.targets.now (rose_of_expr c.args.value.now ∷ []) c.args.k c.if-k-targets.true)

pub returns-else-k-targets : goal.returns-else-k-targets
returns-else-k-targets c = c.only.ensures ∙ sym (behind-mapped rose_of_expr c.args.targets.now (rose_of_expr c.args.value.now ∷ []) c.args.k c.if-k-targets.false)
