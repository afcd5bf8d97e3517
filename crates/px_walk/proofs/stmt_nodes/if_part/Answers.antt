use Rattle.std.proofs.Common.{map, sym, ◌∙◌}
use Rattle.px_walk.specs.StmtView.{rose_of_arm, rose_of_stmt}
use Rattle.px_walk.proofs.Parts.{before-mapped, behind-mapped}
use Rattle.px_walk.proofs.stmt_nodes.if_part.Goals as goal

pub returns-then-k-arms : goal.returns-then-k-arms
returns-then-k-arms c = c.nth_arm.ensures ∙ sym (before-mapped rose_of_arm c.args.arms.now (map rose_of_stmt c.args.otherwise.now) c.args.k c.if-k-arms.true)

pub returns-else-k-arms : goal.returns-else-k-arms
returns-else-k-arms c = c.nth_stmt.ensures ∙ sym (behind-mapped rose_of_arm c.args.arms.now (map rose_of_stmt c.args.otherwise.now) c.args.k c.if-k-arms.false)
