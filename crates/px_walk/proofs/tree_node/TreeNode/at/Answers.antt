use Rattle.std.proofs.Common.{sym, ap, ◌∙◌}
use Rattle.px_walk.specs.Roses.{at_of}
use Rattle.px_walk.proofs.ExprEquations.{expr_is, entry_is, argument_is, link_is, comparison_is}
use Rattle.px_walk.proofs.StmtEquations.{stmt_is, arm_is}
use Rattle.px_walk.proofs.Shown.{shown}
use Rattle.px_walk.proofs.tree_node.TreeNode.at.Goals as goal

pub returns-in-Stmt : goal.returns-in-Stmt
returns-in-Stmt c = shown at_of c.in-Stmt.is (stmt_is c.in-Stmt.s.now)

pub returns-in-Arm : goal.returns-in-Arm
returns-in-Arm c = shown at_of c.in-Arm.is (arm_is c.in-Arm.arm.now)

pub returns-in-Expr : goal.returns-in-Expr
returns-in-Expr c = shown at_of c.in-Expr.is (expr_is c.in-Expr.e.now)

pub returns-in-Entry : goal.returns-in-Entry
returns-in-Entry c = sym (ap at_of (expr_is c.in-Entry.entry.now.key)) ∙ shown at_of c.in-Entry.is (entry_is c.in-Entry.entry.now)

pub returns-in-Argument : goal.returns-in-Argument
returns-in-Argument c = sym (ap at_of (expr_is c.in-Argument.argument.now.value)) ∙ shown at_of c.in-Argument.is (argument_is c.in-Argument.argument.now)

pub returns-in-Link : goal.returns-in-Link
returns-in-Link c = sym (ap at_of (expr_is c.in-Link.link.now.operand)) ∙ shown at_of c.in-Link.is (link_is c.in-Link.link.now)

pub returns-in-Comparison : goal.returns-in-Comparison
returns-in-Comparison c = sym (ap at_of (expr_is c.in-Comparison.comparison.now.operand)) ∙ shown at_of c.in-Comparison.is (comparison_is c.in-Comparison.comparison.now)
