use Rattle.std.proofs.Common.{List, [], ◌∷◌, length, map, refl, sym, ap, ◌∙◌}
use Rattle.std.proofs.lemmas.List.{length-map}
use Rattle.px_tree.specs.declared.statements.Arm.{out-Arm}
use Rattle.px_walk.specs.ExprView.{Tree, rose_of_expr, rose_of_type}
use Rattle.px_walk.specs.StmtView.{rose_of_stmt, rose_of_declarator}
use Rattle.px_walk.proofs.Parts.{one_more}
use Rattle.px_walk.proofs.ExprEquations.{expr_is, entry_is, argument_is, link_is, comparison_is}
use Rattle.px_walk.proofs.StmtEquations.{stmt_is, arm_is}
use Rattle.px_walk.proofs.Shown.{parts_shown}
use Rattle.px_walk.proofs.tree_node.TreeNode.count.Goals as goal

pub returns-in-Module : goal.returns-in-Module
returns-in-Module c =
    c.module_count.ensures ∙ parts_shown (λ (parts : List Tree). length parts) _ _ _ _ c.in-Module.is refl

pub returns-in-Import : goal.returns-in-Import
returns-in-Import c =
    c.import_count.ensures ∙ parts_shown (λ (parts : List Tree). length parts) _ _ _ _ c.in-Import.is refl

pub returns-in-Function : goal.returns-in-Function
returns-in-Function c =
    c.function_count.ensures ∙ parts_shown (λ (parts : List Tree). length parts) _ _ _ _ c.in-Function.is refl

pub returns-in-Trailer : goal.returns-in-Trailer
returns-in-Trailer c =
    c.trailer_count.ensures c.in-Trailer.field-1 ∙ parts_shown (λ (parts : List Tree). length parts) _ _ _ _ c.in-Trailer.is refl

pub returns-in-Item : goal.returns-in-Item
returns-in-Item c =
    c.item_count.ensures ∙ parts_shown (λ (parts : List Tree). length parts) _ _ _ _ c.in-Item.is refl

pub returns-in-Stmt : goal.returns-in-Stmt
returns-in-Stmt c =
    c.stmt_count.ensures ∙ parts_shown (λ (parts : List Tree). length parts) _ _ _ _ c.in-Stmt.is (stmt_is c.in-Stmt.s.now)

pub returns-in-Expr : goal.returns-in-Expr
returns-in-Expr c =
    c.expr_count.ensures ∙ parts_shown (λ (parts : List Tree). length parts) _ _ _ _ c.in-Expr.is (expr_is c.in-Expr.e.now)

pub returns-in-Arm : goal.returns-in-Arm
returns-in-Arm c =
    one_more (ap length c.as_slice.ensures ∙ sym (length-map (out-Arm c.in-Arm.arm.now).block rose_of_stmt)) ∙ parts_shown (λ (parts : List Tree). length parts) _ _ _ (rose_of_expr (out-Arm c.in-Arm.arm.now).test ∷ map rose_of_stmt (out-Arm c.in-Arm.arm.now).block) c.in-Arm.is (arm_is c.in-Arm.arm.now)

pub returns-in-Declaration : goal.returns-in-Declaration
returns-in-Declaration c =
    one_more (ap length c.as_slice-in-Declaration.ensures ∙ sym (length-map c.in-Declaration.declaration.now.names rose_of_declarator)) ∙ parts_shown (λ (parts : List Tree). length parts) _ _ _ (rose_of_type c.in-Declaration.declaration.now.typing ∷ map rose_of_declarator c.in-Declaration.declaration.now.names) c.in-Declaration.is refl

pub returns-in-Entry : goal.returns-in-Entry
returns-in-Entry c =
    parts_shown (λ (parts : List Tree). length parts) _ _ _ (rose_of_expr c.in-Entry.field-0.now.key ∷ rose_of_expr c.in-Entry.field-0.now.value ∷ []) c.in-Entry.is (entry_is c.in-Entry.field-0.now)

pub returns-in-Argument : goal.returns-in-Argument
returns-in-Argument c =
    parts_shown (λ (parts : List Tree). length parts) _ _ _ (rose_of_expr c.in-Argument.field-0.now.value ∷ []) c.in-Argument.is (argument_is c.in-Argument.field-0.now)

pub returns-in-Link : goal.returns-in-Link
returns-in-Link c =
    parts_shown (λ (parts : List Tree). length parts) _ _ _ (rose_of_expr c.in-Link.field-0.now.operand ∷ []) c.in-Link.is (link_is c.in-Link.field-0.now)

pub returns-in-Comparison : goal.returns-in-Comparison
returns-in-Comparison c =
    parts_shown (λ (parts : List Tree). length parts) _ _ _ (rose_of_expr c.in-Comparison.field-0.now.operand ∷ []) c.in-Comparison.is (comparison_is c.in-Comparison.field-0.now)
