use Rattle.std.proofs.Common.{◌-◌, List, [], ◌∷◌, map, refl, sym, ap, ◌∙◌, arith}
use Rattle.std.specs.Prelude.{slice_get}
use Rattle.px_tree.specs.declared.statements.Arm.{out-Arm}
use Rattle.px_walk.specs.ExprView.{Tree, rose_of_expr, rose_of_type}
use Rattle.px_walk.specs.StmtView.{rose_of_stmt, rose_of_declarator}
use Rattle.px_walk.proofs.Parts.{get-first, get-later}
use Rattle.px_walk.proofs.ExprEquations.{expr_is, entry_is, argument_is, link_is, comparison_is}
use Rattle.px_walk.proofs.StmtEquations.{stmt_is, arm_is}
use Rattle.px_walk.proofs.Shown.{parts_shown}
use Rattle.px_walk.proofs.tree_node.TreeNode.get.Goals as goal

pub returns-in-Module : goal.returns-in-Module
returns-in-Module c =
    c.module_part.ensures ∙ parts_shown (λ (parts : List Tree). slice_get parts c.args.k) _ _ _ _ c.in-Module.is refl

pub returns-in-Import : goal.returns-in-Import
returns-in-Import c =
    c.import_part.ensures ∙ parts_shown (λ (parts : List Tree). slice_get parts c.args.k) _ _ _ _ c.in-Import.is refl

pub returns-in-Function : goal.returns-in-Function
returns-in-Function c =
    c.function_part.ensures ∙ parts_shown (λ (parts : List Tree). slice_get parts c.args.k) _ _ _ _ c.in-Function.is refl

pub returns-in-Trailer : goal.returns-in-Trailer
returns-in-Trailer c =
    c.trailer_part.ensures ∙ parts_shown (λ (parts : List Tree). slice_get parts c.args.k) _ _ _ _ c.in-Trailer.is refl

pub returns-in-Item : goal.returns-in-Item
returns-in-Item c =
    c.item_part.ensures ∙ parts_shown (λ (parts : List Tree). slice_get parts c.args.k) _ _ _ _ c.in-Item.is refl

pub returns-in-Stmt : goal.returns-in-Stmt
returns-in-Stmt c =
    c.stmt_part.ensures ∙ parts_shown (λ (parts : List Tree). slice_get parts c.args.k) _ _ _ _ c.in-Stmt.is (stmt_is c.in-Stmt.s.now)

pub returns-in-Expr : goal.returns-in-Expr
returns-in-Expr c =
    c.expr_part.ensures ∙ parts_shown (λ (parts : List Tree). slice_get parts c.args.k) _ _ _ _ c.in-Expr.is (expr_is c.in-Expr.e.now)

pub returns-in-Arm : goal.returns-in-Arm
returns-in-Arm c =
    sym (get-first _ (map rose_of_stmt (out-Arm c.in-Arm.arm.now).block) c.args.k c.if-k-eq0.true) ∙ parts_shown (λ (parts : List Tree). slice_get parts c.args.k) _ _ _ (rose_of_expr (out-Arm c.in-Arm.arm.now).test ∷ map rose_of_stmt (out-Arm c.in-Arm.arm.now).block) c.in-Arm.is (arm_is c.in-Arm.arm.now)

pub returns-in-Arm-2 : goal.returns-in-Arm-2
returns-in-Arm-2 c = c.nth_stmt.ensures ∙ ap (λ xs. slice_get (map rose_of_stmt xs) (c.args.k - 1)) c.as_slice.ensures
    ∙ sym (get-later (rose_of_expr (out-Arm c.in-Arm-2.arm.now).test) _ c.args.k (c.args.k - 1) (omega arith)) ∙ parts_shown (λ (parts : List Tree). slice_get parts c.args.k) _ _ _ (rose_of_expr (out-Arm c.in-Arm-2.arm.now).test ∷ map rose_of_stmt (out-Arm c.in-Arm-2.arm.now).block) c.in-Arm-2.is (arm_is c.in-Arm-2.arm.now)

pub returns-in-Declaration-2 : goal.returns-in-Declaration-2
returns-in-Declaration-2 c = c.nth_declarator.ensures ∙ ap (λ xs. slice_get (map rose_of_declarator xs) (c.args.k - 1)) c.as_slice-in-Declaration-2.ensures
    ∙ sym (get-later (rose_of_type c.in-Declaration-2.d.now.typing) _ c.args.k (c.args.k - 1) (omega arith)) ∙ parts_shown (λ (parts : List Tree). slice_get parts c.args.k) _ _ _ (rose_of_type c.in-Declaration-2.d.now.typing ∷ map rose_of_declarator c.in-Declaration-2.d.now.names) c.in-Declaration-2.is refl

pub returns-in-Entry : goal.returns-in-Entry
returns-in-Entry c =
    c.either.ensures ∙ parts_shown (λ (parts : List Tree). slice_get parts c.args.k) _ _ _ (rose_of_expr c.in-Entry.entry.now.key ∷ rose_of_expr c.in-Entry.entry.now.value ∷ []) c.in-Entry.is (entry_is c.in-Entry.entry.now)

pub returns-in-Argument : goal.returns-in-Argument
returns-in-Argument c =
    c.only.ensures ∙ parts_shown (λ (parts : List Tree). slice_get parts c.args.k) _ _ _ (rose_of_expr c.in-Argument.argument.now.value ∷ []) c.in-Argument.is (argument_is c.in-Argument.argument.now)

pub returns-in-Link : goal.returns-in-Link
returns-in-Link c =
    c.only-in-Link.ensures ∙ parts_shown (λ (parts : List Tree). slice_get parts c.args.k) _ _ _ (rose_of_expr c.in-Link.link.now.operand ∷ []) c.in-Link.is (link_is c.in-Link.link.now)

pub returns-in-Comparison : goal.returns-in-Comparison
returns-in-Comparison c =
    c.only-in-Comparison.ensures ∙ parts_shown (λ (parts : List Tree). slice_get parts c.args.k) _ _ _ (rose_of_expr c.in-Comparison.comparison.now.operand ∷ []) c.in-Comparison.is (comparison_is c.in-Comparison.comparison.now)
