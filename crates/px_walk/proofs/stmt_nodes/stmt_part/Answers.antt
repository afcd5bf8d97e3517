use Rattle.std.proofs.Common.{◌-◌, [], ◌∷◌, ◌++◌, Some, map, sym, ap, ◌∙◌, arith}
use Rattle.std.specs.Prelude.{slice_get}
use Rattle.px_walk.specs.ExprView.{rose_of_expr}
use Rattle.px_walk.specs.StmtView.{rose_of_arm, rose_of_stmt, rose_of_declaration}
use Rattle.px_walk.proofs.StmtEquations.{of_Assign, of_Augment, of_Pass, of_Break, of_Continue, of_Return, of_Raise, of_Global, of_If, of_While, of_For, of_WithGil, of_WithNogil, of_Declare, of_DeclareGroup}
use Rattle.px_walk.proofs.Parts.{at_stmt, get-first, get-later}
use Rattle.px_walk.proofs.stmt_nodes.stmt_part.Goals as goal

pub returns-in-Assign : goal.returns-in-Assign
returns-in-Assign c =
    c.assign_part.ensures
    ∙ ap (λ xs. slice_get (map rose_of_expr xs ++ rose_of_expr c.in-Assign.value ∷ []) c.args.k) c.as_slice.ensures ∙ at_stmt (λ made. slice_get made.1 c.args.k) c.in-Assign.is (of_Assign _ _)

pub returns-in-Augment : goal.returns-in-Augment
returns-in-Augment c =
    c.either.ensures ∙ ap (λ e. slice_get (rose_of_expr c.in-Augment.target ∷ rose_of_expr e ∷ []) c.args.k) c.get.ensures
    ∙ at_stmt (λ made. slice_get made.1 c.args.k) c.in-Augment.is (of_Augment _ _ _)

pub returns-in-Pass : goal.returns-in-Pass
returns-in-Pass c = at_stmt (λ made. slice_get made.1 c.args.k) c.in-Pass.is of_Pass

pub returns-in-Break : goal.returns-in-Break
returns-in-Break c = at_stmt (λ made. slice_get made.1 c.args.k) c.in-Break.is of_Break

pub returns-in-Continue : goal.returns-in-Continue
returns-in-Continue c = at_stmt (λ made. slice_get made.1 c.args.k) c.in-Continue.is of_Continue

pub returns-in-Global : goal.returns-in-Global
returns-in-Global c = at_stmt (λ made. slice_get made.1 c.args.k) c.in-Global.is (of_Global _)

pub returns-in-Return : goal.returns-in-Return
returns-in-Return c = c.written.ensures ∙ at_stmt (λ made. slice_get made.1 c.args.k) c.in-Return.is (of_Return _)

pub returns-in-Raise : goal.returns-in-Raise
returns-in-Raise c = c.written_boxed.ensures ∙ at_stmt (λ made. slice_get made.1 c.args.k) c.in-Raise.is (of_Raise _ _)

pub returns-in-If : goal.returns-in-If
returns-in-If c =
    c.if_part.ensures
    ∙ ap (λ xs. slice_get (map rose_of_arm xs ++ map rose_of_stmt c.block_of.result.now) c.args.k) c.as_slice-in-If.ensures
    ∙ ap (λ xs. slice_get (map rose_of_arm c.in-If.arms ++ map rose_of_stmt xs) c.args.k) c.block_of.ensures
    ∙ at_stmt (λ made. slice_get made.1 c.args.k) c.in-If.is (of_If _ _)

pub returns-in-While : goal.returns-in-While
returns-in-While c = sym (get-first _ _ c.args.k c.if-k-eq0.true) ∙ at_stmt (λ made. slice_get made.1 c.args.k) c.in-While.is (of_While _ _)

pub returns-in-While-2 : goal.returns-in-While-2
returns-in-While-2 c =
    c.nth_stmt.ensures ∙ ap (λ xs. slice_get (map rose_of_stmt xs) (c.args.k - 1)) c.as_slice-in-While-2.ensures
    ∙ sym (get-later _ _ c.args.k (c.args.k - 1) (omega arith)) ∙ at_stmt (λ made. slice_get made.1 c.args.k) c.in-While-2.is (of_While _ _)

pub returns-in-For : goal.returns-in-For
returns-in-For c = sym (get-first _ (rose_of_expr c.in-For.field-1 ∷ map rose_of_stmt c.in-For.field-2) c.args.k c.if-k-eq0-2.true) ∙ at_stmt (λ made. slice_get made.1 c.args.k) c.in-For.is (of_For _ _ _)

pub returns-in-For-2 : goal.returns-in-For-2
returns-in-For-2 c =
    ap (λ e. Some (rose_of_expr e)) c.get-in-For-2.ensures
    ∙ sym (get-later _ (rose_of_expr c.in-For-2.value ∷ map rose_of_stmt c.in-For-2.field-2) c.args.k 0 (omega arith)) ∙ at_stmt (λ made. slice_get made.1 c.args.k) c.in-For-2.is (of_For _ _ _)

pub returns-in-For-3 : goal.returns-in-For-3
returns-in-For-3 c =
    c.nth_stmt-in-For-3.ensures ∙ ap (λ xs. slice_get (map rose_of_stmt xs) (c.args.k - 2)) c.as_slice-in-For-3.ensures
    ∙ sym (get-later (rose_of_expr c.in-For-3.field-1) _ (c.args.k - 1) (c.args.k - 2) (omega arith))
    ∙ sym (get-later _ (rose_of_expr c.in-For-3.field-1 ∷ map rose_of_stmt c.in-For-3.block) c.args.k (c.args.k - 1) (omega arith)) ∙ at_stmt (λ made. slice_get made.1 c.args.k) c.in-For-3.is (of_For _ _ _)

pub returns-in-WithGil : goal.returns-in-WithGil
returns-in-WithGil c = c.nth_stmt-in-WithGil.ensures ∙ ap (λ xs. slice_get (map rose_of_stmt xs) c.args.k) c.as_slice-in-WithGil.ensures ∙ at_stmt (λ made. slice_get made.1 c.args.k) c.in-WithGil.is (of_WithGil _)

pub returns-in-WithNogil : goal.returns-in-WithNogil
returns-in-WithNogil c = c.nth_stmt-in-WithNogil.ensures ∙ ap (λ xs. slice_get (map rose_of_stmt xs) c.args.k) c.as_slice-in-WithNogil.ensures ∙ at_stmt (λ made. slice_get made.1 c.args.k) c.in-WithNogil.is (of_WithNogil _)

pub returns-in-Declare : goal.returns-in-Declare
returns-in-Declare c = c.only.ensures ∙ at_stmt (λ made. slice_get made.1 c.args.k) c.in-Declare.is (of_Declare _)

pub returns-in-DeclareGroup : goal.returns-in-DeclareGroup
returns-in-DeclareGroup c = c.nth_declaration.ensures ∙ ap (λ xs. slice_get (map rose_of_declaration xs) c.args.k) c.as_slice-in-DeclareGroup.ensures ∙ at_stmt (λ made. slice_get made.1 c.args.k) c.in-DeclareGroup.is (of_DeclareGroup _)
