use Rattle.std.proofs.Common.{length, map, sym, ap, ◌∙◌}
use Rattle.std.proofs.lemmas.List.{length-map}
use Rattle.px_walk.specs.ExprView.{rose_of_expr}
use Rattle.px_walk.specs.StmtView.{block_of, rose_of_arm, rose_of_stmt, rose_of_declaration}
use Rattle.px_walk.proofs.StmtEquations.{of_Assign, of_Augment, of_Pass, of_Break, of_Continue, of_Return, of_Raise, of_Global, of_If, of_While, of_For, of_WithGil, of_WithNogil, of_Declare, of_DeclareGroup}
use Rattle.px_walk.proofs.Parts.{at_stmt, one_more, two_more, one_behind, joined_lengths, count-written}
use Rattle.px_walk.proofs.stmt_nodes.stmt_count.Goals as goal

pub returns-in-Assign : goal.returns-in-Assign
returns-in-Assign c = one_behind (map rose_of_expr c.in-Assign.targets) _ (ap length c.as_slice.ensures) (length-map c.in-Assign.targets rose_of_expr) ∙ at_stmt (λ made. length made.1) c.in-Assign.is (of_Assign _ _)

pub returns-in-Augment : goal.returns-in-Augment
returns-in-Augment c = at_stmt (λ made. length made.1) c.in-Augment.is (of_Augment _ _ _)

pub returns-in-Pass : goal.returns-in-Pass
returns-in-Pass c = at_stmt (λ made. length made.1) c.in-Pass.is of_Pass

pub returns-in-Break : goal.returns-in-Break
returns-in-Break c = at_stmt (λ made. length made.1) c.in-Break.is of_Break

pub returns-in-Continue : goal.returns-in-Continue
returns-in-Continue c = at_stmt (λ made. length made.1) c.in-Continue.is of_Continue

pub returns-in-Return : goal.returns-in-Return
returns-in-Return c = c.count_of.ensures ∙ sym (count-written rose_of_expr c.in-Return.value) ∙ at_stmt (λ made. length made.1) c.in-Return.is (of_Return _)

pub returns-in-Raise : goal.returns-in-Raise
returns-in-Raise c = c.count_of-in-Raise.ensures ∙ sym (count-written rose_of_expr c.in-Raise.text) ∙ at_stmt (λ made. length made.1) c.in-Raise.is (of_Raise _ _)

pub returns-in-Global : goal.returns-in-Global
returns-in-Global c = at_stmt (λ made. length made.1) c.in-Global.is (of_Global _)

pub returns-in-If : goal.returns-in-If
returns-in-If c = joined_lengths (map rose_of_arm c.in-If.arms) (map rose_of_stmt (block_of c.in-If.otherwise)) (ap length c.as_slice-in-If.ensures) (ap length c.block_of.ensures) (length-map c.in-If.arms rose_of_arm) (length-map (block_of c.in-If.otherwise) rose_of_stmt) ∙ at_stmt (λ made. length made.1) c.in-If.is (of_If _ _)

pub returns-in-While : goal.returns-in-While
returns-in-While c = one_more (ap length c.as_slice-in-While.ensures ∙ sym (length-map c.in-While.block rose_of_stmt)) ∙ at_stmt (λ made. length made.1) c.in-While.is (of_While _ _)

pub returns-in-For : goal.returns-in-For
returns-in-For c = two_more (ap length c.as_slice-in-For.ensures ∙ sym (length-map c.in-For.block rose_of_stmt)) ∙ at_stmt (λ made. length made.1) c.in-For.is (of_For _ _ _)

pub returns-in-WithGil : goal.returns-in-WithGil
returns-in-WithGil c = c.len.ensures ∙ sym (length-map c.in-WithGil.block rose_of_stmt) ∙ at_stmt (λ made. length made.1) c.in-WithGil.is (of_WithGil _)

pub returns-in-WithNogil : goal.returns-in-WithNogil
returns-in-WithNogil c = c.len-in-WithNogil.ensures ∙ sym (length-map c.in-WithNogil.block rose_of_stmt) ∙ at_stmt (λ made. length made.1) c.in-WithNogil.is (of_WithNogil _)

pub returns-in-Declare : goal.returns-in-Declare
returns-in-Declare c = at_stmt (λ made. length made.1) c.in-Declare.is (of_Declare _)

pub returns-in-DeclareGroup : goal.returns-in-DeclareGroup
returns-in-DeclareGroup c = c.len-in-DeclareGroup.ensures ∙ sym (length-map c.in-DeclareGroup.declarations rose_of_declaration) ∙ at_stmt (λ made. length made.1) c.in-DeclareGroup.is (of_DeclareGroup _)
