use Rattle.std.proofs.Common.{ap, ◌∙◌, length}
use Rattle.px_walk.specs.Forms as form
use Rattle.px_walk.proofs.StmtEquations.{of_Assign, of_Augment, of_Pass, of_Break, of_Continue, of_Return, of_Raise, of_Global, of_If, of_While, of_For, of_WithGil, of_WithNogil, of_Declare, of_DeclareGroup}
use Rattle.px_walk.proofs.Parts.{at_stmt}
use Rattle.px_walk.proofs.stmt_nodes.stmt_head.Goals as goal

pub returns-in-Assign : goal.returns-in-Assign
returns-in-Assign c = ap form.Assign c.len.ensures ∙ at_stmt (λ made. made.0) c.in-Assign.is (of_Assign _ _)

pub returns-in-Augment : goal.returns-in-Augment
returns-in-Augment c = at_stmt (λ made. made.0) c.in-Augment.is (of_Augment _ _ _)

pub returns-in-Pass : goal.returns-in-Pass
returns-in-Pass c = at_stmt (λ made. made.0) c.in-Pass.is of_Pass

pub returns-in-Break : goal.returns-in-Break
returns-in-Break c = at_stmt (λ made. made.0) c.in-Break.is of_Break

pub returns-in-Continue : goal.returns-in-Continue
returns-in-Continue c = at_stmt (λ made. made.0) c.in-Continue.is of_Continue

pub returns-in-Return : goal.returns-in-Return
returns-in-Return c = at_stmt (λ made. made.0) c.in-Return.is (of_Return _)

pub returns-in-Raise : goal.returns-in-Raise
returns-in-Raise c = ap form.Raise c.as_slice.ensures ∙ at_stmt (λ made. made.0) c.in-Raise.is (of_Raise _ _)

pub returns-in-Global : goal.returns-in-Global
returns-in-Global c = ap form.Global c.as_slice-in-Global.ensures ∙ at_stmt (λ made. made.0) c.in-Global.is (of_Global _)

pub returns-in-If : goal.returns-in-If
returns-in-If c = ap (λ n. form.If n c.is_some.result) c.len-in-If.ensures ∙ ap (form.If (length c.in-If.arms)) c.is_some.ensures ∙ at_stmt (λ made. made.0) c.in-If.is (of_If _ _)

pub returns-in-While : goal.returns-in-While
returns-in-While c = at_stmt (λ made. made.0) c.in-While.is (of_While _ _)

pub returns-in-For : goal.returns-in-For
returns-in-For c = at_stmt (λ made. made.0) c.in-For.is (of_For _ _ _)

pub returns-in-WithGil : goal.returns-in-WithGil
returns-in-WithGil c = at_stmt (λ made. made.0) c.in-WithGil.is (of_WithGil _)

pub returns-in-WithNogil : goal.returns-in-WithNogil
returns-in-WithNogil c = at_stmt (λ made. made.0) c.in-WithNogil.is (of_WithNogil _)

pub returns-in-Declare : goal.returns-in-Declare
returns-in-Declare c = at_stmt (λ made. made.0) c.in-Declare.is (of_Declare _)

pub returns-in-DeclareGroup : goal.returns-in-DeclareGroup
returns-in-DeclareGroup c = at_stmt (λ made. made.0) c.in-DeclareGroup.is (of_DeclareGroup _)
