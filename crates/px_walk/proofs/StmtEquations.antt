-- Statements as rose trees, one equation for each form.
use Rattle.std.proofs.Common.{◌≡◌, ℕ, true, false, List, [], ◌∷◌, ◌++◌, length, Option, Some, None, map, sym, ap, ◌∙◌}
use Rattle.std.specs.Prelude.{is_some}
use Rattle.std.proofs.lemmas.List.{length-map}
use Rattle.px_base.specs.declared.c_types.BinOp.{BinOp}
use Rattle.px_tree.specs.declared.expressions.Expr.{Expr}
use Rattle.px_tree.specs.declared.statements.Stmt.{Stmt}
use Rattle.px_tree.specs.declared.statements.Arm.{Arm, out-Arm, roll-out-Arm}
use Rattle.px_tree.specs.declared.statements.Declaration.{Declaration}
use Rattle.px_tree.specs.declared.statements.StmtForm.TheOpen.{StmtForm-F}
use Rattle.px_tree.specs.declared.statements.StmtForm.TheFolds.{fold-roll-StmtForm, fold-roll-Arm, fold-roll-Stmt}
use Rattle.px_tree.specs.declared.statements.StmtForm.TheVariants as variant
use Rattle.px_tree.specs.declared.statements.StmtForm.TheVariants.{rolls-Assign, rolls-Augment, rolls-Pass, rolls-Break, rolls-Continue, rolls-Return, rolls-Raise, rolls-Global, rolls-If, rolls-While, rolls-For, rolls-WithGil, rolls-WithNogil, rolls-Declare, rolls-DeclareGroup}
use Rattle.px_walk.specs.Forms.{Form}
use Rattle.px_walk.specs.Forms as form
use Rattle.px_walk.specs.ExprView.{Tree, node, if_written, rose_of_expr}
use Rattle.px_walk.specs.StmtView.{rose_of_declaration, block_of, stmt_layer, stmt_node, arm_node, rose_of_stmt, rose_of_arm, stmt_parts}

-- Structs

pub arm_is : (arm : Arm) → rose_of_arm arm ≡ node form.Arm (out-Arm arm).number (out-Arm arm).at (rose_of_expr (out-Arm arm).test ∷ map rose_of_stmt (out-Arm arm).block)
unfolding rose_of_stmt rose_of_arm stmt_parts
arm_is arm = ap rose_of_arm (sym (roll-out-Arm arm)) ∙ fold-roll-Arm (Form × List Tree) Tree Tree stmt_layer arm_node stmt_node (out-Arm arm)

pub stmt_is : (s : Stmt) → rose_of_stmt s ≡ node (stmt_parts s.form).0 s.number s.at (stmt_parts s.form).1
unfolding rose_of_stmt rose_of_arm stmt_parts
stmt_is s = fold-roll-Stmt (Form × List Tree) Tree Tree stmt_layer arm_node stmt_node (record { number = s.number; at = s.at; form = s.form })

-- Forms

pub of_Assign : (targets : List Expr) (value : Expr) → stmt_parts (variant.Assign targets value) ≡ (form.Assign (length targets), map rose_of_expr targets ++ rose_of_expr value ∷ [])
unfolding rose_of_stmt rose_of_arm stmt_parts
of_Assign targets value = ap stmt_parts (sym (rolls-Assign targets value)) ∙ fold-roll-StmtForm (Form × List Tree) Tree Tree stmt_layer arm_node stmt_node (StmtForm-F.Assign targets value)

pub of_Augment : (target : Expr) (op : BinOp) (value : Expr) → stmt_parts (variant.Augment target op value) ≡ (form.Augment op, rose_of_expr target ∷ rose_of_expr value ∷ [])
unfolding rose_of_stmt rose_of_arm stmt_parts
of_Augment target op value = ap stmt_parts (sym (rolls-Augment target op value)) ∙ fold-roll-StmtForm (Form × List Tree) Tree Tree stmt_layer arm_node stmt_node (StmtForm-F.Augment target op value)

pub of_Pass : stmt_parts variant.Pass ≡ (form.Pass, [])
unfolding rose_of_stmt rose_of_arm stmt_parts
of_Pass = ap stmt_parts (sym rolls-Pass) ∙ fold-roll-StmtForm (Form × List Tree) Tree Tree stmt_layer arm_node stmt_node StmtForm-F.Pass

pub of_Break : stmt_parts variant.Break ≡ (form.Break, [])
unfolding rose_of_stmt rose_of_arm stmt_parts
of_Break = ap stmt_parts (sym rolls-Break) ∙ fold-roll-StmtForm (Form × List Tree) Tree Tree stmt_layer arm_node stmt_node StmtForm-F.Break

pub of_Continue : stmt_parts variant.Continue ≡ (form.Continue, [])
unfolding rose_of_stmt rose_of_arm stmt_parts
of_Continue = ap stmt_parts (sym rolls-Continue) ∙ fold-roll-StmtForm (Form × List Tree) Tree Tree stmt_layer arm_node stmt_node StmtForm-F.Continue

pub of_Return : (value : Option Expr) → stmt_parts (variant.Return value) ≡ (form.Return, if_written rose_of_expr value)
unfolding rose_of_stmt rose_of_arm stmt_parts
of_Return value = ap stmt_parts (sym (rolls-Return value)) ∙ fold-roll-StmtForm (Form × List Tree) Tree Tree stmt_layer arm_node stmt_node (StmtForm-F.Return value)

pub of_Raise : (kind : List ℕ) (text : Option Expr) → stmt_parts (variant.Raise kind text) ≡ (form.Raise kind, if_written rose_of_expr text)
unfolding rose_of_stmt rose_of_arm stmt_parts
of_Raise kind text = ap stmt_parts (sym (rolls-Raise kind text)) ∙ fold-roll-StmtForm (Form × List Tree) Tree Tree stmt_layer arm_node stmt_node (StmtForm-F.Raise kind text)

pub of_Global : (names : List (List ℕ)) → stmt_parts (variant.Global names) ≡ (form.Global names, [])
unfolding rose_of_stmt rose_of_arm stmt_parts
of_Global names = ap stmt_parts (sym (rolls-Global names)) ∙ fold-roll-StmtForm (Form × List Tree) Tree Tree stmt_layer arm_node stmt_node (StmtForm-F.Global names)

pub of_If : (arms : List Arm) (otherwise : Option (List Stmt)) → stmt_parts (variant.If arms otherwise) ≡ (form.If (length arms) (is_some otherwise), map rose_of_arm arms ++ map rose_of_stmt (block_of otherwise))
unfolding rose_of_stmt rose_of_arm stmt_parts
of_If arms None = ap stmt_parts (sym (rolls-If arms None)) ∙ fold-roll-StmtForm (Form × List Tree) Tree Tree stmt_layer arm_node stmt_node (StmtForm-F.If arms None) ∙ ap (λ (n : ℕ). (form.If n false, map rose_of_arm arms ++ [])) (length-map arms rose_of_arm)
of_If arms (Some block) = ap stmt_parts (sym (rolls-If arms (Some block))) ∙ fold-roll-StmtForm (Form × List Tree) Tree Tree stmt_layer arm_node stmt_node (StmtForm-F.If arms (Some block)) ∙ ap (λ (n : ℕ). (form.If n true, map rose_of_arm arms ++ map rose_of_stmt block)) (length-map arms rose_of_arm)

pub of_While : (test : Expr) (block : List Stmt) → stmt_parts (variant.While test block) ≡ (form.While, rose_of_expr test ∷ map rose_of_stmt block)
unfolding rose_of_stmt rose_of_arm stmt_parts
of_While test block = ap stmt_parts (sym (rolls-While test block)) ∙ fold-roll-StmtForm (Form × List Tree) Tree Tree stmt_layer arm_node stmt_node (StmtForm-F.While test block)

pub of_For : (target : Expr) (value : Expr) (block : List Stmt) → stmt_parts (variant.For target value block) ≡ (form.For, rose_of_expr target ∷ rose_of_expr value ∷ map rose_of_stmt block)
unfolding rose_of_stmt rose_of_arm stmt_parts
of_For target value block = ap stmt_parts (sym (rolls-For target value block)) ∙ fold-roll-StmtForm (Form × List Tree) Tree Tree stmt_layer arm_node stmt_node (StmtForm-F.For target value block)

pub of_WithGil : (block : List Stmt) → stmt_parts (variant.WithGil block) ≡ (form.WithGil, map rose_of_stmt block)
unfolding rose_of_stmt rose_of_arm stmt_parts
of_WithGil block = ap stmt_parts (sym (rolls-WithGil block)) ∙ fold-roll-StmtForm (Form × List Tree) Tree Tree stmt_layer arm_node stmt_node (StmtForm-F.WithGil block)

pub of_WithNogil : (block : List Stmt) → stmt_parts (variant.WithNogil block) ≡ (form.WithNogil, map rose_of_stmt block)
unfolding rose_of_stmt rose_of_arm stmt_parts
of_WithNogil block = ap stmt_parts (sym (rolls-WithNogil block)) ∙ fold-roll-StmtForm (Form × List Tree) Tree Tree stmt_layer arm_node stmt_node (StmtForm-F.WithNogil block)

pub of_Declare : (declaration : Declaration) → stmt_parts (variant.Declare declaration) ≡ (form.Declare, rose_of_declaration declaration ∷ [])
unfolding rose_of_stmt rose_of_arm stmt_parts
of_Declare declaration = ap stmt_parts (sym (rolls-Declare declaration)) ∙ fold-roll-StmtForm (Form × List Tree) Tree Tree stmt_layer arm_node stmt_node (StmtForm-F.Declare declaration)

pub of_DeclareGroup : (declarations : List Declaration) → stmt_parts (variant.DeclareGroup declarations) ≡ (form.DeclareGroup, map rose_of_declaration declarations)
unfolding rose_of_stmt rose_of_arm stmt_parts
of_DeclareGroup declarations = ap stmt_parts (sym (rolls-DeclareGroup declarations)) ∙ fold-roll-StmtForm (Form × List Tree) Tree Tree stmt_layer arm_node stmt_node (StmtForm-F.DeclareGroup declarations)
