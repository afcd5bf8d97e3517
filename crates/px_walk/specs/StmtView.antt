-- Statements as rose trees.
use Rattle.std.specs.Prelude.{List, [], ◌∷◌, ◌++◌, length, map, Option, Some, None, is_some}
use Rattle.px_tree.specs.declared.statements.Stmt.{Stmt}
use Rattle.px_tree.specs.declared.statements.StmtForm.{StmtForm}
use Rattle.px_tree.specs.declared.statements.Arm.{Arm}
use Rattle.px_tree.specs.declared.statements.Declaration.{Declaration}
use Rattle.px_tree.specs.declared.statements.Declarator.{Declarator}
use Rattle.px_tree.specs.declared.statements.StmtForm.TheFolds.{fold-Stmt, fold-Arm, fold-StmtForm}
use Rattle.px_tree.specs.declared.statements.StmtForm.TheOpen.{Stmt-F, StmtForm-F, Arm-F}
use Rattle.px_walk.specs.Forms.{Form}
use Rattle.px_walk.specs.Forms as form
use Rattle.px_walk.specs.ExprView.{Tree, node, if_written, rose_of_type, rose_of_expr}

abbrev pub rose_of_declarator : Declarator → Tree
rose_of_declarator declarator =
    node (form.Declarator declarator.name) declarator.number declarator.at (if_written rose_of_expr declarator.value)

abbrev pub rose_of_declaration : Declaration → Tree
rose_of_declaration declaration =
    node form.Declaration declaration.number declaration.at
    (rose_of_type declaration.typing ∷ map rose_of_declarator declaration.names)

-- the statements of a block that may be left out
abbrev pub block_if_written : Option (List Tree) → List Tree
block_if_written None = []
block_if_written (Some block) = block

abbrev pub block_of : Option (List Stmt) → List Stmt
block_of None = []
block_of (Some block) = block

-- what a statement is without its parts, and these
abbrev pub StmtLayer : (Type 0 → Type 0 → Type 0 → Type 0) → Type 0
StmtLayer F = F (Form × List Tree) Tree Tree

abbrev pub stmt_layer : StmtLayer StmtForm-F → Form × List Tree
stmt_layer (StmtForm-F.Assign targets value) = (form.Assign (length targets), map rose_of_expr targets ++ rose_of_expr value ∷ [])
stmt_layer (StmtForm-F.Augment target op value) = (form.Augment op, rose_of_expr target ∷ rose_of_expr value ∷ [])
stmt_layer StmtForm-F.Pass = (form.Pass, [])
stmt_layer StmtForm-F.Break = (form.Break, [])
stmt_layer StmtForm-F.Continue = (form.Continue, [])
stmt_layer (StmtForm-F.Return value) = (form.Return, if_written rose_of_expr value)
stmt_layer (StmtForm-F.Raise kind text) = (form.Raise kind, if_written rose_of_expr text)
stmt_layer (StmtForm-F.Global names) = (form.Global names, [])
stmt_layer (StmtForm-F.If arms otherwise) = (form.If (length arms) (is_some otherwise), arms ++ block_if_written otherwise)
stmt_layer (StmtForm-F.While test block) = (form.While, rose_of_expr test ∷ block)
stmt_layer (StmtForm-F.For target value block) = (form.For, rose_of_expr target ∷ rose_of_expr value ∷ block)
stmt_layer (StmtForm-F.WithGil block) = (form.WithGil, block)
stmt_layer (StmtForm-F.WithNogil block) = (form.WithNogil, block)
stmt_layer (StmtForm-F.Declare declaration) = (form.Declare, rose_of_declaration declaration ∷ [])
stmt_layer (StmtForm-F.DeclareGroup declarations) = (form.DeclareGroup, map rose_of_declaration declarations)

abbrev pub stmt_node : StmtLayer Stmt-F → Tree
stmt_node s = node s.form.0 s.number s.at s.form.1

abbrev pub arm_node : StmtLayer Arm-F → Tree
arm_node arm = node form.Arm arm.number arm.at (rose_of_expr arm.test ∷ arm.block)

unfoldable pub rose_of_stmt : Stmt → Tree
rose_of_stmt = fold-Stmt (Form × List Tree) Tree Tree stmt_layer arm_node stmt_node

unfoldable pub rose_of_arm : Arm → Tree
rose_of_arm = fold-Arm (Form × List Tree) Tree Tree stmt_layer arm_node stmt_node

-- what a statement is without its parts, and these
unfoldable pub stmt_parts : StmtForm → Form × List Tree
stmt_parts = fold-StmtForm (Form × List Tree) Tree Tree stmt_layer arm_node stmt_node
