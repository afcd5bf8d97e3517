-- The numbers of the nodes of a statement, one equation for each form.
use Rattle.std.proofs.Common.{◌≡◌, ℕ, List, [], ◌∷◌, ◌++◌, Option, Some, None, sym, ap, ◌∙◌}
use Rattle.px_base.specs.declared.refusals.Span.{Span}
use Rattle.px_base.specs.declared.c_types.BinOp.{BinOp}
use Rattle.px_tree.specs.declared.expressions.Expr.{Expr}
use Rattle.px_tree.specs.declared.statements.Declaration.{Declaration}
use Rattle.px_tree.specs.declared.statements.Stmt.{Stmt}
use Rattle.px_tree.specs.declared.statements.Arm.{Arm}
use Rattle.px_tree.specs.declared.statements.StmtForm.{StmtForm}
use Rattle.px_tree.specs.declared.statements.StmtForm.TheOpen.{StmtForm-F}
use Rattle.px_tree.specs.declared.statements.StmtForm.TheFolds.{fold-StmtForm, fold-Arm, fold-roll-StmtForm, fold-roll-Arm, fold-roll-Stmt}
use Rattle.px_tree.specs.declared.statements.StmtForm.TheVariants as statement
use Rattle.px_tree.specs.declared.statements.StmtForm.TheVariants.{rolls-Assign, rolls-Augment, rolls-Pass, rolls-Break, rolls-Continue, rolls-Return, rolls-Raise, rolls-Global, rolls-If, rolls-While, rolls-For, rolls-WithGil, rolls-WithNogil, rolls-Declare, rolls-DeclareGroup}
use Rattle.px_exprs.specs.NodeNumbers.{node_numbers}
use Rattle.px_parser.specs.StatementGrammar.{statement_node, arm_node}
use Rattle.px_parser.specs.ModuleNumbers.{numbers_in_part, numbers_in_each, declaration_numbers, numbers_in_statement, numbers_of_arm, numbers_of_statement, statement_numbers}

-- the numbers of the nodes in each other type of the cycle

abbrev pub form_numbers : StmtForm → List ℕ
form_numbers = fold-StmtForm (List ℕ) (List ℕ) (List ℕ) numbers_in_statement numbers_of_arm numbers_of_statement

abbrev pub arm_numbers : Arm → List ℕ
arm_numbers = fold-Arm (List ℕ) (List ℕ) (List ℕ) numbers_in_statement numbers_of_arm numbers_of_statement

abbrev pub block_numbers : List Stmt → List ℕ
block_numbers block = numbers_in_each statement_numbers block

-- Structs

pub of_statement : (k : ℕ) (at : Span) (f : StmtForm) → statement_numbers (statement_node k at f) ≡ k ∷ form_numbers f
of_statement k at f = fold-roll-Stmt (List ℕ) (List ℕ) (List ℕ) numbers_in_statement numbers_of_arm numbers_of_statement (record { number = k; at = at; form = f })

pub of_arm : (k : ℕ) (at : Span) (test : Expr) (block : List Stmt) → arm_numbers (arm_node k at test block) ≡ k ∷ (node_numbers test ++ block_numbers block)
of_arm k at test block = fold-roll-Arm (List ℕ) (List ℕ) (List ℕ) numbers_in_statement numbers_of_arm numbers_of_statement (record { number = k; at = at; test = test; block = block })

-- Forms

pub of_Assign : (targets : List Expr) (value : Expr) → form_numbers (statement.Assign targets value) ≡ numbers_in_each node_numbers targets ++ node_numbers value
of_Assign targets value = ap form_numbers (sym (rolls-Assign targets value)) ∙ fold-roll-StmtForm (List ℕ) (List ℕ) (List ℕ) numbers_in_statement numbers_of_arm numbers_of_statement (StmtForm-F.Assign targets value)

pub of_Augment : (target : Expr) (op : BinOp) (value : Expr) → form_numbers (statement.Augment target op value) ≡ node_numbers target ++ node_numbers value
of_Augment target op value = ap form_numbers (sym (rolls-Augment target op value)) ∙ fold-roll-StmtForm (List ℕ) (List ℕ) (List ℕ) numbers_in_statement numbers_of_arm numbers_of_statement (StmtForm-F.Augment target op value)

pub of_Pass : form_numbers statement.Pass ≡ []
of_Pass = ap form_numbers (sym rolls-Pass) ∙ fold-roll-StmtForm (List ℕ) (List ℕ) (List ℕ) numbers_in_statement numbers_of_arm numbers_of_statement StmtForm-F.Pass

pub of_Break : form_numbers statement.Break ≡ []
of_Break = ap form_numbers (sym rolls-Break) ∙ fold-roll-StmtForm (List ℕ) (List ℕ) (List ℕ) numbers_in_statement numbers_of_arm numbers_of_statement StmtForm-F.Break

pub of_Continue : form_numbers statement.Continue ≡ []
of_Continue = ap form_numbers (sym rolls-Continue) ∙ fold-roll-StmtForm (List ℕ) (List ℕ) (List ℕ) numbers_in_statement numbers_of_arm numbers_of_statement StmtForm-F.Continue

pub of_Return : (value : Option Expr) → form_numbers (statement.Return value) ≡ numbers_in_part node_numbers value
of_Return value = ap form_numbers (sym (rolls-Return value)) ∙ fold-roll-StmtForm (List ℕ) (List ℕ) (List ℕ) numbers_in_statement numbers_of_arm numbers_of_statement (StmtForm-F.Return value)

pub of_Raise : (name : List ℕ) (text : Option Expr) → form_numbers (statement.Raise name text) ≡ numbers_in_part node_numbers text
of_Raise name text = ap form_numbers (sym (rolls-Raise name text)) ∙ fold-roll-StmtForm (List ℕ) (List ℕ) (List ℕ) numbers_in_statement numbers_of_arm numbers_of_statement (StmtForm-F.Raise name text)

pub of_Global : (names : List (List ℕ)) → form_numbers (statement.Global names) ≡ []
of_Global names = ap form_numbers (sym (rolls-Global names)) ∙ fold-roll-StmtForm (List ℕ) (List ℕ) (List ℕ) numbers_in_statement numbers_of_arm numbers_of_statement (StmtForm-F.Global names)

pub of_If : (arms : List Arm) (otherwise : Option (List Stmt)) → form_numbers (statement.If arms otherwise) ≡ numbers_in_each arm_numbers arms ++ numbers_in_part block_numbers otherwise
of_If arms None = ap form_numbers (sym (rolls-If arms None)) ∙ fold-roll-StmtForm (List ℕ) (List ℕ) (List ℕ) numbers_in_statement numbers_of_arm numbers_of_statement (StmtForm-F.If arms None)
of_If arms (Some block) = ap form_numbers (sym (rolls-If arms (Some block))) ∙ fold-roll-StmtForm (List ℕ) (List ℕ) (List ℕ) numbers_in_statement numbers_of_arm numbers_of_statement (StmtForm-F.If arms (Some block))

pub of_While : (test : Expr) (block : List Stmt) → form_numbers (statement.While test block) ≡ node_numbers test ++ block_numbers block
of_While test block = ap form_numbers (sym (rolls-While test block)) ∙ fold-roll-StmtForm (List ℕ) (List ℕ) (List ℕ) numbers_in_statement numbers_of_arm numbers_of_statement (StmtForm-F.While test block)

pub of_For : (target : Expr) (value : Expr) (block : List Stmt) → form_numbers (statement.For target value block) ≡ node_numbers target ++ (node_numbers value ++ block_numbers block)
of_For target value block = ap form_numbers (sym (rolls-For target value block)) ∙ fold-roll-StmtForm (List ℕ) (List ℕ) (List ℕ) numbers_in_statement numbers_of_arm numbers_of_statement (StmtForm-F.For target value block)

pub of_WithGil : (block : List Stmt) → form_numbers (statement.WithGil block) ≡ block_numbers block
of_WithGil block = ap form_numbers (sym (rolls-WithGil block)) ∙ fold-roll-StmtForm (List ℕ) (List ℕ) (List ℕ) numbers_in_statement numbers_of_arm numbers_of_statement (StmtForm-F.WithGil block)

pub of_WithNogil : (block : List Stmt) → form_numbers (statement.WithNogil block) ≡ block_numbers block
of_WithNogil block = ap form_numbers (sym (rolls-WithNogil block)) ∙ fold-roll-StmtForm (List ℕ) (List ℕ) (List ℕ) numbers_in_statement numbers_of_arm numbers_of_statement (StmtForm-F.WithNogil block)

pub of_Declare : (declaration : Declaration) → form_numbers (statement.Declare declaration) ≡ declaration_numbers declaration
of_Declare declaration = ap form_numbers (sym (rolls-Declare declaration)) ∙ fold-roll-StmtForm (List ℕ) (List ℕ) (List ℕ) numbers_in_statement numbers_of_arm numbers_of_statement (StmtForm-F.Declare declaration)

pub of_DeclareGroup : (declarations : List Declaration) → form_numbers (statement.DeclareGroup declarations) ≡ numbers_in_each declaration_numbers declarations
of_DeclareGroup declarations = ap form_numbers (sym (rolls-DeclareGroup declarations)) ∙ fold-roll-StmtForm (List ℕ) (List ℕ) (List ℕ) numbers_in_statement numbers_of_arm numbers_of_statement (StmtForm-F.DeclareGroup declarations)
