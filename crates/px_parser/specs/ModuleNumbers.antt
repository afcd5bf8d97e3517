-- The numbers of the nodes of a module: its own, and those of its items, imported names, statements, declared variables, expressions
-- and types.
use Rattle.std.specs.Prelude.{ℕ, List, [], ◌∷◌, ◌++◌, map, Option, Some, None}
use Rattle.std.specs.List.{concat}
use Rattle.px_tree.specs.declared.typings.«Type».{«Type» as Typing}
use Rattle.px_tree.specs.declared.statements.Declaration.{Declaration}
use Rattle.px_tree.specs.declared.statements.Declarator.{Declarator}
use Rattle.px_tree.specs.declared.statements.Stmt.{Stmt}
use Rattle.px_tree.specs.declared.statements.StmtForm.TheFolds.{fold-Stmt}
use Rattle.px_tree.specs.declared.statements.StmtForm.TheOpen.{Stmt-F, StmtForm-F, Arm-F}
use Rattle.px_tree.specs.declared.modules.ImportedName.{ImportedName}
use Rattle.px_tree.specs.declared.modules.ImportForm.{ImportForm}
use Rattle.px_tree.specs.declared.modules.ImportForm.TheVariants as imports
use Rattle.px_tree.specs.declared.modules.Import.{Import}
use Rattle.px_tree.specs.declared.modules.Decorator.{Decorator}
use Rattle.px_tree.specs.declared.modules.ResultType.{ResultType}
use Rattle.px_tree.specs.declared.modules.ResultType.TheVariants as result_type
use Rattle.px_tree.specs.declared.modules.ExceptionForm.{ExceptionForm}
use Rattle.px_tree.specs.declared.modules.ExceptionForm.TheVariants as exception
use Rattle.px_tree.specs.declared.modules.Param.{Param}
use Rattle.px_tree.specs.declared.modules.Function.{Function}
use Rattle.px_tree.specs.declared.modules.ModuleItem.{ModuleItem}
use Rattle.px_tree.specs.declared.modules.ModuleItem.TheVariants as module_item
use Rattle.px_tree.specs.declared.modules.Module.{Module}
use Rattle.px_exprs.specs.NodeNumbers.{node_numbers}

-- those in a part that may be left out
abbrev pub numbers_in_part : {A : Type 0} → (A → List ℕ) → Option A → List ℕ
numbers_in_part numbers None = []
numbers_in_part numbers (Some part) = numbers part

-- those in parts, in their order
abbrev pub numbers_in_each : {A : Type 0} → (A → List ℕ) → List A → List ℕ
numbers_in_each numbers parts = concat (map numbers parts)

-- Statements

abbrev pub typing_numbers : Typing → List ℕ
typing_numbers typing = typing.number ∷ []

abbrev pub declarator_numbers : Declarator → List ℕ
declarator_numbers declarator = declarator.number ∷ numbers_in_part node_numbers declarator.value

abbrev pub declaration_numbers : Declaration → List ℕ
declaration_numbers declaration = declaration.number ∷ (declaration.typing.number ∷ numbers_in_each declarator_numbers declaration.names)

-- one layer of the data of a statement, with the numbers in each part in its place
abbrev pub Layer : (Type 0 → Type 0 → Type 0 → Type 0) → Type 0
Layer F = F (List ℕ) (List ℕ) (List ℕ)

-- those in what a statement is, without its own
abbrev pub numbers_in_statement : Layer StmtForm-F → List ℕ
numbers_in_statement (StmtForm-F.Assign targets value) = numbers_in_each node_numbers targets ++ node_numbers value
numbers_in_statement (StmtForm-F.Augment target op value) = node_numbers target ++ node_numbers value
numbers_in_statement StmtForm-F.Pass = []
numbers_in_statement StmtForm-F.Break = []
numbers_in_statement StmtForm-F.Continue = []
numbers_in_statement (StmtForm-F.Return value) = numbers_in_part node_numbers value
numbers_in_statement (StmtForm-F.Raise kind text) = numbers_in_part node_numbers text
numbers_in_statement (StmtForm-F.Global names) = []
numbers_in_statement (StmtForm-F.If arms otherwise) = concat arms ++ numbers_in_part concat otherwise
numbers_in_statement (StmtForm-F.While test block) = node_numbers test ++ concat block
numbers_in_statement (StmtForm-F.For target value block) = node_numbers target ++ (node_numbers value ++ concat block)
numbers_in_statement (StmtForm-F.WithGil block) = concat block
numbers_in_statement (StmtForm-F.WithNogil block) = concat block
numbers_in_statement (StmtForm-F.Declare declaration) = declaration_numbers declaration
numbers_in_statement (StmtForm-F.DeclareGroup declarations) = numbers_in_each declaration_numbers declarations

abbrev pub numbers_of_statement : Layer Stmt-F → List ℕ
numbers_of_statement s = s.number ∷ s.form

abbrev pub numbers_of_arm : Layer Arm-F → List ℕ
numbers_of_arm arm = arm.number ∷ (node_numbers arm.test ++ concat arm.block)

-- the number of a statement, and those of all nodes in it
abbrev pub statement_numbers : Stmt → List ℕ
statement_numbers = fold-Stmt (List ℕ) (List ℕ) (List ℕ) numbers_in_statement numbers_of_arm numbers_of_statement

-- Modules

abbrev pub decorator_numbers : Decorator → List ℕ
decorator_numbers decorator = decorator.number ∷ []

abbrev pub result_numbers : ResultType → List ℕ
result_numbers result_type.Unwritten = []
result_numbers result_type.Void = []
result_numbers (result_type.Of typing) = typing_numbers typing

abbrev pub parameter_numbers : Param → List ℕ
parameter_numbers parameter = parameter.number ∷ numbers_in_part typing_numbers parameter.typing

abbrev pub exception_numbers : ExceptionForm → List ℕ
exception_numbers exception.Unwritten = []
exception_numbers exception.Noexcept = []
exception_numbers (exception.Except value) = node_numbers value
exception_numbers (exception.Maybe value) = node_numbers value
exception_numbers exception.Any = []

abbrev pub function_numbers : Function → List ℕ
function_numbers f =
    f.number ∷ (numbers_in_each decorator_numbers f.decorators ++ (result_numbers f.gives ++ (numbers_in_each parameter_numbers f.params ++ (exception_numbers f.exception ++ numbers_in_each statement_numbers f.body))))

abbrev pub imported_numbers : ImportedName → List ℕ
imported_numbers imported = imported.number ∷ []

-- those of what `from` imports
abbrev pub numbers_in_import : ImportForm → List ℕ
numbers_in_import (imports.Whole names alias) = []
numbers_in_import (imports.Parts names parts) = numbers_in_each imported_numbers parts

abbrev pub import_numbers : Import → List ℕ
import_numbers x = x.number ∷ numbers_in_import x.form

abbrev pub item_numbers : ModuleItem → List ℕ
item_numbers (module_item.Import x) = import_numbers x
item_numbers (module_item.Function f) = function_numbers f
item_numbers (module_item.Statement s) = statement_numbers s

-- the number of a module, and those of all nodes in it, each node before its parts
abbrev pub module_numbers : Module → List ℕ
module_numbers m = m.number ∷ numbers_in_each item_numbers m.items
