-- What functions and variables are for what names them.
use Rattle.std.specs.Prelude.{ℕ, ◌+◌, Bool, true, false, if◌then◌else◌, nat_eq, List, [], ◌∷◌, ◌++◌, map, flat_map, filter_map, Option, Some, None, unwrap_or}
use Rattle.px_base.specs.declared.refusals.Span.{Span}
use Rattle.px_tree.specs.declared.typings.«Type».{«Type» as Typing}
use Rattle.px_tree.specs.declared.modules.FunctionKind.{FunctionKind}
use Rattle.px_tree.specs.declared.modules.FunctionKind.TheVariants as kind
use Rattle.px_tree.specs.declared.modules.ResultType.{ResultType}
use Rattle.px_tree.specs.declared.modules.ResultType.TheVariants as gives
use Rattle.px_tree.specs.declared.modules.Param.{Param}
use Rattle.px_tree.specs.declared.modules.Function.{Function}
use Rattle.px_tree.specs.declared.modules.Module.{Module}
use Rattle.px_tree.specs.declared.modules.ModuleItem.{ModuleItem}
use Rattle.px_tree.specs.declared.modules.ModuleItem.TheVariants as item
use Rattle.px_tree.specs.declared.statements.Stmt.{Stmt}
use Rattle.px_tree.specs.declared.typed_values.ValueType.{ValueType}
use Rattle.px_tree.specs.declared.typed_values.ValueType.TheVariants as value
use Rattle.px_tree.specs.declared.typed_modules.Local.{Local}
use Rattle.px_walk.specs.Forms.{Form}
use Rattle.px_walk.specs.Forms as form
use Rattle.px_walk.specs.Roses.{head_of, number_of, at_of, parts_of}
use Rattle.px_walk.specs.ExprView.{Tree}
use Rattle.px_walk.specs.StmtView.{rose_of_stmt}
use Rattle.px_names.specs.declared.named.NamedCode.{NamedCode}
use Rattle.px_names.specs.Kept.{meanings_kept}
use Rattle.px_environments.specs.WrittenTypes.{type_of_typing, first_type}
use Rattle.px_environments.specs.declared.signatures.Variable.{Variable}
use Rattle.px_environments.specs.declared.signatures.Signature.{Signature}
use Rattle.px_environments.specs.Environments.{Environment}

-- Signatures. A parameter without a type is an object, and a function without one gives an object.

abbrev pub param_type : Option Typing → Option ValueType
param_type None = Some value.Object
param_type (Some typing) = type_of_typing typing

abbrev pub result_type : ResultType → Option ValueType
result_type gives.Unwritten = Some value.Object
result_type gives.Void = Some value.Void
result_type (gives.Of typing) = type_of_typing typing

-- what is written and is no type counts as object where its refusal isn't asked for
abbrev pub or_object : Option ValueType → ValueType
or_object t = unwrap_or t value.Object

abbrev pub is_def : FunctionKind → Bool
is_def kind.Def = true
is_def kind.Cdef = false
is_def kind.Cpdef = false

abbrev pub gives_of : Function → ValueType
gives_of f = or_object (result_type f.gives)

abbrev pub value_type_of : Param → ValueType
value_type_of param = or_object (param_type param.typing)

abbrev pub signature_of : ℕ → Function → Signature
signature_of place f = record {
  place = place;
  is_def = is_def f.kind;
  params = map value_type_of f.params;
  gives = gives_of f;
}

-- the function of a number, where those of this list have their places from the first number on
abbrev pub function_in : ℕ → List Function → ℕ → Option Signature
function_in place [] number = None
function_in place (f ∷ functions) number =
    if nat_eq number f.number then Some (signature_of place f) else function_in (place + 1) functions number

-- Locals: the parameters, and the variables that the statements of a function's own block declare

abbrev pub local_of_param : Param → Local
local_of_param param = record { number = param.number; at = param.at; name = param.name; value_type = value_type_of param }

abbrev pub local_named : ValueType → ℕ → Span → Form → Option Local
local_named t number at (form.Declarator name) = Some (record { number = number; at = at; name = name; value_type = t })
local_named t number at _ = None

abbrev pub local_of_part : ValueType → Tree → Option Local
local_of_part t part = local_named t (number_of part) (at_of part) (head_of part)

abbrev pub locals_of_declaration : Tree → List Local
locals_of_declaration tree = filter_map (local_of_part (or_object (first_type (parts_of tree)))) (parts_of tree)

abbrev pub is_declare : Form → Bool
is_declare form.Declare = true
is_declare form.DeclareGroup = true
is_declare _ = false

abbrev pub locals_of_statement : Tree → List Local
locals_of_statement tree = if is_declare (head_of tree) then flat_map locals_of_declaration (parts_of tree) else []

abbrev pub locals_of : Function → List Local
locals_of f = map local_of_param f.params ++ flat_map (λ s. locals_of_statement (rose_of_stmt s)) f.body

-- the variable with the declaration of a number, where those of this list have their places from the first number on
abbrev pub variable_in : ℕ → List Local → ℕ → Option Variable
variable_in slot [] number = None
variable_in slot (local ∷ locals) number =
    if nat_eq number local.number then Some (record { slot = slot; value_type = local.value_type })
    else variable_in (slot + 1) locals number

-- Environments

abbrev pub code_environment : List Function → List Local → Option ValueType → NamedCode → Environment
code_environment functions locals gives code = record {
  meanings = meanings_kept code.scope;
  variables = variable_in 0 locals;
  functions = function_in 0 functions;
  cdivision = code.directives.cdivision;
  gives = gives;
}

abbrev pub function_environment : List Function → Function × NamedCode → Environment
function_environment functions (f, code) = code_environment functions (locals_of f) (Some (gives_of f)) code

abbrev pub module_environment : List Function → NamedCode → Environment
module_environment functions code = code_environment functions [] None code

abbrev pub statement_item : ModuleItem → Option Stmt
statement_item (item.Import imported) = None
statement_item (item.Function f) = None
statement_item (item.Statement s) = Some s

-- the statements of module code
abbrev pub statements_of : Module → List Stmt
statements_of m = filter_map statement_item m.items
