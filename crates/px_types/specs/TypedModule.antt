-- The types of functions and modules.
use Rattle.std.specs.Prelude.{ℕ, Bool, true, false, if◌then◌else◌, List, [], ◌∷◌, length, map, zip, Option, Some, None, Ok}
use Rattle.std.specs.List.{list_any}
use Rattle.px_base.specs.declared.refusals.Span.{Span}
use Rattle.px_base.specs.declared.objects.Constant.{Constant}
use Rattle.px_base.specs.declared.objects.Constant.TheVariants as constant
use Rattle.px_tree.specs.declared.modules.FunctionKind.{FunctionKind}
use Rattle.px_tree.specs.declared.modules.Lock.{Lock}
use Rattle.px_tree.specs.declared.modules.ExceptionForm.{ExceptionForm}
use Rattle.px_tree.specs.declared.modules.ExceptionForm.TheVariants as exception
use Rattle.px_tree.specs.declared.modules.Param.{Param}
use Rattle.px_tree.specs.declared.modules.Function.{Function}
use Rattle.px_tree.specs.declared.statements.Stmt.{Stmt}
use Rattle.px_tree.specs.declared.typed_values.ValueType.{ValueType}
use Rattle.px_tree.specs.declared.typed_values.ValueType.TheVariants as value
use Rattle.px_tree.specs.declared.typed_modules.Local.{Local}
use Rattle.px_tree.specs.declared.typed_modules.TypedFunction.{TypedFunction}
use Rattle.px_tree.specs.declared.typed_modules.Typed.{Typed}
use Rattle.px_walk.specs.StmtView.{rose_of_stmt}
use Rattle.px_typed_walk.specs.TypedView.{TypedRose, rose_of_typed}
use Rattle.px_names.specs.declared.named.NamedCode.{NamedCode}
use Rattle.px_names.specs.declared.named.Named.{Named}
use Rattle.px_names.specs.NamedModule.{functions_of}
use Rattle.px_operators.specs.Outcomes.{Outcome, refused, mapped, both, all_of}
use Rattle.px_environments.specs.Environments.{Environment}
use Rattle.px_types.specs.Statements.{statement}
use Rattle.px_environments.specs.Signatures.{param_type, result_type, gives_of, locals_of, function_environment, module_environment, statements_of}

-- A type that isn't one is refused at the parameter, or for a result at the function; so is `not None` behind what isn't a view.

abbrev pub param_of_type : Span → Bool → Option ValueType → Outcome ValueType
param_of_type at is_not_none None = refused at
param_of_type at is_not_none (Some (value.View t)) = Ok (value.View t)
param_of_type at true (Some t) = refused at
param_of_type at false (Some t) = Ok t

abbrev pub param_outcome : Param → Outcome ValueType
param_outcome param = param_of_type param.at param.is_not_none (param_type param.typing)

abbrev pub result_of_type : Span → Option ValueType → Outcome ValueType
result_of_type at None = refused at
result_of_type at (Some t) = Ok t

abbrev pub result_outcome : Function → Outcome ValueType
result_outcome f = result_of_type f.at (result_type f.gives)

-- Functions

pub record FunctionTypes : Type 0 where
  pub number : ℕ
  pub at : Span
  pub header_at : Span
  pub kind : FunctionKind
  pub name : List ℕ
  pub params : ℕ
  pub locals : List Local
  pub gives : ValueType
  pub is_noexcept : Bool
  pub lock : Lock
  pub body : List TypedRose

abbrev pub is_noexcept : ExceptionForm → Bool
is_noexcept exception.Noexcept = true
is_noexcept _ = false

abbrev pub function_with : Function → List TypedRose → FunctionTypes
function_with f body = record {
  number = f.number;
  at = f.at;
  header_at = f.header_at;
  kind = f.kind;
  name = f.name;
  params = length f.params;
  locals = locals_of f;
  gives = gives_of f;
  is_noexcept = is_noexcept f.exception;
  lock = f.lock;
  body = body;
}

abbrev pub header_outcome : Function → Outcome (List ValueType × ValueType)
header_outcome f = both (all_of (map param_outcome f.params)) (result_outcome f)

abbrev pub block : Environment → List Stmt → Outcome (List TypedRose)
block environment stmts = all_of (map (λ s. statement environment false (rose_of_stmt s)) stmts)

abbrev pub function_types : List Function → Function × NamedCode → Outcome FunctionTypes
function_types functions (f, code) =
    mapped (λ parts. function_with f parts.1) (both (header_outcome f) (block (function_environment functions (f, code)) f.body))

-- Modules

pub record ModuleTypes : Type 0 where
  pub code : List TypedRose
  pub functions : List FunctionTypes
  pub names : List (List ℕ)
  pub constants : List Constant
  pub pranges : List ℕ

abbrev pub code_types : Named → Outcome (List TypedRose)
code_types named = block (module_environment (functions_of named.«module») named.code) (statements_of named.«module»)

abbrev pub functions_types : Named → Outcome (List FunctionTypes)
functions_types named =
    all_of (map (function_types (functions_of named.«module»)) (zip (functions_of named.«module») named.functions))

-- Forms on C values name no module names, no texts and no wide numbers, and have no parallel loops. A function with an object result
-- gives None where it ends without a value.

abbrev pub gives_object : ValueType → Bool
gives_object value.Object = true
gives_object _ = false

abbrev pub constants_of : List FunctionTypes → List Constant
constants_of functions = if list_any (λ f. gives_object f.gives) functions then constant.None ∷ [] else []

abbrev pub module_with : List TypedRose × List FunctionTypes → ModuleTypes
module_with (code, functions) =
    record { code = code; functions = functions; names = []; constants = constants_of functions; pranges = [] }

abbrev pub module_types : Named → Outcome ModuleTypes
module_types named = mapped module_with (both (code_types named) (functions_types named))

-- What the program keeps, as plain data

abbrev pub function_kept : TypedFunction → FunctionTypes
function_kept f = record {
  number = f.number;
  at = f.at;
  header_at = f.header_at;
  kind = f.kind;
  name = f.name;
  params = f.params;
  locals = f.locals;
  gives = f.gives;
  is_noexcept = f.is_noexcept;
  lock = f.lock;
  body = map rose_of_typed f.body;
}

abbrev pub module_kept : Typed → ModuleTypes
module_kept typed = record {
  code = map rose_of_typed typed.code;
  functions = map function_kept typed.functions;
  names = typed.names;
  constants = typed.constants;
  pranges = typed.pranges;
}
