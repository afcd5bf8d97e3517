-- Functions and modules: what is in their text, but for what names and written types stand for.
use Rattle.std.specs.Prelude.{List, [], map, zip}
use Rattle.px_tree.specs.declared.modules.Function.{Function}
use Rattle.px_names.specs.declared.named.NamedCode.{NamedCode}
use Rattle.px_names.specs.declared.named.Named.{Named}
use Rattle.px_names.specs.NamedModule.{functions_of}
use Rattle.px_environments.specs.Signatures.{function_environment, module_environment, statements_of}
use Rattle.px_types.specs.TypedModule.{FunctionTypes, ModuleTypes, function_with}
use Rattle.px_type_laws.specs.PlainForms.{PlainTree}
use Rattle.px_type_laws.specs.Erased.{erased}
use Rattle.px_type_laws.specs.BareStatements.{bare_block}

-- a function: what it is without its body, and its statements
pub record PlainFunction : Type 0 where
  pub header : FunctionTypes
  pub body : List PlainTree

pub record PlainModule : Type 0 where
  pub code : List PlainTree
  pub functions : List PlainFunction

-- as their types have them

abbrev pub erased_function : FunctionTypes → PlainFunction
erased_function f = record { header = record f { body = [] }; body = map erased f.body }

abbrev pub erased_module : ModuleTypes → PlainModule
erased_module types = record { code = map erased types.code; functions = map erased_function types.functions }

-- as the parse tree has them

abbrev pub bare_function : List Function → Function × NamedCode → PlainFunction
bare_function functions (f, code) =
    record { header = function_with f []; body = bare_block (function_environment functions (f, code)) f.body }

abbrev pub bare_module : Named → PlainModule
bare_module named = record {
  code = bare_block (module_environment (functions_of named.«module») named.code) (statements_of named.«module»);
  functions = map (bare_function (functions_of named.«module»)) (zip (functions_of named.«module») named.functions);
}
