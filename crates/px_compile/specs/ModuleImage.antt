-- The image of a module: the code of module code and of its functions. Module code has line 1 for what stands before its statements and
-- behind them.
use Rattle.std.specs.Prelude.{ℕ, suc, max, false, if◌then◌else◌, List, [], ◌∷◌, length, map, take, codes}
use Rattle.px_base.specs.declared.objects.Constant.{Constant}
use Rattle.px_tree.specs.declared.typed_values.ValueType.{ValueType}
use Rattle.px_tree.specs.declared.typed_values.ValueType.TheVariants as type
use Rattle.px_types.specs.TypedModule.{FunctionTypes, ModuleTypes}
use Rattle.px_typed_walk.specs.TypedView.{TypedRose}
use Rattle.px_regcode.specs.declared.codes.Code.{Code}
use Rattle.px_regcode.specs.declared.codes.Start.TheVariants as start
use Rattle.px_regcode.specs.declared.operands.RegKind.TheVariants as kind
use Rattle.px_regcode.specs.Images.{ImageParts, image_of}
use Rattle.px_meaning.specs.Calls.{SourceFunction, Source, swallows}
use Rattle.px_machine.specs.Means.{kind_of, start_of}
use Rattle.px_stmtgen.specs.declared.layouts.Layout.{Layout}
use Rattle.px_stmtgen.specs.FunctionCode.{function_code, function_lines}
use Rattle.px_stmtgen.specs.Sizes.{objects, result_objects, greatest, registers}
use Rattle.px_compile.specs.Fits.{types_of_locals}
use Rattle.px_compile.specs.FitModules.{is_none}

-- the place of the first None among constants; of none, how many there are
abbrev pub none_place : List Constant → ℕ
none_place [] = 0
none_place (what ∷ constants) = if is_none what then 0 else suc (none_place constants)

-- registers for the objects of the statements and of the end
abbrev pub objects_for : ValueType → List TypedRose → ℕ
objects_for gives body = max (result_objects gives) (greatest objects body)

abbrev pub layout_for : List ValueType → ValueType → List Constant → List TypedRose → Layout
layout_for locals gives constants body =
    record { variables = length locals; objects = objects_for gives body; gives = gives; none_at = none_place constants }

-- ---- codes

abbrev pub code_of_function : List Constant → FunctionTypes → Code
code_of_function constants f =
    let locals = types_of_locals f.locals in
    let l = layout_for locals f.gives constants f.body in
    let swallowed = swallows f.is_noexcept f.gives in
    record {
      name = f.name;
      params = map kind_of (map (λ local. local.value_type) (take f.params f.locals));
      result = kind_of f.gives;
      start = start_of f.lock;
      registers = registers l f.body;
      instrs = function_code l f.params swallowed f.body;
      lines = function_lines l f.header_at.line f.params swallowed f.body;
    }

abbrev pub code_of_module : ModuleTypes → Code
code_of_module typed =
    let l = layout_for [] type.Void typed.constants typed.code in
    record {
      name = codes "module";
      params = [];
      result = kind.Empty;
      start = start.Held;
      registers = registers l typed.code;
      instrs = function_code l 0 false typed.code;
      lines = function_lines l 1 0 false typed.code;
    }

abbrev pub module_image : ModuleTypes → ImageParts
module_image typed = image_of (code_of_module typed ∷ map (code_of_function typed.constants) typed.functions) [] typed.constants

-- ---- what a module with its types is as the source of its meaning

abbrev pub function_in : FunctionTypes → SourceFunction
function_in f = record {
  params = map (λ local. local.value_type) (take f.params f.locals);
  variables = length f.locals;
  gives = f.gives;
  is_noexcept = f.is_noexcept;
  lock = f.lock;
  body = f.body;
}

abbrev pub source_in : ModuleTypes → Source
source_in typed = record {
  code = typed.code;
  functions = map function_in typed.functions;
  names = length typed.names;
  constants = typed.constants;
}
