-- What the program finds of a module before it is put together.
use Rattle.std.specs.Prelude.{ℕ, List, [], ◌∷◌, map, Option, Some, None, Vec}
use Rattle.px_base.specs.declared.objects.Constant.{Constant}
use Rattle.px_tree.specs.declared.modules.Function.{Function}
use Rattle.px_tree.specs.declared.typed_trees.TypedTree.{TypedTree}
use Rattle.px_tree.specs.declared.typed_modules.TypedFunction.{TypedFunction}
use Rattle.px_typed_walk.specs.TypedView.{TypedRose, rose_of_typed}
use Rattle.px_names.specs.declared.named.NamedCode.{NamedCode}
use Rattle.px_operators.specs.declared.gathering.Gathered.{Gathered}
use Rattle.px_operators.specs.Outcomes.{Outcome, mapped}
use Rattle.px_operators.specs.Kept.{trees_kept, gathered_kept}
use Rattle.px_types.specs.TypedModule.{FunctionTypes, ModuleTypes, function_kept}

abbrev pub parts_of_module : {A : Type 0} → Vec TypedTree A × Vec TypedFunction A → List TypedRose × List FunctionTypes
parts_of_module parts = (trees_kept parts.0.items, map function_kept parts.1.items)

-- what some functions came to
abbrev pub functions_gathered : Gathered TypedFunction → Outcome (List FunctionTypes)
functions_gathered gathered = mapped (map function_kept) (gathered_kept gathered)

-- a function with what its names stand for, where there are both
abbrev pub pair_of : Option Function → Option NamedCode → List (Function × NamedCode)
pair_of (Some f) (Some code) = (f, code) ∷ []
pair_of _ _ = []

-- how many functions there are in an item
abbrev pub count_of_function : Option Function → ℕ
count_of_function None = 0
count_of_function (Some f) = 1

-- the code, the functions and the constants of a module
abbrev pub module_of_parts : List TypedTree × List TypedFunction × List Constant → ModuleTypes
module_of_parts parts = record {
  code = map rose_of_typed parts.0;
  functions = map function_kept parts.1;
  names = [];
  constants = parts.2;
  pranges = [];
}
