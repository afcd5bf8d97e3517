-- the codes so far, and those of the functions that are left, are all
use Rattle.std.proofs.Common.{◌≡◌, ◌++◌, drop, map}
use Rattle.px_types.specs.TypedModule.{function_kept, module_kept}
use Rattle.px_compile.specs.ModuleImage.{code_of_function, module_image}
use Rattle.px_compile.proofs.coding.codes.Given as goal

abbrev pub invariant-loop-f : goal.invariant-loop-f
invariant-loop-f l =
    l.codes ++ map (code_of_function l.typed.constants) (map function_kept (drop l.f-index l.typed.functions)) ≡ (module_image (module_kept l.typed)).codes
