-- the first one so far, and of what is left, is that of all
use Rattle.std.proofs.Common.{◌≡◌, drop, map}
use Rattle.px_types.specs.TypedModule.{function_kept}
use Rattle.px_compile.specs.FitStatements.{callees_of}
use Rattle.px_compile.specs.FitModules.{unbuilt_in_functions}
use Rattle.px_compile.proofs.modules.unbuilt_in_functions.Given as goal

abbrev pub invariant-loop-f : goal.invariant-loop-f
invariant-loop-f l =
    unbuilt_in_functions l.none_there (callees_of (map function_kept l.functions)) l.first (map function_kept (drop l.f-index l.functions))
    ≡ unbuilt_in_functions l.none_there (callees_of (map function_kept l.functions)) l.fn.found (map function_kept l.functions)
