use Rattle.std.proofs.Common.{◌≡◌, drop, map}
use Rattle.std.specs.List.{list_any}
use Rattle.px_types.specs.TypedModule.{FunctionTypes, gives_object, function_kept}
use Rattle.px_types.proofs.typing.gives_any_object.Given as goal

abbrev pub invariant-loop-function : goal.invariant-loop-function
invariant-loop-function l =
    list_any (λ (f : FunctionTypes). gives_object f.gives) (map function_kept (drop l.function-index l.functions)) ≡ list_any (λ (f : FunctionTypes). gives_object f.gives) (map function_kept l.functions)
