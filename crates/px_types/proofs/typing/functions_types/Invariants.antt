use Rattle.std.proofs.Common.{◌≡◌, ◌≤◌, List, drop, map}
use Rattle.std.specs.Prelude.{filter_map, zip}
use Rattle.px_tree.specs.declared.modules.Function.{Function}
use Rattle.px_names.specs.NamedModule.{function_item}
use Rattle.px_operators.specs.Outcomes.{all_of}
use Rattle.px_operators.specs.Kept.{gathers}
use Rattle.px_environments.specs.Kept.{signatures_kept}
use Rattle.px_environments.specs.Signatures.{function_in}
use Rattle.px_types.specs.TypedModule.{function_types}
use Rattle.px_types.specs.ModuleKept.{functions_gathered}
use Rattle.px_types.proofs.typing.functions_types.Given as goal

-- what was gathered, with what is still to come, is all
abbrev pub invariant-loop-item : goal.invariant-loop-item
invariant-loop-item l = record {
  gathered : (functions : List Function) → signatures_kept l.signatures ≡ function_in 0 functions
      → gathers (functions_gathered l.all) (map (function_types functions) (zip (filter_map function_item (drop l.item-index l.named.«module».items)) (drop l.place l.named.functions)))
      ≡ all_of (map (function_types functions) (zip (filter_map function_item l.named.«module».items) l.named.functions));
  few : l.place ≤ l.item-index;
}
