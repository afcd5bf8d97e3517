use Rattle.std.proofs.Common.{◌≡◌, ◌≤◌, List, drop, map}
use Rattle.std.specs.Prelude.{filter_map, zip}
use Rattle.px_base.specs.Findings.{first_of}
use Rattle.px_tree.specs.declared.modules.Function.{Function}
use Rattle.px_names.specs.NamedModule.{function_item, functions_of}
use Rattle.px_environments.specs.Kept.{signatures_kept}
use Rattle.px_environments.specs.Signatures.{function_in}
use Rattle.px_environments.specs.BuiltForms.{first_in, unbuilt_in_function}
use Rattle.px_environments.proofs.unbuilt.unbuilt_in_functions.Given as goal

-- what is found so far, and what is found from here on, is all that is found
abbrev pub invariant-loop-item : goal.invariant-loop-item
invariant-loop-item l = record {
  rest : (functions : List Function) → signatures_kept l.signatures ≡ function_in 0 functions
      → first_of l.first (first_in (map (unbuilt_in_function functions) (zip (filter_map function_item (drop l.item-index l.named.«module».items)) (drop l.place l.named.functions))))
      ≡ first_in (map (unbuilt_in_function functions) (zip (functions_of l.named.«module») l.named.functions));
  counted : l.place ≤ l.item-index;
}
