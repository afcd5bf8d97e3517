use Rattle.std.proofs.Common.{◌≡◌, ℕ, ◌≤◌, drop}
use Rattle.std.specs.Prelude.{filter_map}
use Rattle.std.specs.Option.{option_or}
use Rattle.px_names.specs.NamedModule.{function_item, functions_of}
use Rattle.px_environments.specs.Kept.{signatures_kept}
use Rattle.px_environments.specs.Signatures.{function_in}
use Rattle.px_environments.proofs.variables.Signatures.new.Given as goal

-- what is kept, and what the functions from here on add, is what all give
abbrev pub invariant-loop-item : goal.invariant-loop-item
invariant-loop-item l = record {
  rest : (n : ℕ) → option_or (signatures_kept l.kept n) (function_in l.place (filter_map function_item (drop l.item-index l.«module».items)) n)
      ≡ function_in 0 (functions_of l.«module») n;
  counted : l.place ≤ l.item-index;
}
