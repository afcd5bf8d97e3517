use Rattle.std.proofs.Common.{◌≡◌, drop, map}
use Rattle.px_tree.specs.declared.typed_values.ValueType.{ValueType}
use Rattle.px_operators.specs.Outcomes.{mapped, all_of}
use Rattle.px_operators.specs.Kept.{gathered_kept, gathers}
use Rattle.px_types.specs.TypedModule.{param_outcome}
use Rattle.px_types.proofs.typed_functions.param_outcomes.Given as goal

-- what was gathered, with what is still to come, is all
abbrev pub invariant-loop-param : goal.invariant-loop-param
invariant-loop-param l =
    gathers (mapped (map (λ (t : ValueType). t)) (gathered_kept l.all)) (map param_outcome (drop l.param-index l.params)) ≡ all_of (map param_outcome l.params)
