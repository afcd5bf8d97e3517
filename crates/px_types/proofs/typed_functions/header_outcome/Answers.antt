use Rattle.std.proofs.Common.{List, map, subst}
use Rattle.px_tree.specs.declared.modules.Param.{Param}
use Rattle.px_tree.specs.declared.typed_values.ValueType.{ValueType}
use Rattle.px_operators.specs.Outcomes.{Gives, all_of}
use Rattle.px_types.specs.TypedModule.{param_outcome}
use Rattle.px_types.proofs.StatementLoops.{joined_as}
use Rattle.px_types.proofs.typed_functions.header_outcome.Goals as goal

pub returns : goal.returns
returns c =
    joined_as (λ all. all.items) (λ (t : ValueType). t) c.param_outcomes-params.result c.result_outcome.result _ _ c.both.result c.both.ensures
    (subst (λ (params : List Param). Gives (λ all. all.items) c.param_outcomes-params.result (all_of (map param_outcome params))) c.as_slice.ensures c.param_outcomes-params.ensures)
    c.result_outcome.ensures
