use Rattle.std.proofs.Common.{List, Vec, Global, ap}
use Rattle.std.proofs.lemmas.Result.{err_from_is_err_and}
use Rattle.px_tree.specs.declared.typed_values.ValueType.{ValueType}
use Rattle.px_tree.specs.declared.typed_trees.TypedTree.{TypedTree}
use Rattle.px_typed_walk.specs.TypedView.{TypedRose}
use Rattle.px_operators.specs.Outcomes.{mapped}
use Rattle.px_operators.specs.Kept.{trees_kept}
use Rattle.px_types.proofs.StatementLoops.{joined_as, given_ok, mapped_err}
use Rattle.px_types.proofs.typed_functions.checked_body.Goals as goal

pub returns-in_err-body : goal.returns-in_err-body
returns-in_err-body c =
    let p = err_from_is_err_and c.from_residual.result c.from_residual.ensures.1 in
    rw (p.1, p.2) (λ functions kept is.
    mapped_err _ (λ (all : Vec TypedTree Global). trees_kept all.items) c.both.result _ _ (λ (parts : (List ValueType × ValueType) × List TypedRose). parts.1)
    (joined_as (λ parts. (parts.0.items, parts.1)) (λ all. trees_kept all.items) c.header_outcome-header.result c.body_types-body.result _ _ c.both.result c.both.ensures c.header_outcome-header.ensures
    (c.body_types-body.ensures functions kept is))
    c.in_err-body.was)

pub returns : goal.returns
returns c = λ functions kept is.
    ap (mapped (λ (parts : (List ValueType × ValueType) × List TypedRose). parts.1))
    (given_ok _ c.both.result _ _
    (joined_as (λ parts. (parts.0.items, parts.1)) (λ all. trees_kept all.items) c.header_outcome-header.result c.body_types-body.result _ _ c.both.result c.both.ensures c.header_outcome-header.ensures
    (c.body_types-body.ensures functions kept is))
    c.in_ok-body.was)
