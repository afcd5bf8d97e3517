-- The extents and strides that are kept are those of the axes.
use Rattle.std.proofs.Common.{◌≡◌, ◌∷◌, [], FitsSigned, of_z, pos, rules, subst, sym, take, to_z, w64}
use Rattle.std.proofs.lemmas.Int.{to_z-of_z}
use Rattle.px_views.specs.Strides.{AreCells, axes_of, places_of}
use Rattle.px_views.specs.Triples.{listed}
use Rattle.px_views.proofs.Filled.{kept}
use Rattle.px_views.proofs.strided.StridedView.of_axes.Goals as goal
use Rattle.px_views.proofs.strided.StridedView.of_axes.Goals.{Start}

axes_kept : (c : Start)
    → axes_of c.args.rank (c.args.axes.first.extent ∷ c.args.axes.second.extent ∷ c.args.axes.third.extent ∷ [])
    (to_z w64 (of_z w64 c.args.axes.first.stride) ∷ to_z w64 (of_z w64 c.args.axes.second.stride) ∷ to_z w64 (of_z w64 c.args.axes.third.stride) ∷ [])
    ≡ take c.args.rank (listed c.args.axes)
axes_kept c =
    let one : FitsSigned w64 c.args.axes.first.stride = search rules in
    let two : FitsSigned w64 c.args.axes.second.stride = search rules in
    let three : FitsSigned w64 c.args.axes.third.stride = search rules in
    kept c.args.rank c.args.axes.first c.args.axes.second c.args.axes.third _ _ _ c.requires.few_axes
    (to_z-of_z w64 c.args.axes.first.stride one) (to_z-of_z w64 c.args.axes.second.stride two) (to_z-of_z w64 c.args.axes.third.stride three)

pub invariant_of-result-clause-cells : goal.invariant_of-result-clause-cells
invariant_of-result-clause-cells c =
    subst (λ axes. AreCells c.args.size (places_of (pos c.args.offset) axes))
    (sym (axes_kept (goal.at.invariant_of-result-clause-cells c).Start)) c.requires.cells

pub returns-clause-axes : goal.returns-clause-axes
returns-clause-axes c = axes_kept (goal.at.returns-clause-axes c).Start
