-- The cells at an index are those of the other axes, from another offset.
use Rattle.std.proofs.Common.{◌≡◌, ◌<◌, ◌^◌, ◌++◌, ◌∷◌, [], ℕ, pos, FitsSigned, ap, ◌∙◌, rules, subst, w64}
use Rattle.std.specs.Prelude.{◌+ℤ◌, ◌*ℤ◌, remove}
use Rattle.std.proofs.lemmas.Int.{to_z-of_z}
use Rattle.px_views.specs.Cells.{axes_in}
use Rattle.px_views.specs.Strides.{axis_at, no_axis}
use Rattle.px_views.specs.Triples.{listed, triple}
use Rattle.px_views.proofs.Methods.{picked_need, picked_taken, picked_view}
use Rattle.px_views.proofs.strided.StridedView.picked.Goals as goal
use Rattle.px_views.proofs.strided.StridedView.picked.Goals.{After-without}

exact : (c : After-without) → (m : ℕ) → m < 2 ^ 64
    → pos c.args.self.now.offset +ℤ pos c.args.i *ℤ (axis_at (axes_in c.args.self.now) c.args.axis).stride ≡ pos m → c.moved-offset.result ≡ m
exact c =
    let fits : FitsSigned w64 c.axis.result.stride = search rules in
    subst (λ s. (m : ℕ) → m < 2 ^ 64 → pos c.args.self.now.offset +ℤ pos c.args.i *ℤ s ≡ pos m → c.moved-offset.result ≡ m)
    (to_z-of_z w64 c.axis.result.stride fits ∙ ap (λ a. a.stride) c.axis.ensures) c.moved-offset.ensures.exact

others : (c : After-without) → listed c.without.result ≡ remove (triple (axes_in c.args.self.now)) c.args.axis ++ no_axis ∷ []
others c = c.without.ensures ∙ ap (λ axes. remove axes c.args.axis ++ no_axis ∷ []) c.axes.ensures

pub with_axes-requires-clause-cells : goal.with_axes-requires-clause-cells
with_axes-requires-clause-cells c =
    picked_need c.args.self.now c.args.axis c.args.i c.moved-offset.result c.requires.there c.requires.within (exact c) (listed c.without.result) (others c)

pub returns-clause-cells : goal.returns-clause-cells
returns-clause-cells c =
    let d : After-without = (goal.at.returns-clause-cells c).After-without in
    picked_view c.args.self.now c.args.axis c.args.i c.moved-offset.result c.requires.there c.requires.within (exact d) c.with_axes.result c.with_axes.ensures.array
    (c.with_axes.ensures.axes
    ∙ picked_taken c.args.self.now c.args.axis c.args.i c.moved-offset.result c.requires.there c.requires.within (exact d) (listed c.without.result) (others d))
    c.with_axes.ensures.offset
