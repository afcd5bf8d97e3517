-- The cells of a slice are those of another axis, from another offset.
use Rattle.std.proofs.Common.{◌≡◌, ◌<◌, ◌^◌, ℕ, pos, FitsSigned, ap, ◌∙◌, get_or, length, of_z, rules, slice_set, subst, to_z, w64}
use Rattle.std.specs.Prelude.{◌+ℤ◌, ◌*ℤ◌, unsigned_abs}
use mir.Syntax.{w128}
use Rattle.std.proofs.lemmas.Int.{to_z-of_z}
use Rattle.px_model.specs.Sequences.{slice_indices}
use Rattle.px_views.specs.declared.axes.Axis.{Axis}
use Rattle.px_views.specs.Cells.{axes_in}
use Rattle.px_views.specs.Strides.{axis_at}
use Rattle.px_views.specs.Triples.{listed, triple}
use Rattle.px_views.proofs.Methods.{cut_need, cut_taken, cut_view}
use Rattle.px_views.proofs.strided.StridedView.cut.Goals as goal
use Rattle.px_views.proofs.strided.StridedView.cut.Goals.{After-replaced}

module _ (c : After-replaced) where
  abbrev whole : Axis
  whole = axis_at (axes_in c.args.self.now) c.args.axis

  step_is : to_z w128 (of_z w128 c.args.step) ≡ c.args.step
  step_is = to_z-of_z w128 c.args.step c.ranges.step

  stride_is : to_z w64 (of_z w64 c.axis-whole.result.stride) ≡ whole.stride
  stride_is =
      let fits : FitsSigned w64 c.axis-whole.result.stride = search rules in
      to_z-of_z w64 c.axis-whole.result.stride fits ∙ ap (λ a. a.stride) c.axis-whole.ensures

  count : c.cut_of-cut.result.count ≡ length (slice_indices whole.extent c.args.from c.args.to c.args.step)
  count =
      c.cut_of-cut.ensures.count
      ∙ ap (λ k. length (slice_indices c.axis-whole.result.extent c.args.from c.args.to k)) step_is
      ∙ ap (λ a. length (slice_indices a.extent c.args.from c.args.to c.args.step)) c.axis-whole.ensures

  items : (m : ℕ) → m < c.cut_of-cut.result.count
      → pos (get_or (slice_indices whole.extent c.args.from c.args.to c.args.step) m 0) ≡ pos c.cut_of-cut.result.first +ℤ pos m *ℤ c.args.step
  items =
      subst (λ a. (m : ℕ) → m < c.cut_of-cut.result.count
      → pos (get_or (slice_indices a.extent c.args.from c.args.to c.args.step) m 0) ≡ pos c.cut_of-cut.result.first +ℤ pos m *ℤ c.args.step)
      c.axis-whole.ensures
      (subst (λ k. (m : ℕ) → m < c.cut_of-cut.result.count
      → pos (get_or (slice_indices c.axis-whole.result.extent c.args.from c.args.to k) m 0) ≡ pos c.cut_of-cut.result.first +ℤ pos m *ℤ k)
      step_is c.cut_of-cut.ensures.items)

  exact : (m : ℕ) → m < 2 ^ 64 → pos c.args.self.now.offset +ℤ pos c.cut_of-cut.result.first *ℤ whole.stride ≡ pos m → c.moved-offset.result ≡ m
  exact =
      subst (λ s. (m : ℕ) → m < 2 ^ 64 → pos c.args.self.now.offset +ℤ pos c.cut_of-cut.result.first *ℤ s ≡ pos m → c.moved-offset.result ≡ m)
      stride_is c.moved-offset.ensures.exact

  scaled : unsigned_abs (whole.stride *ℤ c.args.step) < 2 ^ 63 → c.scaled.result ≡ whole.stride *ℤ c.args.step
  scaled =
      subst (λ s. unsigned_abs (s *ℤ c.args.step) < 2 ^ 63 → c.scaled.result ≡ s *ℤ c.args.step) stride_is
      (subst (λ k. unsigned_abs (to_z w64 (of_z w64 c.axis-whole.result.stride) *ℤ k) < 2 ^ 63 → c.scaled.result ≡ to_z w64 (of_z w64 c.axis-whole.result.stride) *ℤ k)
      step_is c.scaled.ensures)

  others : listed c.replaced.result ≡ slice_set (triple (axes_in c.args.self.now)) c.args.axis (record { extent = c.cut_of-cut.result.count; stride = c.scaled.result })
  others =
      let fits : FitsSigned w64 c.scaled.result = search rules in
      c.replaced.ensures
      ∙ ap (λ s. slice_set (listed c.axes.result) c.args.axis (record { extent = c.cut_of-cut.result.count; stride = s })) (to_z-of_z w64 c.scaled.result fits)
      ∙ ap (λ axes. slice_set axes c.args.axis (record { extent = c.cut_of-cut.result.count; stride = c.scaled.result })) c.axes.ensures

pub with_axes-requires-clause-cells : goal.with_axes-requires-clause-cells
with_axes-requires-clause-cells c =
    cut_need c.args.self.now c.args.axis c.cut_of-cut.result.count c.cut_of-cut.result.first c.moved-offset.result c.scaled.result c.args.step c.args.from c.args.to
    c.requires.there c.requires.nonzero (count c) (items c) (exact c) (scaled c) (listed c.replaced.result) (others c)

pub returns-clause-cells : goal.returns-clause-cells
returns-clause-cells c =
    let d : After-replaced = (goal.at.returns-clause-cells c).After-replaced in
    cut_view c.args.self.now c.args.axis c.cut_of-cut.result.count c.cut_of-cut.result.first c.moved-offset.result c.scaled.result c.args.step c.args.from c.args.to
    c.requires.there c.requires.nonzero (count d) (items d) (exact d) (scaled d) c.with_axes.result c.with_axes.ensures.array
    (c.with_axes.ensures.axes
    ∙ cut_taken c.args.self.now c.args.axis c.cut_of-cut.result.count c.cut_of-cut.result.first c.moved-offset.result c.scaled.result c.args.step c.args.from c.args.to
    c.requires.there c.requires.nonzero (count d) (items d) (exact d) (scaled d) (listed c.replaced.result) (others d))
    c.with_axes.ensures.offset
