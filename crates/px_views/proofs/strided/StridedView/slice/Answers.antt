-- A step that is left out is 1, and one of 0 is a fault.
use Rattle.std.proofs.Common.{◌≢◌, pos, FitsSigned, sym, ap, ◌∙◌, Ok, Err, of_z, to_z, rules}
use mir.Syntax.{w128}
use Rattle.std.proofs.lemmas.Int.{to_z-of_z}
use Rattle.px_model.specs.Sequences.{slice_indices}
use Rattle.px_model.specs.Views.{sliced}
use Rattle.px_views.specs.Cells.{axes_in, view_cells}
use Rattle.px_views.specs.Strides.{axis_at}
use Rattle.px_views.proofs.Methods.{slice_faults, slice_picks}
use Rattle.px_views.proofs.strided.StridedView.slice.Goals as goal

pub returns-then-step-eq0-clause-cells : goal.returns-then-step-eq0-clause-cells
returns-then-step-eq0-clause-cells c =
    let fits : FitsSigned w128 c.unwrap_or-step.result = search rules in
    ap Err c.step_error.ensures
    ∙ sym (slice_faults (view_cells c.args.self.now) c.args.axis c.args.from c.args.to c.args.step
    (sym c.unwrap_or-step.ensures ∙ sym (to_z-of_z w128 c.unwrap_or-step.result fits) ∙ ap (to_z w128) c.if-step-eq0.true))

pub returns-clause-cells : goal.returns-clause-cells
returns-clause-cells c =
    let fits : FitsSigned w128 c.unwrap_or-step.result = search rules in
    let nonzero : c.unwrap_or-step.result ≢ pos 0 = λ e. c.if-step-eq0.false (ap (of_z w128) e) in
    ap Ok (c.cut.ensures.cells
    ∙ ap (λ k. sliced c.args.axis (slice_indices (axis_at (axes_in c.args.self.now) c.args.axis).extent c.args.from c.args.to k) (view_cells c.args.self.now))
    (to_z-of_z w128 c.unwrap_or-step.result fits))
    ∙ sym (slice_picks c.args.self.now c.args.axis c.args.from c.args.to c.args.step c.unwrap_or-step.result c.requires.there (sym c.unwrap_or-step.ensures) nonzero)
