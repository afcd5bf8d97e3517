-- The axes of a view are made of its extents and strides.
use Rattle.std.proofs.Common.{FitsSigned, pos, slice_index_or, sym, ap, ◌∙◌, get_or, rules, w64}
use Rattle.std.proofs.lemmas.Int.{to_z-of_z}
use Rattle.px_views.proofs.Ways.{axis_beyond, axis_there}
use Rattle.px_views.proofs.strided.StridedView.axis.Goals as goal

pub returns-then-number-self : goal.returns-then-number-self
returns-then-number-self c =
    let fits : FitsSigned w64 (slice_index_or c.args.self.now.strides c.args.number (pos 0)) = search rules in
    ap (λ s. record { extent = get_or c.args.self.now.shape c.args.number 0; stride = s }) (to_z-of_z w64 _ fits)
    ∙ sym (axis_there c.args.self.now c.args.number c.if-number-self.true)

pub returns-else-number-self : goal.returns-else-number-self
returns-else-number-self c = c.one_item.ensures ∙ sym (axis_beyond c.args.self.now c.args.number c.if-number-self.false)
