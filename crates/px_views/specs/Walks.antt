-- How a place is found, an axis after another.
use Rattle.std.specs.Prelude.{ℕ, ◌+◌, ℤ, Bool, List, [], ◌∷◌, Result, Ok}
use Rattle.px_base.specs.declared.faults.Fault.{Fault}
use Rattle.px_model.specs.Sequences.{item_index}
use Rattle.px_model.specs.Views.{at_index}
use Rattle.px_views.specs.declared.axes.Axis.{Axis}
use Rattle.px_views.specs.Strides.{wrapped_place}

-- along these axes, the first of which has this number, by an index for each, from a place
abbrev pub walk : ℕ → Bool → List Axis → List ℤ → ℕ → Result ℕ Fault
walk number wraparound [] at from = Ok from
walk number wraparound (axis ∷ axes) [] from = Ok from
walk number wraparound (axis ∷ axes) (index ∷ at) from =
    at_index number (item_index axis.extent wraparound index)
    (λ i. walk (number + 1) wraparound axes at (wrapped_place from i axis.stride))
