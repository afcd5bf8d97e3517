-- The greatest common divisor of one stride after another, the last axis first.
use Rattle.std.proofs.Common.{◌∷◌, []}
use Rattle.px_views.specs.Answers.{IsGreatestDivisor}
use Rattle.px_views.specs.Strides.{step_sizes}
use Rattle.px_views.specs.Triples.{listed}
use Rattle.px_views.proofs.Divisors.{more_divisor, no_divisor}
use Rattle.px_views.proofs.Methods.{step_view}
use Rattle.px_views.proofs.strided.StridedView.step.Goals as goal

pub returns : goal.returns
returns c =
    let axes = c.axes-axes.result in
    let third : IsGreatestDivisor (step_sizes (axes.third ∷ [])) c.common.result =
    more_divisor axes.third [] 0 c.common.result no_divisor c.common.ensures.several c.common.ensures.few in
    let second : IsGreatestDivisor (step_sizes (axes.second ∷ axes.third ∷ [])) c.common-2.result =
    more_divisor axes.second (axes.third ∷ []) c.common.result c.common-2.result third c.common-2.ensures.several c.common-2.ensures.few in
    step_view c.args.self.now (listed axes) c.axes-axes.ensures c.common-3.result
    (more_divisor axes.first (axes.second ∷ axes.third ∷ []) c.common-2.result c.common-3.result second c.common-3.ensures.several c.common-3.ensures.few)
