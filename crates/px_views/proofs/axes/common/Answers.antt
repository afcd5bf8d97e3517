-- The stride without its sign is that of the divisor.
use Rattle.std.proofs.Common.{FitsSigned, ◌∙◌, ap, rules, subst, unsigned_abs, w64}
use Rattle.std.specs.Int.{IsGcd}
use Rattle.std.proofs.lemmas.Int.{to_z-of_z}
use Rattle.px_views.proofs.axes.common.Goals as goal

pub returns-then-axis-gt1-clause-several : goal.returns-then-axis-gt1-clause-several
returns-then-axis-gt1-clause-several c many =
    let fits : FitsSigned w64 c.args.axis.stride = search rules in
    subst (λ n. IsGcd c.args.found n c.gcd.result)
    (c.unsigned_abs.ensures.value ∙ ap unsigned_abs (to_z-of_z w64 c.args.axis.stride fits)) c.gcd.ensures
