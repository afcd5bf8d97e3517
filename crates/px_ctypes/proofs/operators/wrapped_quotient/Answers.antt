use Rattle.std.proofs.Common.{rules, ◌∙◌, ap, FitsSigned}
use Rattle.std.specs.Int.{w128}
use Rattle.std.proofs.lemmas.Int.{to_z-of_z}
use Rattle.px_ctypes.specs.Wrapping.{wrap}
use Rattle.px_ctypes.proofs.operators.wrapped_quotient.Goals as goal

pub returns : goal.returns
returns c =
    let left = c.ranges.a in
    let right = c.ranges.b in
    let quotient : FitsSigned w128 c.truncated_quotient.result = search rules in
    let answer : FitsSigned w128 c.wrap.result = search rules in
    let value = simp to_z-of_z at c.wrap.ensures.value in
    let exact = simp to_z-of_z at c.truncated_quotient.ensures in
    simp to_z-of_z (value ∙ ap (wrap c.args.t) exact)
