use Rattle.std.proofs.Common.{◌∙◌, ◌+ℤ◌, neg_ℤ, pos, ap, FitsSigned, arith, rules}
use Rattle.std.specs.Int.{w128}
use Rattle.std.proofs.lemmas.Int.{ints, to_z-of_z}
use lib.IntN.{+ℤ_idl}
use Rattle.px_ctypes.specs.Wrapping.{wrap}
use Rattle.px_ctypes.proofs.WrapLaws.{range_fits}
use Rattle.px_ctypes.proofs.operators.negation.Goals as goal

pub returns : goal.returns
returns c =
    let operand = c.ranges.a in
    let fits : FitsSigned w128 (pos 0 +ℤ neg_ℤ c.args.a) = omega (arith, ints, range_fits _ _ c.requires.operand) in
    let answer : FitsSigned w128 c.wrap.result = search rules in
    let value = simp to_z-of_z at c.wrap.ensures.value in
    simp to_z-of_z (value ∙ ap (wrap c.args.t) (+ℤ_idl (neg_ℤ c.args.a)))
