use Rattle.std.proofs.Common.{◌∙◌, ◌-ℤ◌, negsuc, FitsSigned, arith, rules}
use Rattle.std.specs.Int.{w128}
use Rattle.std.proofs.lemmas.Int.{ints, to_z-of_z}
use Rattle.px_ctypes.proofs.WrapLaws.{range_fits, wrap-invert}
use Rattle.px_ctypes.proofs.operators.inversion.Goals as goal

pub returns : goal.returns
returns c =
    let operand = c.ranges.a in
    let fits : FitsSigned w128 (negsuc 0 -ℤ c.args.a) = omega (arith, ints, range_fits _ _ c.requires.operand) in
    let answer : FitsSigned w128 c.wrap.result = search rules in
    let value = simp to_z-of_z at c.wrap.ensures.value in
    simp to_z-of_z (value ∙ wrap-invert c.args.t c.args.a)
