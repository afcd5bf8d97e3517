use Rattle.std.proofs.Common.{◌+ℤ◌, FitsSigned, arith, rules}
use Rattle.std.specs.Int.{w128}
use Rattle.std.proofs.lemmas.Int.{ints, to_z-of_z}
use Rattle.px_ctypes.proofs.WrapLaws.{range_fits}
use Rattle.px_ctypes.proofs.operators.sum.Goals as goal

pub returns : goal.returns
returns c =
    let left = c.ranges.a in
    let right = c.ranges.b in
    let fits : FitsSigned w128 (c.args.a +ℤ c.args.b) = omega (arith, ints, range_fits _ _ c.requires.left, range_fits _ _ c.requires.right) in
    let answer : FitsSigned w128 c.wrap.result = search rules in
    simp to_z-of_z (simp to_z-of_z at c.wrap.ensures.value)
