use Rattle.std.proofs.Common.{◌∙◌, ◌<◌, ◌^◌, ap, FitsSigned, bit_and, arith, rules}
use Rattle.std.specs.Int.{w128}
use Rattle.std.proofs.lemmas.Int.{to_z_pos, to_z-of_z}
use Rattle.std.proofs.lemmas.Nat.{and_mod, and_le_l}
use Rattle.px_ctypes.specs.Wrapping.{wrap}
use Rattle.px_ctypes.proofs.WrapLaws.{wrap-bitwise}
use Rattle.px_ctypes.proofs.operators.bitwise_and.Goals as goal

pub returns : goal.returns
returns c =
    let left = c.ranges.a in
    let right = c.ranges.b in
    let answer : FitsSigned w128 c.wrap.result = search rules in
    let low = simp to_z-of_z at c.low_word.ensures in
    let low2 = simp to_z-of_z at c.low_word-2.ensures in
    let small : bit_and c.low_word.result c.low_word-2.result < 2 ^ 64 = omega (arith, and_le_l c.low_word.result c.low_word-2.result) in
    simp to_z-of_z (c.wrap.ensures.value ∙ ap (wrap c.args.t) (to_z_pos w128 (bit_and c.low_word.result c.low_word-2.result) (omega arith)) ∙ wrap-bitwise bit_and and_mod c.args.t c.args.a c.args.b _ _ low low2)
