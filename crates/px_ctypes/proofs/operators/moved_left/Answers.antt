use Rattle.std.proofs.Common.{◌∙◌, ◌*◌, ◌%◌, ◌^◌, ap, FitsSigned, arith, rules}
use Rattle.std.specs.Int.{w128}
use Rattle.std.proofs.lemmas.Int.{to_z_pos, to_z-of_z}
use Rattle.px_ctypes.specs.Wrapping.{wrap}
use Rattle.px_ctypes.proofs.WrapLaws.{wrap-shifted}
use Rattle.px_ctypes.proofs.operators.moved_left.Goals as goal

pub returns : goal.returns
returns c =
    let left = c.ranges.a in
    let answer : FitsSigned w128 c.wrap.result = search rules in
    let low = simp to_z-of_z at c.low_word.ensures in
    simp to_z-of_z (c.wrap.ensures.value ∙ ap (wrap c.args.t) (to_z_pos w128 ((c.low_word.result * 2 ^ c.args.count) % 2 ^ 64) (omega arith)) ∙ wrap-shifted c.args.t c.args.a _ c.args.count low c.requires.width)
