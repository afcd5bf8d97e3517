use Rattle.std.proofs.Common.{rules, pos, ◌∙◌, ◌%◌, sym, FitsSigned, int_lt}
use Rattle.std.specs.Int.{w128}
use Rattle.std.proofs.lemmas.Int.{to_z-of_z}
use Rattle.px_ctypes.specs.Division.{signed_of}
use Rattle.px_ctypes.proofs.DivisionLaws.{trunc_mod_is}
use Rattle.px_ctypes.proofs.division.truncated_remainder.Goals as goal

pub returns : goal.returns
returns c =
    let left = c.ranges.a in
    let right = c.ranges.b in
    let answer : FitsSigned w128 c.with_sign.result = search rules in
    let m = simp to_z-of_z at c.magnitude.ensures in
    let n = simp to_z-of_z at c.magnitude-2.ensures in
    let s = simp to_z-of_z at c.with_sign.ensures in
    simp to_z-of_z (s ∙ (λ i. signed_of (m i % n i) (int_lt c.args.a (pos 0))) ∙ sym (trunc_mod_is c.args.a c.args.b))
