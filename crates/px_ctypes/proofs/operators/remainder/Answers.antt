use Rattle.std.proofs.Common.{FitsSigned, rules}
use Rattle.std.specs.Int.{w128}
use Rattle.std.proofs.lemmas.Int.{to_z-of_z}
use Rattle.px_ctypes.specs.Operators.{is_zero}
use Rattle.px_ctypes.proofs.ResultLaws.{tested_nonzero, remainder_truncated, remainder_floored}
use Rattle.px_ctypes.proofs.operators.remainder.Goals as goal

pub returns-then-cdivision : goal.returns-then-cdivision
returns-then-cdivision c =
    let left = c.ranges.a in
    let right = c.ranges.b in
    let answer : FitsSigned w128 c.truncated_remainder.result = search rules in
    let value = simp to_z-of_z at c.truncated_remainder.ensures in
    simp to_z-of_z (remainder_truncated c.args.a c.args.b _ (is_zero c.args.b) c.args.cdivision (tested_nonzero c.args.b c.if-b-eq0.false) c.if-cdivision.true value)

pub returns : goal.returns
returns c =
    let left = c.ranges.a in
    let right = c.ranges.b in
    let answer : FitsSigned w128 c.floored_remainder.result = search rules in
    let value = simp to_z-of_z at c.floored_remainder.ensures in
    simp to_z-of_z (remainder_floored c.args.a c.args.b _ (is_zero c.args.b) c.args.cdivision (tested_nonzero c.args.b c.if-b-eq0.false) c.if-cdivision.false value)
