use Rattle.std.proofs.Common.{sym, subst, FitsSigned, rules}
use Rattle.std.specs.Int.{w128}
use Rattle.std.proofs.lemmas.Int.{to_z-of_z}
use Rattle.px_ctypes.specs.Types.{IsInRange}
use Rattle.px_ctypes.proofs.ResultLaws.{unary_in_range}
use Rattle.px_ctypes.proofs.operators.unary.Goals as goal

pub returns-clause-in_range : goal.returns-clause-in_range
returns-clause-in_range c =
    let operand = c.ranges.a in
    let answer : FitsSigned w128 c.unary_result.result = search rules in
    let value = simp to_z-of_z at c.unary_result.ensures in
    simp to_z-of_z (subst (λ r. IsInRange c.args.t r) (sym value) (unary_in_range c.args.op c.args.t c.args.a))
