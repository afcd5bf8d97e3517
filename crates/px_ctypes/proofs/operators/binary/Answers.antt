use Rattle.std.proofs.Common.{sym, subst, IfOk}
use Rattle.std.proofs.lemmas.Int.{to_z-of_z}
use Rattle.px_ctypes.specs.Types.{IsInRange}
use Rattle.px_ctypes.proofs.ResultLaws.{binary_in_range}
use Rattle.px_ctypes.proofs.operators.binary.Goals as goal

pub returns-clause-in_range : goal.returns-clause-in_range
returns-clause-in_range c =
    let left = c.ranges.a in
    let right = c.ranges.b in
    let value = simp to_z-of_z at c.binary_result.ensures in
    subst (λ r. IfOk r (λ n. IsInRange c.args.t n)) (sym value) (binary_in_range c.args.op c.args.t c.args.a c.args.b c.args.cdivision c.requires.left c.requires.right)
