use Rattle.std.proofs.Common.{◌+◌, refl}
use Rattle.px_exprgen.specs.ExpressionCode.{register}
use Rattle.px_stmtgen.specs.Layouts.{registers_from}
use Rattle.px_stmtgen.proofs.Ranges.{range_next}
use Rattle.px_stmtgen.proofs.endings.registers_from.Goals as goal

pub loop-number-preserved : goal.loop-number-preserved
loop-number-preserved c =
    range_next registers_from register (λ n count. refl) (c.args.first + c.args.count) c.loop-number.number c.loop-number.list c.push.new.self _
    c.loop-number.invariant c.loop-number-test.true c.in_ok-push.ensures.ok
