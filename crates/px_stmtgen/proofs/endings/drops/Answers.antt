use Rattle.std.proofs.Common.{◌+◌, refl}
use Rattle.px_regcode.specs.declared.instructions.Instr.TheVariants as instr
use Rattle.px_exprgen.specs.ExpressionCode.{register}
use Rattle.px_stmtgen.specs.Layouts.{drops}
use Rattle.px_stmtgen.proofs.Ranges.{range_next}
use Rattle.px_stmtgen.proofs.endings.drops.Goals as goal

pub loop-number-preserved : goal.loop-number-preserved
loop-number-preserved c =
    range_next drops (λ n. instr.Drop (register n)) (λ n count. refl) (c.args.first + c.args.count) c.loop-number.number c.loop-number.code c.push.new.self _
    c.loop-number.invariant c.loop-number-test.true c.in_ok-push.ensures.ok
