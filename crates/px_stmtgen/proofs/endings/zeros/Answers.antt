use Rattle.std.proofs.Common.{◌+◌, pos, refl}
use Rattle.px_regcode.specs.declared.instructions.Instr.TheVariants as instr
use Rattle.px_exprgen.specs.ExpressionCode.{register}
use Rattle.px_stmtgen.specs.FunctionCode.{zeros}
use Rattle.px_stmtgen.proofs.Ranges.{range_next}
use Rattle.px_stmtgen.proofs.endings.zeros.Goals as goal

pub loop-number-preserved : goal.loop-number-preserved
loop-number-preserved c =
    range_next zeros (λ n. instr.Const (register n) (pos 0)) (λ n count. refl) (c.args.first + c.args.count) c.loop-number.number c.loop-number.code c.push.new.self _
    c.loop-number.invariant c.loop-number-test.true c.in_ok-push.ensures.ok
