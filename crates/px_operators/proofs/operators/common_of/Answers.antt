use Rattle.std.proofs.Common.{◌-◌, length, take, drop, refl}
use Rattle.px_operators.proofs.CommonTypes.{common_turn, common_end, common_of_one}
use Rattle.px_operators.proofs.operators.common_of.Goals as goal

pub loop-operand-init : goal.loop-operand-init
loop-operand-init c = refl

pub loop-operand-preserved : goal.loop-operand-preserved
loop-operand-preserved c =
    common_turn (take (length c.args.operands.now - 1) (drop 1 c.args.operands.now)) c.loop-operand.operand-index c.operand-item.result c.loop-operand.t c.common-t.result _
    c.loop-operand.invariant c.loop-operand-test.true c.operand-item.is c.common-t.ensures

pub returns-in-len1 : goal.returns-in-len1
returns-in-len1 c = common_of_one c.args.operands.now c.in-len1.len_at_least c.in-len1.len_below

pub returns-after-loop-operand : goal.returns-after-loop-operand
returns-after-loop-operand c =
    common_end c.args.operands.now c.first-item.result c.loop-operand.operand-index c.loop-operand.t c.in-len1-up.len_at_least c.first-item.is c.loop-operand-test.false c.loop-operand.invariant
