use Rattle.std.proofs.Common.{◌++◌}
use Rattle.px_regcode.specs.OperandWords.{operand_words}
use Rattle.px_regcode.proofs.Spacing.{both_ok}
use Rattle.px_regcode.proofs.writing.write_five.Goals as goal

pub returns : goal.returns
returns c =
    both_ok c.write_operand.result c.args.text.now c.write_four.new.text c.write_operand.new.text
    (operand_words c.args.a ++ operand_words c.args.b ++ operand_words c.args.c ++ operand_words c.args.d) (operand_words c.args.e)
    c.in_ok-write_four.ensures c.write_operand.ensures
