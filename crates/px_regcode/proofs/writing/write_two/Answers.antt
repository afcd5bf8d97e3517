use Rattle.px_regcode.specs.OperandWords.{operand_words}
use Rattle.px_regcode.proofs.Spacing.{both_ok}
use Rattle.px_regcode.proofs.writing.write_two.Goals as goal

pub returns : goal.returns
returns c =
    both_ok c.write_operand-2.result c.args.text.now c.write_operand.new.text c.write_operand-2.new.text
    (operand_words c.args.a) (operand_words c.args.b)
    c.in_ok-write_operand.ensures c.write_operand-2.ensures
