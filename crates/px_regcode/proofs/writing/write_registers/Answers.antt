use Rattle.px_regcode.specs.Words.{register_word}
use Rattle.px_regcode.proofs.Spacing.{word_more, words_end}
use Rattle.px_regcode.proofs.writing.write_registers.Goals as goal

pub loop-register-preserved : goal.loop-register-preserved
loop-register-preserved c =
    word_more register_word c.args.registers.now c.loop-register.register-index _
    c.loop-register.text c.write_number.new.text _ c.loop-register-test.true c.loop-register.invariant c.in_ok-write_number.ensures

pub returns : goal.returns
returns c =
    words_end register_word c.args.registers.now c.loop-register.register-index
    c.loop-register.text _ c.loop-register-test.false c.loop-register.invariant
