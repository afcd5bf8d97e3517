use Rattle.std.proofs.Common.{arith, sym, ◌∙◌}
use Rattle.px_lexer.proofs.CharacterLemmas.{word_len-more}
use Rattle.px_lexer.proofs.words.word_end.Goals as goal

pub loop-to-preserved : goal.loop-to-preserved
loop-to-preserved c =
    let more = word_len-more c.args.cs.now c.loop-to.to (sym c.continues_word.ensures ∙ c.if-continues_word.true) in
    omega (arith, more, c.loop-to.invariant)
