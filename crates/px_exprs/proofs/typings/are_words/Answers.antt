use Rattle.std.proofs.Common.{arith}
use Rattle.px_lexer.proofs.TokenAccess.{stands_within}
use Rattle.px_exprs.proofs.typings.are_words.Goals as goal

pub overflow_add-at : goal.overflow_add-at
overflow_add-at c =
    let there = c.is_word.ensures.0 c.if-not-is_word.false in
    omega (arith, stands_within c.args.tokens.now c.loop-words.at there.token there.stands, c.requires.input.few)
