use Rattle.std.proofs.Common.{arith}
use Rattle.px_lexer.proofs.TokenAccess.{stands_within}
use Rattle.px_exprs.proofs.typings.behind_const.Goals as goal

pub overflow_add-result : goal.overflow_add-result
overflow_add-result c =
    let there = c.is_word.ensures.0 c.if-is_word.true in
    omega (arith, stands_within c.args.tokens.now c.args.from there.token there.stands, c.requires.few)
