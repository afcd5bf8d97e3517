use Rattle.std.proofs.Common.{arith}
use Rattle.px_lexer.proofs.TokenAccess.{stands_within}
use Rattle.px_exprs.proofs.words.behind.Goals as goal

pub overflow_add-result : goal.overflow_add-result
overflow_add-result c =
    let there = c.is_operator.ensures.0 c.if-is_operator.true in
    omega (arith, stands_within c.args.tokens.now c.args.at there.token there.stands, c.requires.few)
