use Rattle.std.proofs.Common.{refl, add-one}
use Rattle.px_base.proofs.Facts.{denied}
use Rattle.px_parser.proofs.FunctionReading.{true_read, false_read, truth_stuck}
use Rattle.px_parser.proofs.functions.truth.Goals as goal

pub returns-then-is_keyword : goal.returns-then-is_keyword
returns-then-is_keyword c = λ room. true_read c.args.tokens.now c.args.from _ room c.requires.input (c.is_keyword.ensures.0 c.if-is_keyword.true) (add-one c.args.from)

pub returns-then-is_keyword-2 : goal.returns-then-is_keyword-2
returns-then-is_keyword-2 c = λ room. false_read c.args.tokens.now c.args.from _ room c.requires.input (c.is_keyword-else-is_keyword.ensures.0 c.if-is_keyword-2.true) (add-one c.args.from)

pub returns-else-is_keyword-2 : goal.returns-else-is_keyword-2
returns-else-is_keyword-2 c = λ room. record { at = c.args.from; is = refl; stuck = truth_stuck c.args.tokens.now c.args.from room c.requires.inside (denied c.is_keyword.ensures c.if-is_keyword.false) (denied c.is_keyword-else-is_keyword.ensures c.if-is_keyword-2.false) }
