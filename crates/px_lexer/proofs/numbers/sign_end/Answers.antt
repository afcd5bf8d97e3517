use Rattle.px_lexer.proofs.NumberPlaces.{sign_place}
use Rattle.px_lexer.proofs.numbers.sign_end.Goals as goal

pub returns-then-stands_either : goal.returns-then-stands_either
returns-then-stands_either c = rw c.if-stands_either.true at (sign_place c.args.cs.now c.args.from c.stands_either.result c.stands_either.ensures.value)

pub returns-else-stands_either : goal.returns-else-stands_either
returns-else-stands_either c = rw c.if-stands_either.false at (sign_place c.args.cs.now c.args.from c.stands_either.result c.stands_either.ensures.value)
