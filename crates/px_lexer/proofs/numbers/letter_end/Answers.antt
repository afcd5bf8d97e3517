use Rattle.px_lexer.proofs.NumberPlaces.{letter_place}
use Rattle.px_lexer.proofs.numbers.letter_end.Goals as goal

pub returns-then-stands : goal.returns-then-stands
returns-then-stands c = rw c.if-stands.true at (letter_place c.args.cs.now c.args.from c.stands.result c.stands.ensures.value)

pub returns-else-stands : goal.returns-else-stands
returns-else-stands c = rw c.if-stands.false at (letter_place c.args.cs.now c.args.from c.stands.result c.stands.ensures.value)
