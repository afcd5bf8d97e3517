use Rattle.std.proofs.Common.{◌∙◌}
use Rattle.px_lexer.proofs.NumberPlaces.{point_place}
use Rattle.px_lexer.proofs.numbers.point_end.Goals as goal

pub returns-then-stands : goal.returns-then-stands
returns-then-stands c = c.digits_end.ensures ∙ rw c.if-stands.true at (point_place c.args.cs.now c.args.from c.stands.result c.stands.ensures.value)

pub returns-else-stands : goal.returns-else-stands
returns-else-stands c = rw c.if-stands.false at (point_place c.args.cs.now c.args.from c.stands.result c.stands.ensures.value)
