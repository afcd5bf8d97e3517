use Rattle.std.proofs.Common.{refl}
use Rattle.px_lexer.proofs.NumberPlaces.{decimal_place}
use Rattle.px_lexer.proofs.numbers.decimal_literal.Goals as goal

pub returns : goal.returns
returns c = record {
  base = refl;
  digits = refl;
  whole = c.digits_end-whole.ensures;
  to = decimal_place c.args.cs.now c.args.from c.digits_end-whole.result c.point_end-point.result c.exponent_end-exponent.result c.suffix_end.result c.digits_end-whole.ensures c.point_end-point.ensures c.exponent_end-exponent.ensures c.suffix_end.ensures;
}
