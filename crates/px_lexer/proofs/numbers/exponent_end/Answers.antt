use Rattle.std.proofs.Common.{◌+◌, drop, slice_index, refl, ◌∙◌}
use Rattle.std.specs.Char.{is_digit}
use Rattle.px_lexer.specs.NumberSteps.{sign_len}
use Rattle.px_lexer.proofs.NumberPlaces.{exponent_place}
use Rattle.px_lexer.proofs.numbers.exponent_end.Goals as goal

pub returns-then-not-stands_either : goal.returns-then-not-stands_either
returns-then-not-stands_either c =
    let k = c.args.from + sign_len (drop c.args.from c.args.cs.now) in
    rw c.if-not-stands_either.true at (exponent_place c.args.cs.now c.args.from k c.stands_either.result (is_digit (slice_index c.args.cs.now k) 10) refl c.stands_either.ensures.value refl)

pub returns-then-is_digit : goal.returns-then-is_digit
returns-then-is_digit c =
    c.digits_end.ensures
    ∙ rw (c.if-not-stands_either.false, c.if-is_digit.true) at (exponent_place c.args.cs.now c.args.from c.sign_end-digits.result c.stands_either.result c.is_digit.result c.sign_end-digits.ensures c.stands_either.ensures.value c.is_digit.ensures.value)

pub returns-else-is_digit : goal.returns-else-is_digit
returns-else-is_digit c =
    rw (c.if-not-stands_either.false, c.if-is_digit.false) at (exponent_place c.args.cs.now c.args.from c.sign_end-digits.result c.stands_either.result c.is_digit.result c.sign_end-digits.ensures c.stands_either.ensures.value c.is_digit.ensures.value)
