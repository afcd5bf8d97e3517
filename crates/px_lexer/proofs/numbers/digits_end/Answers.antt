use Rattle.std.proofs.Common.{arith, sym, ◌∙◌}
use Rattle.px_lexer.proofs.NumberPlaces.{no_digits, first_digits, more_digits, last_digits}
use Rattle.px_lexer.proofs.numbers.digits_end.Goals as goal

pub returns-then-not-is_digit : goal.returns-then-not-is_digit
returns-then-not-is_digit c = no_digits c.args.base c.args.cs.now c.args.from (sym c.is_digit.ensures.value ∙ c.if-not-is_digit.true)

pub loop-at-init : goal.loop-at-init
loop-at-init c = first_digits c.args.base c.args.cs.now c.args.from (c.is_digit.ensures.inside c.if-not-is_digit.false).0 (sym c.is_digit.ensures.value ∙ c.if-not-is_digit.false)

pub loop-at-preserved : goal.loop-at-preserved
loop-at-preserved c = more_digits c.args.base c.args.cs.now c.loop-at.at c.goes_on.result (c.goes_on.ensures.inside c.loop-at-test.true).0 c.loop-at-test.true c.goes_on.ensures.value ∙ c.loop-at.invariant

pub returns : goal.returns
returns c = let e = last_digits c.args.base c.args.cs.now c.loop-at.at c.goes_on.result c.loop-at-test.false c.goes_on.ensures.value in let i = c.loop-at.invariant in omega arith
