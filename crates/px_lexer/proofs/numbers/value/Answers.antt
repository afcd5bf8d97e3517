use Rattle.std.proofs.Common.{◌≡◌, slice_range, ap, sym, ◌∙◌, arith}
use Rattle.px_lexer.specs.Numbers.{digits_value}
use Rattle.px_lexer.proofs.NumberPlaces.{digit_here, value_here, value_behind, range_start, range_end, too_wide}
use Rattle.px_lexer.proofs.NumberReading.{value_found}
use Rattle.px_lexer.proofs.numbers.value.Goals as goal

pub with_digit-requires-clause-digit : goal.with_digit-requires-clause-digit
with_digit-requires-clause-digit c = digit_here c.args.base c.args.cs.now c.args.from c.args.to c.loop-at.at c.requires.digits c.loop-at.auto.at c.loop-at-test.true c.requires.inside

pub loop-at-init : goal.loop-at-init
loop-at-init c = ap (value_behind c.args.base 0) (range_start c.args.from (slice_range c.args.cs.now c.args.from c.args.to))

pub loop-at-preserved : goal.loop-at-preserved
loop-at-preserved c =
    let e = value_here c.args.base c.loop-at.value c.args.cs.now c.args.from c.args.to c.loop-at.at c.loop-at.auto.at c.loop-at-test.true c.requires.inside in
    rw c.in_ok-value.ensures.1 (sym e ∙ c.loop-at.invariant)

pub returns-in_err-value : goal.returns-in_err-value
returns-in_err-value c =
    rw c.from_residual.ensures
    (too_wide c.args.base c.loop-at.value c.args.cs.now c.args.from c.args.to c.loop-at.at c.requires.lower c.loop-at.auto.at c.loop-at-test.true c.requires.inside c.loop-at.invariant c.in_err-value.ensures)

pub returns : goal.returns
returns c =
    let n = digits_value c.args.base (slice_range c.args.cs.now c.args.from c.args.to) in
    let e : c.loop-at.value ≡ n = sym (ap (value_behind c.args.base c.loop-at.value) (range_end c.args.cs.now c.args.from c.args.to c.loop-at.at (omega arith))) ∙ c.loop-at.invariant in
    value_found c.ok.result c.try_from.result c.loop-at.value n c.ok.ensures.value e c.try_from.ensures
