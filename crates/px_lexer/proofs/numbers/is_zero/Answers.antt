use Rattle.std.proofs.Common.{sym, ap, ◌∙◌, slice_range, arith}
use Rattle.px_lexer.specs.Numbers.{is_zero}
use Rattle.px_lexer.proofs.NumberPlaces.{zero_here, range_start, range_end}
use Rattle.px_lexer.proofs.numbers.is_zero.Goals as goal

pub loop-at-init : goal.loop-at-init
loop-at-init c = ap is_zero (range_start c.args.from (slice_range c.args.cs.now c.args.from c.args.to))

pub returns-then-not-stands_either : goal.returns-then-not-stands_either
returns-then-not-stands_either c =
    sym (rw c.if-not-stands_either.true at (zero_here c.args.cs.now c.args.from c.args.to c.loop-at.at c.stands_either.result c.loop-at.auto.at c.loop-at-test.true c.requires c.stands_either.ensures.value)) ∙ c.loop-at.invariant

pub loop-at-preserved : goal.loop-at-preserved
loop-at-preserved c =
    sym (rw c.if-not-stands_either.false at (zero_here c.args.cs.now c.args.from c.args.to c.loop-at.at c.stands_either.result c.loop-at.auto.at c.loop-at-test.true c.requires c.stands_either.ensures.value)) ∙ c.loop-at.invariant

pub returns : goal.returns
returns c = sym (ap is_zero (range_end c.args.cs.now c.args.from c.args.to c.loop-at.at (omega arith))) ∙ c.loop-at.invariant
