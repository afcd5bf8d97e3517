use Rattle.std.proofs.Common.{◌≡◌, ◌-◌, drop, slice_range}
use Rattle.px_lexer.specs.Numbers.{is_zero}
use Rattle.px_lexer.proofs.numbers.is_zero.Given as goal

abbrev pub invariant-loop-at : goal.invariant-loop-at
invariant-loop-at l = is_zero (drop (l.at - l.from) (slice_range l.cs l.from l.to)) ≡ is_zero (slice_range l.cs l.from l.to)
