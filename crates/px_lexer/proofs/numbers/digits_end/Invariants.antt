use Rattle.std.proofs.Common.{◌≡◌, ◌+◌, ◌-◌, drop, length}
use Rattle.px_lexer.specs.NumberSteps.{digits_len, tail_len}
use Rattle.px_lexer.proofs.numbers.digits_end.Given as goal

abbrev pub invariant-loop-at : goal.invariant-loop-at
invariant-loop-at l = l.at + tail_len l.base (drop l.at l.cs) ≡ l.from + digits_len l.base (drop l.from l.cs)

abbrev pub decreases-loop-at : goal.decreases-loop-at
decreases-loop-at l = length l.cs - l.at
