use Rattle.std.proofs.Common.{◌≡◌, ◌-◌, drop, length}
use Rattle.px_lexer.specs.Strings.{is_raw}
use Rattle.px_lexer.proofs.strings.is_raw.Given as goal

abbrev pub invariant-loop-at : goal.invariant-loop-at
invariant-loop-at l = is_raw (drop l.at l.prefix) ≡ is_raw l.prefix

abbrev pub decreases-loop-at : goal.decreases-loop-at
decreases-loop-at l = length l.prefix - l.at
