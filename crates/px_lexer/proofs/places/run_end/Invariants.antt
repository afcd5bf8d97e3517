use Rattle.std.proofs.Common.{◌≡◌, ◌+◌, ◌-◌, ◌≤◌, ◌==◌, length, drop}
use Rattle.std.specs.List.{prefix_len}
use Rattle.px_lexer.proofs.places.run_end.Given as goal

abbrev pub invariant-loop-to : goal.invariant-loop-to
invariant-loop-to l = record {
  forward : l.from ≤ l.to;
  within : l.to ≤ length l.cs;
  run : l.to + prefix_len (λ c. c == l.code) (drop l.to l.cs) ≡ l.from + prefix_len (λ c. c == l.code) (drop l.from l.cs);
}

abbrev pub decreases-loop-to : goal.decreases-loop-to
decreases-loop-to l = length l.cs - l.to
