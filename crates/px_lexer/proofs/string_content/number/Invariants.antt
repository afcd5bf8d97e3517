use Rattle.std.proofs.Common.{◌≡◌, ◌-◌, ◌<◌, ◌≤◌, ◌^◌, drop, take}
use Rattle.px_lexer.specs.Numbers.{digits_value}
use Rattle.px_lexer.proofs.string_content.number.Given as goal

abbrev pub invariant-loop-read : goal.invariant-loop-read
invariant-loop-read l = record {
  inside : l.read ≤ l.count;
  value : l.value ≡ digits_value l.base (take l.read (drop l.from l.body));
  small : l.value < l.base ^ l.read;
}

abbrev pub decreases-loop-read : goal.decreases-loop-read
decreases-loop-read l = l.count - l.read
