use Rattle.std.proofs.Common.{◌≡◌, ◌+◌, ◌-◌, ◌≤◌, drop, length}
use Rattle.std.specs.List.{prefix_len}
use Rattle.std.specs.Char.{is_digit}
use Rattle.px_lexer.proofs.string_content.digits_len.Given as goal

abbrev pub invariant-loop-count : goal.invariant-loop-count
invariant-loop-count l = record {
  most : l.count ≤ l.most;
  inside : l.from + l.count ≤ length l.body;
  left : l.count + prefix_len (λ c. is_digit c l.base) (drop (l.from + l.count) l.body) ≡ prefix_len (λ c. is_digit c l.base) (drop l.from l.body);
}

abbrev pub decreases-loop-count : goal.decreases-loop-count
decreases-loop-count l = l.most - l.count
