use Rattle.std.proofs.Common.{◌≡◌, ◌-◌, ◌++◌, drop, length}
use Rattle.px_lexer.specs.Strings.{with_line_feeds}
use Rattle.px_lexer.proofs.string_content.raw_content.Given as goal

abbrev pub invariant-loop-c : goal.invariant-loop-c
invariant-loop-c l = l.content ++ with_line_feeds (drop l.at l.body) ≡ with_line_feeds l.body

abbrev pub decreases-loop-c : goal.decreases-loop-c
decreases-loop-c l = length l.body - l.at
