use Rattle.std.proofs.Common.{◌-◌, length}
use Rattle.px_lexer.proofs.StringContentLemmas.{IsReadTo}
use Rattle.px_lexer.proofs.string_content.escaped_content.Given as goal

abbrev pub invariant-loop-c : goal.invariant-loop-c
invariant-loop-c l = IsReadTo l.body l.at l.content

abbrev pub decreases-loop-c : goal.decreases-loop-c
decreases-loop-c l = length l.body - l.at
