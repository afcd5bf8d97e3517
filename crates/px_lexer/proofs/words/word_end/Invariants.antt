use Rattle.std.proofs.Common.{◌≡◌, ◌+◌, ◌-◌, drop}
use Rattle.px_lexer.specs.Words.{word_len}
use Rattle.px_lexer.proofs.words.word_end.Given as goal

abbrev pub invariant-loop-to : goal.invariant-loop-to
invariant-loop-to l = l.to + word_len (drop l.to l.cs) ≡ l.from + word_len (drop l.from l.cs)

abbrev pub decreases-loop-to : goal.decreases-loop-to
decreases-loop-to l = l.len - l.to
