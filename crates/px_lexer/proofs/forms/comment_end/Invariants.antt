use Rattle.std.proofs.Common.{◌≡◌, ◌+◌, ◌-◌, drop}
use Rattle.px_lexer.proofs.FormLemmas.{comment_len}
use Rattle.px_lexer.proofs.forms.comment_end.Given as goal

abbrev pub invariant-loop-to : goal.invariant-loop-to
invariant-loop-to l = l.to + comment_len (drop l.to l.cs) ≡ l.from + comment_len (drop l.from l.cs)

abbrev pub decreases-loop-to : goal.decreases-loop-to
decreases-loop-to l = l.length - l.to
