use Rattle.std.proofs.Common.{◌≡◌, length, map}
use Rattle.px_lexer.specs.Spellings.{is_among}
use Rattle.px_lexer.proofs.words.stands_in.Given as goal

abbrev pub invariant-loop-table : goal.invariant-loop-table
invariant-loop-table l = is_among (map (λ spelling. spelling.now) l.table) l.word ≡ is_among (map (λ spelling. spelling.now) l.initial.table) l.word

abbrev pub decreases-loop-table : goal.decreases-loop-table
decreases-loop-table l = length l.table
