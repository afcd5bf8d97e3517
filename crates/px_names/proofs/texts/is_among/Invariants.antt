use Rattle.std.proofs.Common.{◌≡◌, length, map}
use Rattle.px_names.specs.Tables.{is_among}
use Rattle.px_names.proofs.texts.is_among.Given as goal

abbrev pub invariant-loop-words : goal.invariant-loop-words
invariant-loop-words l = is_among (map (λ word. word.now) l.words) l.name ≡ is_among (map (λ word. word.now) l.initial.words) l.name

abbrev pub decreases-loop-words : goal.decreases-loop-words
decreases-loop-words l = length l.words
