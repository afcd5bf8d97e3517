use Rattle.std.proofs.Common.{ℕ, length, map, IsTrue}
use Rattle.px_exprs.specs.Typings.{AreNames}
use Rattle.px_lexer.specs.Terminals.{terminals_of}
use Rattle.px_exprs.specs.TypeParts.{words_are_ascii}
use Rattle.px_exprs.proofs.typings.are_words.Given as goal

-- the words that are left stand from here on where all of them stand from their index on
abbrev pub invariant-loop-words : goal.invariant-loop-words
invariant-loop-words l =
    let ts = terminals_of l.tokens in
    let all = map (λ word. word.now) l.initial.words in
    let left = map (λ word. word.now) l.words in
    record {
      ascii : IsTrue (words_are_ascii left);
      whole : (to : ℕ) → AreNames ts l.at left to → AreNames ts l.from all to;
      rest : (to : ℕ) → AreNames ts l.from all to → AreNames ts l.at left to;
    }

abbrev pub decreases-loop-words : goal.decreases-loop-words
decreases-loop-words l = length l.words
