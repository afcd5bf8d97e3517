use Rattle.std.proofs.Common.{◌≡◌, ℕ, ◌⊎◌, ◌-◌, ◌++◌, List, length}
use Rattle.px_exprs.specs.Grammar.{AreTexts}
use Rattle.px_lexer.specs.Terminals.{terminals_of}
use Rattle.px_exprs.proofs.atoms.texts.Given as goal

-- what was read goes on with what follows
abbrev pub invariant-loop-content : goal.invariant-loop-content
invariant-loop-content l =
    ((rest : List (List ℕ)) (j : ℕ) → AreTexts (terminals_of l.fn.tokens) l.to rest j → AreTexts (terminals_of l.fn.tokens) l.fn.from (l.contents ++ rest) j)
    × ((l.to ≡ l.fn.from) ⊎ AreTexts (terminals_of l.fn.tokens) l.fn.from l.contents l.to)

abbrev pub decreases-loop-content : goal.decreases-loop-content
decreases-loop-content l = length l.fn.tokens.list - l.to
