use Rattle.std.proofs.Common.{◌-◌, length}
use Rattle.px_lexer.specs.Terminals.{terminals_of}
use Rattle.px_exprs.proofs.ComparisonSteps.{IsComparisonRun}
use Rattle.px_exprs.proofs.grammar.Grammar.comparisons.Given as goal

abbrev pub invariant-loop-found : goal.invariant-loop-found
invariant-loop-found g l = IsComparisonRun (terminals_of l.tokens) l.room l.from l.found l.depth l.to

abbrev pub decreases-loop-found : goal.decreases-loop-found
decreases-loop-found g l = length l.tokens.list - l.to
