use Rattle.std.proofs.Common.{◌-◌, length}
use Rattle.px_lexer.specs.Terminals.{terminals_of}
use Rattle.px_exprs.specs.Parts.{levels_of}
use Rattle.px_exprs.proofs.BinarySteps.{IsLinkRun}
use Rattle.px_exprs.proofs.grammar.Grammar.+binary.Given as goal

abbrev pub decreases-binary : goal.decreases-binary
decreases-binary g l = length l.levels.now

abbrev pub invariant-loop-op : goal.invariant-loop-op
invariant-loop-op g l = IsLinkRun l.level.now (levels_of l.tighter) (terminals_of l.tokens) l.room l.number l.links l.depth l.to

abbrev pub decreases-loop-op : goal.decreases-loop-op
decreases-loop-op g l = length l.tokens.list - l.to
