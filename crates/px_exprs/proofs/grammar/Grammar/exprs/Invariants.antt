use Rattle.std.proofs.Common.{◌<◌, ◌≤◌, ◌-◌, length}
use Rattle.px_exprs.specs.Grammar.{IsExpr}
use Rattle.px_lexer.specs.Terminals.{terminals_of}
use Rattle.px_exprs.specs.Lists.{Front}
use Rattle.px_exprs.proofs.grammar.Grammar.exprs.Given as goal

abbrev pub invariant-loop-closing : goal.invariant-loop-closing
invariant-loop-closing g l = Front IsExpr (terminals_of l.fn.tokens) l.fn.from l.items l.depth l.to × (l.depth ≤ l.fn.room) × (l.to < length l.fn.tokens.list)

abbrev pub decreases-loop-closing : goal.decreases-loop-closing
decreases-loop-closing g l = length l.fn.tokens.list - l.to
