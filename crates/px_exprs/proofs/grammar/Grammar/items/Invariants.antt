use Rattle.std.proofs.Common.{◌<◌, ◌≤◌, ◌-◌, length}
use Rattle.px_exprs.specs.Grammar.{IsItem}
use Rattle.px_lexer.specs.Terminals.{terminals_of}
use Rattle.px_exprs.specs.Lists.{Front}
use Rattle.px_exprs.proofs.grammar.Grammar.items.Given as goal

abbrev pub invariant-loop-to : goal.invariant-loop-to
invariant-loop-to g l = Front IsItem (terminals_of l.fn.tokens) l.fn.from l.items l.depth l.to × (l.depth ≤ l.fn.room) × (l.to < length l.fn.tokens.list)

abbrev pub decreases-loop-to : goal.decreases-loop-to
decreases-loop-to g l = length l.fn.tokens.list - l.to
