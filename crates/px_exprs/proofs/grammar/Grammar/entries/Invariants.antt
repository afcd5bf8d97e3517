use Rattle.std.proofs.Common.{◌<◌, ◌≤◌, ◌-◌, length}
use Rattle.px_exprs.specs.Parts.{IsEntry}
use Rattle.px_lexer.specs.Terminals.{terminals_of}
use Rattle.px_exprs.specs.Lists.{Front}
use Rattle.px_exprs.proofs.grammar.Grammar.entries.Given as goal

abbrev pub invariant-loop-items : goal.invariant-loop-items
invariant-loop-items g l = Front IsEntry (terminals_of l.fn.tokens) l.fn.from l.items l.depth l.to × (l.depth ≤ l.fn.room) × (l.to < length l.fn.tokens.list)

abbrev pub decreases-loop-items : goal.decreases-loop-items
decreases-loop-items g l = length l.fn.tokens.list - l.to
