use Rattle.std.proofs.Common.{◌-◌, length}
use Rattle.px_lexer.specs.Terminals.{terminals_of}
use Rattle.px_exprs.specs.Runs.{nesting_limit}
use Rattle.px_parser.proofs.ItemLoop.{AreItems}
use Rattle.px_parser.proofs.modules.items.Given as goal

abbrev pub invariant-loop-alloc : goal.invariant-loop-alloc
invariant-loop-alloc l = AreItems (terminals_of l.tokens) nesting_limit l.tree l.to

abbrev pub decreases-loop-alloc : goal.decreases-loop-alloc
decreases-loop-alloc l = length l.tokens.list - l.to
