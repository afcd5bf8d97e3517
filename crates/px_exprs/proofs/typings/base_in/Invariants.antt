use Rattle.std.proofs.Common.{length}
use Rattle.px_lexer.specs.Terminals.{terminals_of}
use Rattle.px_exprs.proofs.Rows.{IsLeft}
use Rattle.px_exprs.proofs.typings.base_in.Given as goal

abbrev pub invariant-loop-table : goal.invariant-loop-table
invariant-loop-table l = IsLeft l.initial.table l.table (terminals_of l.tokens) l.from l.to

abbrev pub decreases-loop-table : goal.decreases-loop-table
decreases-loop-table l = length l.table
