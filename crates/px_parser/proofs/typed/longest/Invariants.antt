use Rattle.std.proofs.Common.{◌≤◌, ◌-◌, length}
use Rattle.px_exprs.specs.Typings.{IsBase}
use Rattle.px_lexer.specs.Terminals.{terminals_of}
use Rattle.px_parser.proofs.typed.longest.Given as goal

abbrev pub invariant-loop-longer : goal.invariant-loop-longer
invariant-loop-longer l = record { known : IsBase (terminals_of l.tokens) l.from l.tree l.to; within : l.to ≤ length l.tokens.list }

abbrev pub decreases-loop-longer : goal.decreases-loop-longer
decreases-loop-longer l = length l.tokens.list - l.to
