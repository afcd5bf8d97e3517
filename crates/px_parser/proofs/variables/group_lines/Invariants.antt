use Rattle.std.proofs.Common.{◌-◌, length}
use Rattle.px_lexer.specs.Terminals.{terminals_of}
use Rattle.px_parser.proofs.DeclareReading.{HasLines}
use Rattle.px_parser.proofs.variables.group_lines.Given as goal

abbrev pub invariant-loop-alloc : goal.invariant-loop-alloc
invariant-loop-alloc l = HasLines (terminals_of l.fn.tokens) l.fn.from l.tree l.to

abbrev pub decreases-loop-alloc : goal.decreases-loop-alloc
decreases-loop-alloc l = length l.fn.tokens.list - l.to
