use Rattle.std.proofs.Common.{◌-◌, length}
use Rattle.px_lexer.specs.Terminals.{terminals_of}
use Rattle.px_parser.proofs.TargetsLoops.{Looping}
use Rattle.px_parser.proofs.targets.further_targets.Given as goal

abbrev pub invariant-loop-others : goal.invariant-loop-others
invariant-loop-others l = Looping (terminals_of l.fn.tokens) l.fn.from l.fn.first l.fn.comma l.others l.to

abbrev pub decreases-loop-others : goal.decreases-loop-others
decreases-loop-others l = length l.fn.tokens.list - l.to
