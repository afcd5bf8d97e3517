use Rattle.std.proofs.Common.{◌-◌, length}
use Rattle.px_lexer.specs.Terminals.{terminals_of}
use Rattle.px_parser.proofs.TargetsSteps.{Assigning}
use Rattle.px_parser.proofs.targets.assignment.Given as goal

abbrev pub invariant-loop-alloc : goal.invariant-loop-alloc
invariant-loop-alloc l = Assigning (terminals_of l.fn.tokens) l.fn.from l.targets l.value l.to

abbrev pub decreases-loop-alloc : goal.decreases-loop-alloc
decreases-loop-alloc l = length l.fn.tokens.list - l.to
