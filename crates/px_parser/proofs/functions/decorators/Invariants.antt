use Rattle.std.proofs.Common.{◌-◌, length}
use Rattle.px_lexer.specs.Terminals.{terminals_of}
use Rattle.px_parser.proofs.FunctionSteps.{AreDecorators}
use Rattle.px_parser.proofs.functions.decorators.Given as goal

abbrev pub invariant-loop-alloc : goal.invariant-loop-alloc
invariant-loop-alloc l = AreDecorators (terminals_of l.tokens) l.from l.tree l.to

abbrev pub decreases-loop-alloc : goal.decreases-loop-alloc
decreases-loop-alloc l = length l.tokens.list - l.to
