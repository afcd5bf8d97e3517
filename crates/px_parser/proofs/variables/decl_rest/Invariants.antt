use Rattle.std.proofs.Common.{◌-◌, length}
use Rattle.px_parser.proofs.VariableReading.{HasMore}
use Rattle.px_parser.proofs.variables.decl_rest.Given as goal

abbrev pub invariant-loop-alloc : goal.invariant-loop-alloc
invariant-loop-alloc l = HasMore l.fn.tokens l.value.to l.others l.to

abbrev pub decreases-loop-alloc : goal.decreases-loop-alloc
decreases-loop-alloc l = length l.fn.tokens.list - l.to
