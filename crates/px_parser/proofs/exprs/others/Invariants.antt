use Rattle.std.proofs.Common.{◌<◌, ◌-◌, length}
use Rattle.px_lexer.specs.Terminals.{terminals_of}
use Rattle.px_parser.proofs.ExprLists.{WithCommas}
use Rattle.px_parser.proofs.exprs.others.Given as goal

abbrev pub invariant-loop-alloc : goal.invariant-loop-alloc
invariant-loop-alloc l = WithCommas (terminals_of l.fn.tokens) l.fn.from l.items l.to × (l.to < length l.fn.tokens.list)

abbrev pub decreases-loop-alloc : goal.decreases-loop-alloc
decreases-loop-alloc l = length l.fn.tokens.list - l.to
