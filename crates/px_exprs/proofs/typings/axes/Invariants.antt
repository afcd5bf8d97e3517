use Rattle.std.proofs.Common.{◌-◌, length}
use Rattle.px_lexer.specs.declared.spelling.Operator.TheVariants as sign
use Rattle.px_exprs.specs.Readings.{EndsElement}
use Rattle.px_exprs.specs.Typings.{AreAxes}
use Rattle.px_lexer.specs.Terminals.{terminals_of}
use Rattle.px_exprs.proofs.typings.axes.Given as goal

abbrev pub invariant-loop-tree : goal.invariant-loop-tree
invariant-loop-tree l = record { known : AreAxes (terminals_of l.tokens) l.from l.tree l.to; ends : EndsElement sign.CloseBracket (terminals_of l.tokens) l.to }

abbrev pub decreases-loop-tree : goal.decreases-loop-tree
decreases-loop-tree l = length l.tokens.list - l.to
