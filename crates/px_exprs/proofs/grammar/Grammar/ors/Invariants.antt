use Rattle.std.proofs.Common.{◌-◌, length}
use Rattle.px_exprs.specs.Codes.{Past}
use Rattle.px_lexer.specs.Terminals.{terminals_of}
use Rattle.px_exprs.specs.Parts.{IsOrPart}
use Rattle.px_exprs.proofs.JunctionSteps.{IsRun}
use Rattle.px_exprs.proofs.grammar.Grammar.ors.Given as goal

abbrev pub invariant-loop-operands : goal.invariant-loop-operands
invariant-loop-operands g l = IsRun IsOrPart (Past 24) (terminals_of l.tokens) l.room l.from l.operands l.depth l.to

abbrev pub decreases-loop-operands : goal.decreases-loop-operands
decreases-loop-operands g l = length l.tokens.list - l.to
