use Rattle.std.proofs.Common.{◌-◌, length}
use Rattle.px_exprs.specs.Codes.{Past}
use Rattle.px_lexer.specs.Terminals.{terminals_of}
use Rattle.px_exprs.specs.Parts.{IsAndPart}
use Rattle.px_exprs.proofs.JunctionSteps.{IsRun}
use Rattle.px_exprs.proofs.grammar.Grammar.ands.Given as goal

abbrev pub invariant-loop-operands : goal.invariant-loop-operands
invariant-loop-operands g l = IsRun IsAndPart (Past 23) (terminals_of l.tokens) l.room l.from l.operands l.depth l.to

abbrev pub decreases-loop-operands : goal.decreases-loop-operands
decreases-loop-operands g l = length l.tokens.list - l.to
