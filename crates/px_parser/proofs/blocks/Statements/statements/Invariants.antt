use Rattle.std.proofs.Common.{◌-◌, length}
use Rattle.px_lexer.specs.Terminals.{terminals_of}
use Rattle.px_parser.proofs.BlockSteps.{AreStatements}
use Rattle.px_parser.proofs.blocks.Statements.statements.Given as goal

abbrev pub invariant-loop-tree : goal.invariant-loop-tree
invariant-loop-tree g l = AreStatements (terminals_of l.tokens) l.from l.room l.tree l.to

abbrev pub decreases-loop-tree : goal.decreases-loop-tree
decreases-loop-tree g l = length l.tokens.list - l.to
