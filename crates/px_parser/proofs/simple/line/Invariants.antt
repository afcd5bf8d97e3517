use Rattle.std.proofs.Common.{ℕ, ◌<◌, ◌-◌, length}
use Rattle.px_lexer.specs.Terminals.{terminals_of}
use Rattle.px_parser.proofs.LineSteps.{IsLineSoFar}
use Rattle.px_parser.proofs.simple.line.Given as goal

abbrev pub invariant-loop-alloc : goal.invariant-loop-alloc
invariant-loop-alloc l = ((room : ℕ) → IsLineSoFar (terminals_of l.tokens) l.from room l.tree l.to) × (l.to < length l.tokens.list)

abbrev pub decreases-loop-alloc : goal.decreases-loop-alloc
decreases-loop-alloc l = length l.tokens.list - l.to
