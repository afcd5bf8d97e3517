use Rattle.std.proofs.Common.{◌<◌, ◌≤◌, ◌-◌, length}
use Rattle.px_exprs.specs.Codes.{Past}
use Rattle.px_exprs.specs.Grammar.{IsTrailer}
use Rattle.px_lexer.specs.Terminals.{terminals_of}
use Rattle.px_exprs.specs.Lists.{Ran}
use Rattle.px_exprs.proofs.grammar.Grammar.trailers.Given as goal

abbrev pub invariant-loop-found : goal.invariant-loop-found
invariant-loop-found g l = Ran IsTrailer (terminals_of l.fn.tokens) l.fn.from l.found l.depth l.to × (l.depth ≤ l.fn.room) × Past 1 (terminals_of l.fn.tokens) l.to × (l.to < length l.fn.tokens.list)

abbrev pub decreases-loop-found : goal.decreases-loop-found
decreases-loop-found g l = length l.fn.tokens.list - l.to
