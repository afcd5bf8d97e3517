use Rattle.std.proofs.Common.{ℕ, ◌<◌, ◌-◌, length}
use Rattle.px_lexer.specs.Terminals.{terminals_of}
use Rattle.px_exprs.specs.Runs.{nesting_limit}
use Rattle.px_parser.specs.Parsing.{strict}
use Rattle.px_parser.specs.Parts.{NamesBy}
use Rattle.px_parser.proofs.names.names.Given as goal

abbrev pub invariant-loop-alloc : goal.invariant-loop-alloc
invariant-loop-alloc l = ((room : ℕ) → NamesBy l.separator (strict nesting_limit) (terminals_of l.tokens) l.from l.tree room l.to) × (l.to < length l.tokens.list)

abbrev pub decreases-loop-alloc : goal.decreases-loop-alloc
decreases-loop-alloc l = length l.tokens.list - l.to
