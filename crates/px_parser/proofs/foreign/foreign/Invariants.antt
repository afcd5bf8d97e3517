use Rattle.std.proofs.Common.{ℕ, ◌<◌}
use Rattle.px_lexer.specs.declared.token_list.TokenKind.TheVariants as kind
use Rattle.px_lexer.specs.Terminals.{HasKind, terminals_of}
use Rattle.px_parser.proofs.foreign.foreign.Given as goal

abbrev pub invariant-loop-at : goal.invariant-loop-at
invariant-loop-at l = (i : ℕ) → i < l.at → HasKind (terminals_of l.tokens) i kind.Foreign → ⊥
