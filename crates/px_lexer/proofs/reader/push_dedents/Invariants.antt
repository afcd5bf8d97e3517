use Rattle.std.proofs.Common.{◌≡◌, ◌++◌, length, take}
use Rattle.std.specs.Prelude.{filter, replicate, nat_lt}
use Rattle.px_lexer.specs.declared.token_list.TokenKind.TheVariants as kind
use Rattle.px_lexer.specs.Reached.{token_from}
use Rattle.px_lexer.proofs.reader.push_dedents.Given as goal

abbrev pub invariant-loop-open : goal.invariant-loop-open
invariant-loop-open l = l.list ≡ l.initial.list ++ replicate (length (filter (nat_lt l.level) (take l.open-index l.levels))) (token_from kind.Dedent l.at l.at)
