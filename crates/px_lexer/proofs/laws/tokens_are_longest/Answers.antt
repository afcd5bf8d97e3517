use Rattle.px_lexer.proofs.LongestLaw.{tokens_longest}
use Rattle.px_lexer.proofs.laws.tokens_are_longest.Goals as goal

pub returns : goal.returns
returns c = tokens_longest
