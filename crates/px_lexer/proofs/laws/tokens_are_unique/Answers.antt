use Rattle.px_lexer.proofs.TextLaws.{tokens_unique}
use Rattle.px_lexer.proofs.laws.tokens_are_unique.Goals as goal

pub returns : goal.returns
returns c = tokens_unique
