use Rattle.px_lexer.proofs.FirstLaws.{tokens_there, tokens_or_refusal}
use Rattle.px_lexer.proofs.laws.tokens_are_there.Goals as goal

pub returns-clause-exact : goal.returns-clause-exact
returns-clause-exact c = tokens_there

pub returns-clause-first : goal.returns-clause-first
returns-clause-first c = tokens_or_refusal
