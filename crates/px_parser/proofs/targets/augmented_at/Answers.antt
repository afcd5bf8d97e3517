use Rattle.px_parser.specs.StatementGrammar.{augmented}
use Rattle.px_parser.proofs.targets.augmented_at.Goals as goal

pub returns : goal.returns
unfolding augmented
returns c = c.meaning.ensures
