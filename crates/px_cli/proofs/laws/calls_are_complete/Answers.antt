use Rattle.px_cli.proofs.CompleteLaws.{calls_complete}
use Rattle.px_cli.proofs.laws.calls_are_complete.Goals as goal

pub returns : goal.returns
returns c = calls_complete c.answers_are_unique.ensures
