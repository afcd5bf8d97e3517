use Rattle.px_parser.proofs.ModuleLaws.{refusals_at_tokens}
use Rattle.px_parser.proofs.laws.refusals_are_at_tokens.Goals as goal

pub returns : goal.returns
returns c = refusals_at_tokens
