use Rattle.std.proofs.Common.{◌∙◌, sym}
use Rattle.px_names.specs.Rules.{is_identity}
use Rattle.px_names.proofs.Heads.{from_head, other_identity}
use Rattle.px_names.proofs.judging.is_identity.Goals as goal

pub returns-in-Comparison : goal.returns-in-Comparison
returns-in-Comparison c = c.is_identity_operator.ensures ∙ from_head is_identity c.in-Comparison.is

pub returns-in_default : goal.returns-in_default
returns-in_default c = sym (other_identity c.args.comparison c.in_default.not-Comparison)
