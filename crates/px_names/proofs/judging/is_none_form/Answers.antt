use Rattle.std.proofs.Common.{sym}
use Rattle.px_names.specs.Rules.{is_none_form}
use Rattle.px_names.proofs.Heads.{from_head, other_none}
use Rattle.px_names.proofs.judging.is_none_form.Goals as goal

pub returns-in-None : goal.returns-in-None
returns-in-None c = from_head is_none_form c.in-None.is

pub returns-in_default : goal.returns-in_default
returns-in_default c = sym (other_none c.args.head c.in_default.not-None)
