use Rattle.std.proofs.Common.{sym}
use Rattle.px_names.specs.Uses.{is_call}
use Rattle.px_names.proofs.Heads.{from_head, other_call}
use Rattle.px_names.proofs.calls.is_call.Goals as goal

pub returns-in-Call : goal.returns-in-Call
returns-in-Call c = from_head is_call c.in-Call.is

pub returns-in_default : goal.returns-in_default
returns-in_default c = sym (other_call c.args.trailer c.in_default.not-Call)
