use Rattle.std.proofs.Common.{sym}
use Rattle.px_names.specs.Uses.{is_truth_literal}
use Rattle.px_names.proofs.Heads.{from_head, other_truth}
use Rattle.px_names.proofs.calls.is_truth_literal.Goals as goal

pub returns-in-True : goal.returns-in-True
returns-in-True c = from_head is_truth_literal c.in-True.is

pub returns-in-False : goal.returns-in-False
returns-in-False c = from_head is_truth_literal c.in-False.is

pub returns-in_default : goal.returns-in_default
returns-in_default c = sym (other_truth c.args.value c.in_default.not-True c.in_default.not-False)
