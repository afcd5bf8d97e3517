use Rattle.px_ctypes.proofs.DivisionLaws.{floored, floored_once, truncated, truncated_once}
use Rattle.px_ctypes.proofs.laws.division_is_exact.Goals as goal

pub returns-clause-floored : goal.returns-clause-floored
returns-clause-floored c = floored

pub returns-clause-floored_once : goal.returns-clause-floored_once
returns-clause-floored_once c = floored_once

pub returns-clause-truncated : goal.returns-clause-truncated
returns-clause-truncated c = truncated

pub returns-clause-truncated_once : goal.returns-clause-truncated_once
returns-clause-truncated_once c = truncated_once
