use Rattle.px_ctypes.proofs.ResultLaws.{overflows, overflows_there, least_wraps, floored_by_minus_one, truncated_by_minus_one}
use Rattle.px_ctypes.proofs.laws.division_overflows_at_minus_one.Goals as goal

pub returns-clause-pair : goal.returns-clause-pair
returns-clause-pair c = λ t a b h k n. (overflows t a b h k n, overflows_there t a b k)

pub returns-clause-wraps : goal.returns-clause-wraps
returns-clause-wraps c = least_wraps

pub returns-clause-floored : goal.returns-clause-floored
returns-clause-floored c = floored_by_minus_one

pub returns-clause-truncated : goal.returns-clause-truncated
returns-clause-truncated c = truncated_by_minus_one
