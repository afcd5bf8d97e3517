use Rattle.px_ctypes.proofs.WrapLaws.{wrap_wraps, wrapped_once}
use Rattle.px_ctypes.proofs.laws.wrapping_is_exact.Goals as goal

pub returns-clause-some : goal.returns-clause-some
returns-clause-some c = wrap_wraps

pub returns-clause-one : goal.returns-clause-one
returns-clause-one c = wrapped_once
