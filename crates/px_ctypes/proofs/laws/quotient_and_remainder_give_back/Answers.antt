use Rattle.px_ctypes.proofs.ResultLaws.{give_back}
use Rattle.px_ctypes.proofs.laws.quotient_and_remainder_give_back.Goals as goal

pub returns : goal.returns
returns c = give_back
