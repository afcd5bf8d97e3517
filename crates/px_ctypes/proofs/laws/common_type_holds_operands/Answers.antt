use Rattle.px_ctypes.proofs.TypeLaws.{promoted_greatest, promoted_least, common_comm, common_greatest, common_least}
use Rattle.px_ctypes.proofs.laws.common_type_holds_operands.Goals as goal

pub returns-clause-promoted_greatest : goal.returns-clause-promoted_greatest
returns-clause-promoted_greatest c = promoted_greatest

pub returns-clause-promoted_least : goal.returns-clause-promoted_least
returns-clause-promoted_least c = promoted_least

pub returns-clause-commutes : goal.returns-clause-commutes
returns-clause-commutes c = common_comm

pub returns-clause-greatest : goal.returns-clause-greatest
returns-clause-greatest c = common_greatest

pub returns-clause-least : goal.returns-clause-least
returns-clause-least c = common_least
