use Rattle.std.proofs.Common.{refl}
use Rattle.px_operators.proofs.ConversionLaws.{in_c_stays, in_c_differs, in_c_type}
use Rattle.px_operators.proofs.ChainLaws.{operand_type}
use Rattle.px_operators.proofs.laws.operands_have_their_types.Goals as goal

pub returns-clause-asked : goal.returns-clause-asked
returns-clause-asked c = operand_type

pub returns-clause-at_hand : goal.returns-clause-at_hand
returns-clause-at_hand c = λ number at t. refl

pub returns-clause-read_twice : goal.returns-clause-read_twice
returns-clause-read_twice c = λ o. refl

pub returns-clause-taken : goal.returns-clause-taken
returns-clause-taken c = in_c_type

pub returns-clause-stays : goal.returns-clause-stays
returns-clause-stays c = in_c_stays

pub returns-clause-differs : goal.returns-clause-differs
returns-clause-differs c = in_c_differs
