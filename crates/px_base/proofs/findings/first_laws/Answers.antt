use Rattle.px_base.proofs.FirstFindings.{first_of-associative, first_of-commutative, first_of-idempotent}
use Rattle.px_base.proofs.findings.first_laws.Goals as goal

pub returns-clause-associative : goal.returns-clause-associative
returns-clause-associative c = first_of-associative

pub returns-clause-commutative : goal.returns-clause-commutative
returns-clause-commutative c = first_of-commutative

pub returns-clause-idempotent : goal.returns-clause-idempotent
returns-clause-idempotent c = first_of-idempotent
