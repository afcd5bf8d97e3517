use Rattle.px_base.proofs.FirstFindings.{comes_first-total, comes_first-transitive, comes_first-antisymmetric}
use Rattle.px_base.proofs.findings.order_laws.Goals as goal

pub returns-clause-total : goal.returns-clause-total
returns-clause-total c = comes_first-total

pub returns-clause-transitive : goal.returns-clause-transitive
returns-clause-transitive c = comes_first-transitive

pub returns-clause-antisymmetric : goal.returns-clause-antisymmetric
returns-clause-antisymmetric c = comes_first-antisymmetric
