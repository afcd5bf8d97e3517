use Rattle.std.proofs.Common.{refl}
use Rattle.px_tree.specs.declared.typed_heads.TypedHead.TheVariants as head
use Rattle.px_operators.proofs.ChainLaws.{chain_has, logic_has, comparison_has}
use Rattle.px_operators.proofs.laws.chain_types.Goals as goal

pub returns-clause-binary : goal.returns-clause-binary
returns-clause-binary c = chain_has

pub returns-clause-comparison : goal.returns-clause-comparison
returns-clause-comparison c = comparison_has

pub returns-clause-and : goal.returns-clause-and
returns-clause-and c = logic_has head.And (λ t. refl)

pub returns-clause-or : goal.returns-clause-or
returns-clause-or c = logic_has head.Or (λ t. refl)
