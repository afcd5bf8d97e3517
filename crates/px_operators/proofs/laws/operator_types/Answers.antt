use Rattle.std.proofs.Common.{refl}
use Rattle.px_tree.specs.declared.typed_heads.TypedHead.TheVariants as head
use Rattle.px_operators.proofs.ChainLaws.{not_type, common_type}
use Rattle.px_operators.proofs.laws.operator_types.Goals as goal

pub returns-clause-unary : goal.returns-clause-unary
returns-clause-unary c = λ op number at o. refl

pub returns-clause-binary : goal.returns-clause-binary
returns-clause-binary c = λ cdivision number at op left right. refl

pub returns-clause-comparison : goal.returns-clause-comparison
returns-clause-comparison c = λ number at op left right. refl

pub returns-clause-and : goal.returns-clause-and
returns-clause-and c = λ number at left right. refl

pub returns-clause-or : goal.returns-clause-or
returns-clause-or c = λ number at left right. refl

pub returns-clause-not : goal.returns-clause-not
returns-clause-not c = not_type

pub returns-clause-conditional : goal.returns-clause-conditional
returns-clause-conditional c = λ number at left right test. refl

pub returns-clause-min : goal.returns-clause-min
returns-clause-min c = λ number at first next others made is. common_type head.Min number at first next others made (λ t. refl) is

pub returns-clause-max : goal.returns-clause-max
returns-clause-max c = λ number at first next others made is. common_type head.Max number at first next others made (λ t. refl) is
