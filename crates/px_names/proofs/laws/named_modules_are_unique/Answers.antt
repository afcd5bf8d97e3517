use Rattle.px_names.proofs.NameLaws.{same_named}
use Rattle.px_names.proofs.laws.named_modules_are_unique.Goals as goal

pub returns : goal.returns
returns c = λ m a b first also. same_named m a b first also
