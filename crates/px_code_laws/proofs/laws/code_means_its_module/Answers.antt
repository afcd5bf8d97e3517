use Rattle.px_code_laws.proofs.Means.{code_means as law}
use Rattle.px_code_laws.proofs.laws.code_means_its_module.Goals as goal

pub returns : goal.returns
returns c = law
