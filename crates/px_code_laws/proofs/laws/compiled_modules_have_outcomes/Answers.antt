use Rattle.px_code_laws.proofs.ComingModules.{has_outcome}
use Rattle.px_code_laws.proofs.laws.compiled_modules_have_outcomes.Goals as goal

pub returns : goal.returns
returns c = λ image source compiled plain input turns members. has_outcome image source compiled plain input turns members
