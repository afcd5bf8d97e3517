use Rattle.px_code_laws.proofs.RunningCode.{code_all_runs as law}
use Rattle.px_code_laws.proofs.running.code_runs.Goals as goal

pub returns : goal.returns
returns c = law
