use Rattle.px_base.proofs.FirstFindings.{only}
use Rattle.px_walk.specs.Findings.{Breaks}
use Rattle.px_walk.proofs.laws.first_findings_are_unique.Goals as goal

pub returns : goal.returns
returns g c = λ nodes a b first also. only (Breaks (g.R.Rules.judges c.args.rules.now) nodes) a b first also
