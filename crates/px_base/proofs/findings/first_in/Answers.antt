use Rattle.std.proofs.Common.{List, subst}
use Rattle.std.specs.Prelude.{Contains}
use Rattle.std.proofs.lemmas.List.{take_all}
use Rattle.px_base.specs.declared.refusals.Refusal.{Refusal}
use Rattle.px_base.specs.Findings.{IsFirst}
use Rattle.px_base.proofs.FirstFindings.{first_of_more, none_first}
use Rattle.px_base.proofs.findings.first_in.Goals as goal

pub loop-finding-preserved : goal.loop-finding-preserved
loop-finding-preserved c = rw c.earlier-first.ensures (first_of_more _ _ _ _ c.loop-finding-test.true c.loop-finding.invariant)

pub returns-clause-first : goal.returns-clause-first
returns-clause-first c =
    let P : List Refusal → Type 0 = λ xs. IsFirst (Contains xs) c.loop-finding.first in
    subst P (take_all c.loop-finding.finding-index c.args.findings.now c.loop-finding-test.false) c.loop-finding.invariant

pub returns-clause-empty : goal.returns-clause-empty
returns-clause-empty c = none_first _ _ (returns-clause-first c)
