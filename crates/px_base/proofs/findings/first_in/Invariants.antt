use Rattle.std.specs.Prelude.{Contains, take}
use Rattle.px_base.specs.Findings.{IsFirst}
use Rattle.px_base.proofs.findings.first_in.Given as goal

abbrev pub invariant-loop-finding : goal.invariant-loop-finding
invariant-loop-finding l = IsFirst (Contains (take l.finding-index l.findings)) l.first
