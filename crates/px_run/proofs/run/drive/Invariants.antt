use Rattle.px_member.specs.Members.{HoldsAll}
use Rattle.px_run.specs.Driving.{EndsAsDoes, left}
use Rattle.px_run.proofs.run.drive.Given as goal

abbrev pub invariant-loop : goal.invariant-loop
invariant-loop l = record {
  held : HoldsAll l.member;
  so : EndsAsDoes l.image l.fn.member l.member;
}

abbrev pub decreases-loop : goal.decreases-loop
decreases-loop l = left l.image l.member
