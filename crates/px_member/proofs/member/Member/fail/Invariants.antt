use Rattle.std.proofs.Common.{length}
use Rattle.px_member.proofs.FrameSteps.{Unwinds}
use Rattle.px_member.proofs.member.Member.fail.Given as goal

abbrev pub invariant-loop-self : goal.invariant-loop-self
invariant-loop-self l = Unwinds l.fault l.fn.self (record {
  frame = l.self-inside.frame;
  callers = l.self-inside.callers.items;
  turns = l.self-inside.turns;
  members = l.self-inside.members;
  book = l.self-inside.book;
  end = l.self-inside.end;
})

abbrev pub decreases-loop-self : goal.decreases-loop-self
decreases-loop-self l = length l.self-inside.callers.items
