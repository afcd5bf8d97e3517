use Rattle.px_run.proofs.run.drive.Goals as goal
use Rattle.std.proofs.Common.{subst}
use Rattle.px_member.specs.Acts.{Did}
use Rattle.px_machine.specs.Machine.{step}
use Rattle.px_run.proofs.Driving.{Steps, steps_of, goes_on, falls, never_stuck, over}

pub loop-smaller : goal.loop-smaller
loop-smaller c =
    let begun = c.requires.ends in
    let so = c.loop.invariant.so begun.before begun.last begun.rest begun.after begun.so in
    let steps : Steps c.args.image.now = steps_of c.args.image.now c.formed.ensures c.requires.run in
    falls c.args.image.now steps c.loop.member c.step.new.self begun.before begun.after begun.last begun.rest so
    (subst (λ r. Did r (step c.args.image.now so.is) c.step.new.self) c.in-Went.is
    (c.step.ensures.did so.is so.is_member (never_stuck c.args.image.now steps c.loop.member begun.before begun.after begun.last begun.rest so)))

pub loop-preserved : goal.loop-preserved
loop-preserved c = record {
  held = c.step.ensures.held;
  so = λ w last rest v first.
      let so = c.loop.invariant.so w last rest v first in
      let steps : Steps c.args.image.now = steps_of c.args.image.now c.formed.ensures c.requires.run in
      goes_on c.args.image.now steps c.loop.member c.step.new.self w v last rest so
      (subst (λ r. Did r (step c.args.image.now so.is) c.step.new.self) c.in-Went.is
      (c.step.ensures.did so.is so.is_member (never_stuck c.args.image.now steps c.loop.member w v last rest so)));
}

pub returns-in-Ended : goal.returns-in-Ended
returns-in-Ended c = λ w last rest v first.
    let so = c.loop.invariant.so w last rest v first in
    let steps : Steps c.args.image.now = steps_of c.args.image.now c.formed.ensures c.requires.run in
    over c.args.image.now steps c.loop.member c.step.new.self w v last rest so
    (subst (λ r. Did r (step c.args.image.now so.is) c.step.new.self) c.in-Ended.is
    (c.step.ensures.did so.is so.is_member (never_stuck c.args.image.now steps c.loop.member w v last rest so)))

pub unreachable-requires : goal.unreachable-requires
unreachable-requires c =
    let begun = c.requires.ends in
    let so = c.loop.invariant.so begun.before begun.last begun.rest begun.after begun.so in
    let steps : Steps c.args.image.now = steps_of c.args.image.now c.formed.ensures c.requires.run in
    subst (λ r. Did r (step c.args.image.now so.is) c.step.new.self) c.in-NotYet.is
    (c.step.ensures.did so.is so.is_member (never_stuck c.args.image.now steps c.loop.member begun.before begun.after begun.last begun.rest so))
