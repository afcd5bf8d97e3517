use Rattle.std.proofs.Common.{ap, sym, ◌∙◌}
use Rattle.px_heap.proofs.Releases.{lost_link, no_more, one_more}
use Rattle.px_heap.proofs.freeing.release.Goals as goal

pub returns-in_default-try_remove : goal.returns-in_default-try_remove
returns-in_default-try_remove c =
    let v = c.try_remove.ensures.value in
    c.loop-dead.invariant _ (lost_link c.loop-dead.objects.slots _ c.loop-dead.dead c.in-Some.first c.in-Some.is (sym v ∙ c.in_default-try_remove.is) (ap (λ s. s.slots) c.in_default-try_remove.ensures.absent))

pub loop-dead-preserved : goal.loop-dead-preserved
loop-dead-preserved c = λ left f.
    let v = c.try_remove.ensures.value in
    c.loop-dead.invariant left (one_more c.loop-dead.objects.slots c.try_remove.new.self.slots c.loop-dead.dead c.in-Some.first c.in-Some-try_remove.object _ left c.in-Some.is (sym v ∙ c.in-Some-try_remove.is) c.in-Some-try_remove.ensures.slots c.lower_all-dead.ensures.work f)

pub returns : goal.returns
returns c = c.loop-dead.invariant _ (no_more c.loop-dead.objects.slots c.loop-dead.dead c.in_default.is)
