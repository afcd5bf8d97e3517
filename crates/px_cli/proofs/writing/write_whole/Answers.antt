use Rattle.std.proofs.Common.{◌∙◌, ap, subst, ℕ, Err, []}
use Rattle.px_base.specs.Outside.{Rose}
use Rattle.px_cli.proofs.WritingLemmas.{appends_more, calm_without_memory, grows_more, has_more, within_more}
use Rattle.px_cli.proofs.writing.write_whole.Goals as goal

pub loop-at-preserved : goal.loop-at-preserved
loop-at-preserved g c = record {
  within = within_more _ _ _ c.loop-at.invariant.within c.in-Ok.ensures.bound;
  taken = appends_more _ _ _ _ _ _ c.loop-at.invariant.taken c.in-Ok.ensures.bytes;
  calm = c.in-Ok.ensures.calm (λ none. absurd (c.if-count-eq0.false none)) ∙ c.loop-at.invariant.calm;
}

pub returns-in-Err-Failed : goal.returns-in-Err-Failed
returns-in-Err-Failed g c =
    let rose = c.in-Err-Failed.ensures.cause (ap Err c.in-Err-Failed.field-0-is) in (
      has_more _ _ c.loop-at-test.true,
      grows_more _ _ _ _ _ c.loop-at.invariant.within c.loop-at.invariant.taken c.in-Err-Failed.ensures.bytes,
      subst (λ (faults : ℕ). Rose faults (g.K.Sink.faults c.write.new.self)) c.loop-at.invariant.calm rose,
    )

pub returns-in-Err-NoMemory : goal.returns-in-Err-NoMemory
returns-in-Err-NoMemory g c = (
  has_more _ _ c.loop-at-test.true,
  grows_more _ _ _ _ _ c.loop-at.invariant.within c.loop-at.invariant.taken c.in-Err-NoMemory.ensures.bytes,
  calm_without_memory _ _ [] _ c.in-Err-NoMemory.field-0-is c.in-Err-NoMemory.ensures.calm ∙ c.loop-at.invariant.calm,
)
