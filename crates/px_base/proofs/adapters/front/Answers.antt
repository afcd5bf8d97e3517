use Rattle.std.proofs.KnownBytes.{Keeps-trans}
use Rattle.px_base.specs.Outside.{handed_limit}
use Rattle.px_base.proofs.AdapterLemmas.{is_front}
use Rattle.px_base.proofs.adapters.front.Goals as goal

pub returns-then-not-branch-clause-front : goal.returns-then-not-branch-clause-front
returns-then-not-branch-clause-front g c =
    let more = c.in_ok-has_more.ensures in
    is_front handed_limit _ _ c.has_more.new.bytes more.short (Keeps-trans _ _ _ c.pieces.invariant.1 more.moved) (more.ended c.if-not-branch.true)
