use Rattle.std.proofs.Common.{sym, ap, ◌∙◌}
use Rattle.px_machine.specs.Machine.{act, needs}
use Rattle.px_member.proofs.Moves.{goes_on, seen, slot_there}
use Rattle.px_member.proofs.Rows.{needs_empty, needs_full}
use Rattle.px_member.proofs.member.Member.need.Goals as goal

pub returns-then-is_empty-clause-did : goal.returns-then-is_empty-clause-did
unfolding act
returns-then-is_empty-clause-did c = λ image m h u.
    let n = seen _ _ c.self.view_is m h in
    rw (ap (λ s. needs s m) (slot_there _ c.args.a m n) ∙ needs_empty _ (sym c.is_empty.ensures ∙ c.if-is_empty.true) m) (c.fail.ensures.did m h)

pub returns-clause-did : goal.returns-clause-did
unfolding act
returns-clause-did c = λ image m h u.
    let n = seen _ _ c.self.view_is m h in
    rw (ap (λ s. needs s m) (slot_there _ c.args.a m n) ∙ needs_full _ (sym c.is_empty.ensures ∙ c.if-is_empty.false) m)
    (goes_on c.args.next _ _ _ c.go_to.ensures.did m h c.requires)
