use Rattle.std.proofs.Common.{refl}
use Rattle.px_machine.specs.Slots as machine
use Rattle.px_machine.specs.Machine.{act, sets}
use Rattle.px_interp.specs.declared.registers.Slot.TheVariants.{Empty}
use Rattle.px_member.proofs.Moves.{behind, goes_on, seen, written}
use Rattle.px_member.proofs.Rows.{forgets}
use Rattle.px_member.proofs.Kept.{keeps, part_without}
use Rattle.px_member.proofs.member.Member.empty.Goals as goal

pub returns-clause-unset : goal.returns-clause-unset
unfolding act
returns-clause-unset c = λ image m h u.
    goes_on c.args.next _ _ _ c.go_to.ensures.did _
    (written _ c.args.d Empty _ c.set.ensures m (seen _ _ c.self.view_is m h)) (behind _ _ c.self.view_is _ c.requires)

pub returns-clause-forget : goal.returns-clause-forget
unfolding act
returns-clause-forget c = λ image m h u.
    rw (forgets (machine.slot_of m c.args.d) (sets c.args.d machine.empty m) u)
    (goes_on c.args.next _ _ _ c.go_to.ensures.did _
    (written _ c.args.d Empty _ c.set.ensures m (seen _ _ c.self.view_is m h)) (behind _ _ c.self.view_is _ c.requires))

pub returns-clause-held : goal.returns-clause-held
returns-clause-held c = λ h. c.go_to.ensures.held (keeps _ _ _ c.self.view_is (part_without _ _ c.args.d.number _ c.set.ensures refl) h)
