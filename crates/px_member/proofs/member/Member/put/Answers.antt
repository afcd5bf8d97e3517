use Rattle.std.proofs.Common.{refl}
use Rattle.px_interp.specs.declared.registers.Slot.TheVariants.{Whole}
use Rattle.px_member.proofs.Moves.{behind, goes_on, seen, word_is, written}
use Rattle.px_member.proofs.Kept.{keeps, part_without}
use Rattle.px_member.proofs.member.Member.put.Goals as goal

pub returns-clause-did : goal.returns-clause-did
returns-clause-did c = λ m h.
    let e = word_is _ _ c.args.d.number c.args.n c.ranges.n c.set.ensures in
    goes_on c.args.next _ _ _ c.go_to.ensures.did _
    (written _ c.args.d (Whole c.args.n) _ e m (seen _ _ c.self.view_is m h)) (behind _ _ c.self.view_is _ c.requires)

pub returns-clause-held : goal.returns-clause-held
returns-clause-held c = λ h. c.go_to.ensures.held (keeps _ _ _ c.self.view_is (part_without _ _ c.args.d.number _ c.set.ensures refl) h)
