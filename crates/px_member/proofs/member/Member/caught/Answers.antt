use Rattle.std.proofs.Common.{None, refl, sym, ap, ◌∙◌, ◌+◌, subst}
use Rattle.px_machine.specs.Slots as machine
use Rattle.px_machine.specs.Machine.{act, caught_fault, sets}
use Rattle.px_interp.specs.declared.registers.Slot.TheVariants.{Fault}
use Rattle.px_member.specs.Acts.{Did}
use Rattle.px_member.specs.Members.{HoldsAll}
use Rattle.px_member.proofs.Moves.{behind, goes_on, seen, with_caught, written}
use Rattle.px_member.proofs.Kept.{keeps, part_without}
use Rattle.px_member.proofs.member.Member.caught.Goals as goal

pub returns-clause-did : goal.returns-clause-did
unfolding act
returns-clause-did c = λ image m h u.
    let rest = c.last_fault-fault.ensures.rest in
    let n = seen _ _ c.self.view_is _ (with_caught _ _ rest m h) in
    let is = c.last_fault-fault.ensures.fault ∙ ap (λ f. caught_fault f.caught) (sym h.frame) in
    let pc = behind _ _ c.self.view_is c.args.next (c.requires ∙ ap (λ x. x.frame.pc + 1) (sym rest)) in
    subst (λ f. Did c.go_to.result (sets c.args.d (machine.fault f) (machine.in_frame (record m.frame { caught = None }) m)) c.go_to.new.self) is
    (goes_on c.args.next _ _ _ c.go_to.ensures.did _ (written _ c.args.d (Fault c.last_fault-fault.result) _ c.set.ensures _ n) pc)

pub returns-clause-held : goal.returns-clause-held
returns-clause-held c = λ h.
    let held = subst HoldsAll (sym c.last_fault-fault.ensures.rest) h in
    c.go_to.ensures.held (keeps _ _ _ c.self.view_is (part_without _ _ c.args.d.number _ c.set.ensures refl) held)
