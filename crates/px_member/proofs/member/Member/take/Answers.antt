use Rattle.std.proofs.Common.{SFits, rules, sym, ap, ◌∙◌}
use Rattle.std.specs.Int.{w128}
use Rattle.std.proofs.lemmas.Int.{to_z-of_z}
use Rattle.std.proofs.Common.{set}
use Rattle.px_machine.specs.Machine.{act, moved}
use Rattle.px_interp.specs.declared.registers.Slot.TheVariants.{Empty}
use Rattle.px_member.proofs.Moves.{behind, goes_on, number_slot, seen, set_to, slot_there, written}
use Rattle.px_member.proofs.Rows.{moved_is}
use Rattle.px_member.proofs.Kept.{keeps, part_move}
use Rattle.px_member.proofs.member.Member.take.Goals as goal

pub returns-in-Some-clause-did : goal.returns-in-Some-clause-did
unfolding act
returns-in-Some-clause-did c = λ image m h u.
    let n = seen _ _ c.self.view_is m h in
    let fits : SFits w128 c.in-Some.n = search rules in
    rw (ap (λ s. moved c.args.d c.args.a s m) (number_slot _ c.args.a m c.in-Some.n n (sym c.number.ensures ∙ c.in-Some.is)))
    (set_to c.args.d _ _ (to_z-of_z w128 c.in-Some.n fits) m _ _ (c.put.ensures.did m h))

pub returns-clause-did : goal.returns-clause-did
unfolding act
returns-clause-did c = λ image m h u.
    let n = seen _ _ c.self.view_is m h in
    let there = ap (λ s. moved c.args.d c.args.a s m) (slot_there _ c.args.a m n) in
    let emptied = written _ c.args.a Empty _ c.take-slot.ensures.emptied m n in
    let is = c.set.ensures ∙ ap (set c.take-slot.new.self c.args.d.number) c.take-slot.ensures.value in
    rw (there ∙ moved_is c.args.d c.args.a _ m (sym c.number.ensures ∙ c.in_default.is) (λ e. u (there ∙ e)))
    (goes_on c.args.next _ _ _ c.go_to.ensures.did _ (written _ c.args.d _ _ is _ emptied) (behind _ _ c.self.view_is _ c.requires))

pub returns-clause-held : goal.returns-clause-held
returns-clause-held c = λ h.
    let t = c.take-slot.ensures in
    c.go_to.ensures.held (keeps _ _ _ c.self.view_is (part_move _ _ _ c.args.a.number c.args.d.number _ t.value t.emptied c.set.ensures) h)
