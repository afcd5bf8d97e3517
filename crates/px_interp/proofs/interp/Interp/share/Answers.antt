use Rattle.std.proofs.Common.{◌++◌, Ok, sym, subst}
use Rattle.px_heap.specs.Heaps.{AreHeld, IsLive}
use Rattle.px_interp.specs.Rows.{IsRow}
use Rattle.px_interp.specs.Slots.{references_of}
use Rattle.px_regcode.specs.declared.instructions.Instr.TheVariants as instr
use Rattle.px_interp.proofs.HeldSlots.{object_held, object_live}
use Rattle.px_interp.proofs.MadeObjects.{represents_still}
use Rattle.px_interp.proofs.ObjectSteps.{row_shared, row_stuck, share_stuck}
use Rattle.px_interp.proofs.interp.Interp.share.Goals as goal

pub share-requires : goal.share-requires
share-requires c =
    let held : AreHeld c.self.inside.heap (references_of c.args.registers.now) = subst (λ i. AreHeld i.heap (references_of c.args.registers.now)) (sym c.self.view_is) c.requires in
    object_live c.self.inside.heap c.args.registers.now c.args.a.number c.in-Some.of (sym c.in-Some.ensures) held.live

pub returns-in-Some-clause-row : goal.returns-in-Some-clause-row
returns-in-Some-clause-row c image =
    subst (λ after. IsRow image (instr.Share c.args.d c.args.a) c.args.self.now c.args.registers.now (record { heap = c.share.new.self; output = c.self.inside.output }) after (Ok tt)) (sym c.set.ensures)
    (row_shared image c.args.d c.args.a c.args.self.now (record { heap = c.share.new.self; output = c.self.inside.output }) c.args.registers.now c.in-Some.of (sym c.in-Some.ensures)
    (represents_still c.self.inside.heap c.share.new.self c.self.inside.output c.args.self.now c.self.view_is (λ store h.
    c.store_laws.ensures.shared c.self.inside.heap c.share.new.self c.in-Some.of.number store h c.share.ensures.objects)))

pub returns-in-Some-clause-held : goal.returns-in-Some-clause-held
returns-in-Some-clause-held c others h =
    let there : AreHeld c.self.inside.heap (references_of c.args.registers.now ++ others) = subst (λ i. AreHeld i.heap (references_of c.args.registers.now ++ others)) (sym c.self.view_is) h in
    let held : AreHeld c.self.inside.heap (references_of c.args.registers.now) = subst (λ i. AreHeld i.heap (references_of c.args.registers.now)) (sym c.self.view_is) c.requires in
    let live : IsLive c.self.inside.heap c.in-Some.of = object_live c.self.inside.heap c.args.registers.now c.args.a.number c.in-Some.of (sym c.in-Some.ensures) held.live in
    subst (λ after. AreHeld c.share.new.self (references_of after ++ others)) (sym c.set.ensures)
    (object_held c.share.new.self c.args.registers.now c.args.d.number c.in-Some.of others
    (c.held_laws.ensures.shared c.self.inside.heap c.share.new.self c.in-Some.of (references_of c.args.registers.now ++ others) live there c.share.ensures.objects c.share.ensures.inner))

pub returns-in_default-clause-row : goal.returns-in_default-clause-row
returns-in_default-clause-row c image =
    row_stuck image (instr.Share c.args.d c.args.a) c.args.self.now c.args.self.now c.args.registers.now c.args.registers.now (Ok tt)
    (share_stuck image c.args.d c.args.a c.args.registers.now (sym c.in_default.ensures))
