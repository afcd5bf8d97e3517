use Rattle.std.proofs.Common.{◌++◌, Ok, sym, subst}
use Rattle.px_heap.specs.Heaps.{AreHeld}
use Rattle.px_interp.specs.Rows.{IsRow}
use Rattle.px_interp.specs.Slots.{references_of}
use Rattle.px_regcode.specs.declared.instructions.Instr.TheVariants as instr
use Rattle.px_interp.proofs.HeldSlots.{emptied_held, reference_held}
use Rattle.px_interp.proofs.MadeObjects.{represents_still}
use Rattle.px_interp.proofs.ObjectSteps.{row_dropped, row_empty}
use Rattle.px_interp.proofs.interp.Interp.let_go.Goals as goal

pub drop_one-requires : goal.drop_one-requires
drop_one-requires c =
    let held : AreHeld c.self.inside.heap (references_of c.args.registers.now) = subst (λ i. AreHeld i.heap (references_of c.args.registers.now)) (sym c.self.view_is) c.requires in
    reference_held c.self.inside.heap c.args.registers.now c.args.a.number c.in-Some.of (sym c.in-Some.ensures) held

pub returns-in-Some-clause-row : goal.returns-in-Some-clause-row
returns-in-Some-clause-row c image =
    subst (λ after. IsRow image (instr.Drop c.args.a) c.args.self.now c.args.registers.now (record { heap = c.drop_one.new.self; output = c.self.inside.output }) after (Ok tt)) (sym c.set.ensures)
    (row_dropped image c.args.a c.args.self.now (record { heap = c.drop_one.new.self; output = c.self.inside.output }) c.args.registers.now c.in-Some.of (sym c.in-Some.ensures)
    (represents_still c.self.inside.heap c.drop_one.new.self c.self.inside.output c.args.self.now c.self.view_is (λ store h.
    c.store_laws.ensures.dropped c.self.inside.heap c.drop_one.new.self c.in-Some.of.number store h c.drop_one.ensures)))

pub returns-in-Some-clause-held : goal.returns-in-Some-clause-held
returns-in-Some-clause-held c others h =
    let there : AreHeld c.self.inside.heap (references_of c.args.registers.now ++ others) = subst (λ i. AreHeld i.heap (references_of c.args.registers.now ++ others)) (sym c.self.view_is) h in
    subst (λ after. AreHeld c.drop_one.new.self (references_of after ++ others)) (sym c.set.ensures)
    (c.held_laws.ensures.dropped c.self.inside.heap c.drop_one.new.self c.in-Some.of _
    (emptied_held c.self.inside.heap c.args.registers.now c.args.a.number c.in-Some.of others (sym c.in-Some.ensures) there) c.drop_one.ensures)

pub returns-in_default-clause-row : goal.returns-in_default-clause-row
returns-in_default-clause-row c image = row_empty image c.args.a c.args.self.now c.args.registers.now (sym c.in_default.ensures)
