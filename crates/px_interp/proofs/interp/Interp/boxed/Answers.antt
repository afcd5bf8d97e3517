use Rattle.std.proofs.Common.{rules, FitsSigned, ◌++◌, Ok, Err, ap, sym, subst, ◌∙◌}
use Rattle.std.specs.Int.{w128}
use Rattle.std.proofs.lemmas.Int.{to_z-of_z}
use Rattle.std.proofs.lemmas.Result.{err_from_is_err_and}
use Rattle.px_meaning.specs.Objects.{boxed}
use Rattle.px_heap.specs.Heaps.{AreHeld}
use Rattle.px_heap.specs.Stores.{object_value}
use Rattle.px_interp.specs.Rows.{IsRow}
use Rattle.px_interp.specs.Slots.{references_of}
use Rattle.px_regcode.specs.declared.instructions.Instr.TheVariants as instr
use Rattle.px_interp.proofs.HeldSlots.{object_held}
use Rattle.px_interp.proofs.ObjectSteps.{box_makes, box_stuck, made_as, row_made, row_refused, row_stuck}
use Rattle.px_interp.proofs.interp.Interp.boxed.Goals as goal

pub returns-in_default-clause-row : goal.returns-in_default-clause-row
returns-in_default-clause-row c image =
    row_stuck image (instr.Box c.args.t c.args.d c.args.a) c.args.self.now c.args.self.now c.args.registers.now c.args.registers.now (Ok tt)
    (box_stuck image c.args.t c.args.d c.args.a c.args.registers.now (sym c.in_default.ensures))

pub returns-in_err-of-clause-row : goal.returns-in_err-of-clause-row
returns-in_err-of-clause-row c image =
    let converts : FitsSigned w128 c.convert.result = search rules in
    let number : FitsSigned w128 c.in-Some.n = search rules in
    let value = rw (to_z-of_z w128 c.convert.result converts) at c.boxed.ensures.value in
    let same = rw (to_z-of_z w128 c.in-Some.n number) at c.convert.ensures.value in
    let p = err_from_is_err_and c.from_residual.result c.from_residual.ensures.1 in
    rw (p.1, p.2) (row_refused image (instr.Box c.args.t c.args.d c.args.a) c.args.self.now c.make.new.self c.args.registers.now c.args.d _ c.in_err-of.field-0.0
    (box_makes image c.args.t c.args.d c.args.a c.args.registers.now c.in-Some.n (sym c.in-Some.ensures))
    (made_as c.args.self.now c.make.new.self (object_value c.boxed.result) _ (Err c.in_err-of.field-0.0) (value ∙ ap (boxed c.args.t) same) c.in_err-of.ensures.made))

pub returns-clause-row : goal.returns-clause-row
returns-clause-row c image =
    let converts : FitsSigned w128 c.convert.result = search rules in
    let number : FitsSigned w128 c.in-Some.n = search rules in
    let value = rw (to_z-of_z w128 c.convert.result converts) at c.boxed.ensures.value in
    let same = rw (to_z-of_z w128 c.in-Some.n number) at c.convert.ensures.value in
    subst (λ after. IsRow image (instr.Box c.args.t c.args.d c.args.a) c.args.self.now c.args.registers.now c.make.new.self after (Ok tt)) (sym c.set.ensures)
    (row_made image (instr.Box c.args.t c.args.d c.args.a) c.args.self.now c.make.new.self c.args.registers.now c.args.d _ c.in_ok-of.of
    (box_makes image c.args.t c.args.d c.args.a c.args.registers.now c.in-Some.n (sym c.in-Some.ensures))
    (made_as c.args.self.now c.make.new.self (object_value c.boxed.result) _ (Ok c.in_ok-of.of) (value ∙ ap (boxed c.args.t) same) c.in_ok-of.ensures.made))

pub returns-clause-held : goal.returns-clause-held
returns-clause-held c others h =
    subst (λ after. AreHeld c.make.new.self.heap (references_of after ++ others)) (sym c.set.ensures)
    (object_held c.make.new.self.heap c.args.registers.now c.args.d.number c.in_ok-of.of others (c.in_ok-of.ensures.held (references_of c.args.registers.now ++ others) h))
