use Rattle.std.proofs.Common.{◌≡◌, ◌++◌, Ok, Err, Some, ap, sym, subst, ◌∙◌}
use Rattle.std.specs.Prelude.{slice_get}
use Rattle.std.proofs.lemmas.Result.{err_from_is_err_and}
use Rattle.px_heap.specs.Heaps.{AreHeld}
use Rattle.px_heap.specs.Stores.{object_value}
use Rattle.px_interp.specs.Rows.{IsRow}
use Rattle.px_interp.specs.Slots.{references_of}
use Rattle.px_regcode.specs.declared.instructions.Instr.TheVariants as instr
use Rattle.px_interp.proofs.HeldSlots.{object_held}
use Rattle.px_interp.proofs.ObjectSteps.{made_as, row_made, row_refused, row_stuck, text_makes, text_stuck, wide_makes, wide_stuck}
use Rattle.px_interp.proofs.interp.Interp.constant.Goals as goal

pub returns-in_default-clause-text : goal.returns-in_default-clause-text
returns-in_default-clause-text c image same =
    row_stuck image (instr.Text c.args.d c.args.n) c.args.self.now c.args.self.now c.args.registers.now c.args.registers.now (Ok tt)
    (text_stuck image c.args.d c.args.n c.args.registers.now (ap (λ constants. slice_get constants c.args.n) same ∙ sym c.in_default.ensures))

pub returns-in_err-of-clause-text : goal.returns-in_err-of-clause-text
returns-in_err-of-clause-text c image same =
    let there : slice_get image.constants c.args.n ≡ Some c.in-Some.constant.now = ap (λ constants. slice_get constants c.args.n) same ∙ sym c.in-Some.ensures in
    let p = err_from_is_err_and c.from_residual-in_err-of.result c.from_residual-in_err-of.ensures.1 in
    rw (p.1, p.2) (row_refused image (instr.Text c.args.d c.args.n) c.args.self.now c.make.new.self c.args.registers.now c.args.d _ c.in_err-of.field-0.0
    (text_makes image c.args.d c.args.n c.args.registers.now c.in-Some.constant.now there)
    (made_as c.args.self.now c.make.new.self (object_value c.in_ok-value.value) _ (Err c.in_err-of.field-0.0) c.in_ok-value.ensures.value c.in_err-of.ensures.made))

pub returns-clause-text : goal.returns-clause-text
returns-clause-text c image same =
    let there : slice_get image.constants c.args.n ≡ Some c.in-Some.constant.now = ap (λ constants. slice_get constants c.args.n) same ∙ sym c.in-Some.ensures in
    subst (λ after. IsRow image (instr.Text c.args.d c.args.n) c.args.self.now c.args.registers.now c.make.new.self after (Ok tt)) (sym c.set.ensures)
    (row_made image (instr.Text c.args.d c.args.n) c.args.self.now c.make.new.self c.args.registers.now c.args.d _ c.in_ok-of.of
    (text_makes image c.args.d c.args.n c.args.registers.now c.in-Some.constant.now there)
    (made_as c.args.self.now c.make.new.self (object_value c.in_ok-value.value) _ (Ok c.in_ok-of.of) c.in_ok-value.ensures.value c.in_ok-of.ensures.made))

pub returns-in_default-clause-wide : goal.returns-in_default-clause-wide
returns-in_default-clause-wide c image same =
    row_stuck image (instr.Wide c.args.d c.args.n) c.args.self.now c.args.self.now c.args.registers.now c.args.registers.now (Ok tt)
    (wide_stuck image c.args.d c.args.n c.args.registers.now (ap (λ constants. slice_get constants c.args.n) same ∙ sym c.in_default.ensures))

pub returns-in_err-of-clause-wide : goal.returns-in_err-of-clause-wide
returns-in_err-of-clause-wide c image same =
    let there : slice_get image.constants c.args.n ≡ Some c.in-Some.constant.now = ap (λ constants. slice_get constants c.args.n) same ∙ sym c.in-Some.ensures in
    let p = err_from_is_err_and c.from_residual-in_err-of.result c.from_residual-in_err-of.ensures.1 in
    rw (p.1, p.2) (row_refused image (instr.Wide c.args.d c.args.n) c.args.self.now c.make.new.self c.args.registers.now c.args.d _ c.in_err-of.field-0.0
    (wide_makes image c.args.d c.args.n c.args.registers.now c.in-Some.constant.now there)
    (made_as c.args.self.now c.make.new.self (object_value c.in_ok-value.value) _ (Err c.in_err-of.field-0.0) c.in_ok-value.ensures.value c.in_err-of.ensures.made))

pub returns-clause-wide : goal.returns-clause-wide
returns-clause-wide c image same =
    let there : slice_get image.constants c.args.n ≡ Some c.in-Some.constant.now = ap (λ constants. slice_get constants c.args.n) same ∙ sym c.in-Some.ensures in
    subst (λ after. IsRow image (instr.Wide c.args.d c.args.n) c.args.self.now c.args.registers.now c.make.new.self after (Ok tt)) (sym c.set.ensures)
    (row_made image (instr.Wide c.args.d c.args.n) c.args.self.now c.make.new.self c.args.registers.now c.args.d _ c.in_ok-of.of
    (wide_makes image c.args.d c.args.n c.args.registers.now c.in-Some.constant.now there)
    (made_as c.args.self.now c.make.new.self (object_value c.in_ok-value.value) _ (Ok c.in_ok-of.of) c.in_ok-value.ensures.value c.in_ok-of.ensures.made))

pub returns-clause-held : goal.returns-clause-held
returns-clause-held c others h =
    subst (λ after. AreHeld c.make.new.self.heap (references_of after ++ others)) (sym c.set.ensures)
    (object_held c.make.new.self.heap c.args.registers.now c.args.d.number c.in_ok-of.of others (c.in_ok-of.ensures.held (references_of c.args.registers.now ++ others) h))
