use Rattle.std.proofs.Common.{◌≡◌, Some, sym, subst}
use Rattle.px_heap.specs.Heaps.{AreHeld, value_of}
use Rattle.px_heap.specs.Stores.{object_value}
use Rattle.px_meaning.specs.Objects.{text_of}
use Rattle.px_interp.specs.Texts.{IsTextOf}
use Rattle.px_interp.specs.Slots.{references_of}
use Rattle.px_interp.proofs.HeldSlots.{object_live}
use Rattle.px_interp.proofs.LineTexts.{line_ends, line_missing, next_text}
use Rattle.px_interp.proofs.interp.Interp.line.Goals as goal

pub returns-in_default : goal.returns-in_default
returns-in_default c = line_missing c.args.self.now.heap c.args.registers.now c.args.arguments.now c.loop-place.place _ c.loop-place-test.true (sym c.in_default.ensures)

pub read-requires : goal.read-requires
read-requires c =
    let held : AreHeld c.self.inside.heap (references_of c.args.registers.now) = subst (λ i. AreHeld i.heap (references_of c.args.registers.now)) (sym c.self.view_is) c.requires in
    object_live c.self.inside.heap c.args.registers.now _ c.in-Some.of (sym c.in-Some.ensures) held.live

pub loop-place-preserved : goal.loop-place-preserved
loop-place-preserved c =
    let there : value_of c.args.self.now.heap c.in-Some.of.number ≡ Some c.read.result.now = subst (λ i. value_of i.heap c.in-Some.of.number ≡ Some c.read.result.now) c.self.view_is c.read.ensures.value in
    next_text c.args.self.now.heap c.args.registers.now c.args.arguments.now c.loop-place.place c.loop-place.line c.write_text.new.line _ c.in-Some.of c.read.result.now c.loop-place-test.true
    (sym c.in-Some.ensures) there c.loop-place.invariant
    (subst (λ before. IsTextOf (text_of (object_value c.read.result.now)) before c.write_text.new.line) c.in_ok-separate.ensures c.in_ok-write_text.ensures)

pub returns : goal.returns
returns c =
    line_ends c.args.self.now.heap c.args.registers.now c.args.arguments.now c.loop-place.place c.loop-place.line c.push.new.self c.loop-place-test.false c.loop-place.invariant c.in_ok-push.ensures.ok
