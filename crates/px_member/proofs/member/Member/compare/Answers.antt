use Rattle.std.proofs.Common.{SFits, rules, sym, ap, ◌∙◌}
use Rattle.std.specs.Int.{w128}
use Rattle.std.proofs.lemmas.Int.{to_z-of_z}
use Rattle.std.proofs.Common.{◌≡◌, ap₂, to_z}
use Rattle.px_ctypes.specs.Conversions.{converted}
use Rattle.px_ctypes.specs.Operators.{compare_value}
use Rattle.px_meaning.specs.Expressions.{of_truth}
use Rattle.px_machine.specs.Machine.{act}
use Rattle.px_member.proofs.Moves.{no_number, number_there, seen, set_to}
use Rattle.px_member.proofs.member.Member.compare.Goals.{then-holds, else-holds}
use Rattle.px_member.proofs.member.Member.compare.Goals as goal

pub returns-in_default-clause-did : goal.returns-in_default-clause-did
unfolding act
returns-in_default-clause-did c = λ image m h u.
    absurd (u (no_number _ c.args.a m (seen _ _ c.self.view_is m h) (sym c.number.ensures ∙ c.in_default.is) _))

pub returns-in_default-number-clause-did : goal.returns-in_default-number-clause-did
unfolding act
returns-in_default-number-clause-did c = λ image m h u.
    let n = seen _ _ c.self.view_is m h in
    let none = no_number _ c.args.b m n (sym c.number-2.ensures ∙ c.in_default-number.is) _ in
    absurd (u (number_there _ c.args.a m c.in-Some.x n (sym c.number.ensures ∙ c.in-Some.is) _ ∙ none))

pub returns-clause-did : goal.returns-clause-did
unfolding act
returns-clause-did c = λ image m h u.
    let n = seen _ _ c.self.view_is m h in
    let fits : SFits w128 c.in-Some.x = search rules in
    let fits_number : SFits w128 c.in-Some-number.y = search rules in
    let fits_left : SFits w128 c.convert.result = search rules in
    let fits_right : SFits w128 c.convert-2.result = search rules in
    let e = to_z-of_z w128 c.convert.result fits_left ∙ c.convert.ensures.value ∙ ap (converted c.args.t) (to_z-of_z w128 c.in-Some.x fits) in
    let f = to_z-of_z w128 c.convert-2.result fits_right ∙ c.convert-2.ensures.value
    ∙ ap (converted c.args.t) (to_z-of_z w128 c.in-Some-number.y fits_number) in
    let x = number_there _ c.args.a m c.in-Some.x n (sym c.number.ensures ∙ c.in-Some.is) in
    let y = number_there _ c.args.b m c.in-Some-number.y n (sym c.number-2.ensures ∙ c.in-Some-number.is) in
    let did = c.put.ensures.did m h in
    let same : compare_value c.args.op (converted c.args.t c.in-Some.x) (converted c.args.t c.in-Some-number.y)
    ≡ c.compare-holds.result = sym (ap₂ (compare_value c.args.op) e f) ∙ sym c.compare-holds.ensures.value in
    let truth : to_z w128 c.if-holds.put-bits
    ≡ of_truth (compare_value c.args.op (converted c.args.t c.in-Some.x) (converted c.args.t c.in-Some-number.y)) = elim c.if-holds.branch [
      | then-holds w ↦ w.put-is ∙ ap of_truth (sym w.if-holds.true) ∙ ap of_truth (sym same)
      | else-holds w ↦ w.put-is ∙ ap of_truth (sym w.if-holds.false) ∙ ap of_truth (sym same)
    ] in
    rw (x _) (rw (y _) (set_to c.args.d _ _ truth m _ _ did))
