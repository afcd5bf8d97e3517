use Rattle.std.proofs.Common.{SFits, rules, sym, ap, ◌∙◌}
use Rattle.std.specs.Int.{w128}
use Rattle.std.proofs.lemmas.Int.{to_z-of_z}
use Rattle.std.proofs.Common.{◌≡◌, Ok, Err, ap₂, subst}
use Rattle.px_ctypes.specs.Conversions.{converted}
use Rattle.px_ctypes.specs.Operators.{IsOperand, binary_value}
use Rattle.px_machine.specs.Machine.{act, right_operand, sets_or_faults}
use Rattle.px_member.proofs.Moves.{no_number, number_there, seen, set_to}
use Rattle.px_member.proofs.member.Member.binary.Goals as goal

pub returns-in_default-clause-did : goal.returns-in_default-clause-did
unfolding act
returns-in_default-clause-did c = λ image m h u.
    absurd (u (no_number _ c.args.a m (seen _ _ c.self.view_is m h) (sym c.number.ensures ∙ c.in_default.is) _))

pub returns-in_default-number-clause-did : goal.returns-in_default-number-clause-did
unfolding act
returns-in_default-number-clause-did c = λ image m h u.
    let n = seen _ _ c.self.view_is m h in
    let none = no_number _ c.args.b m n (sym c.number-2.ensures ∙ c.in_default-number.is) _ in
    absurd (u (number_there _ c.args.a m c.in-Some.x n (sym c.number.ensures ∙ c.in-Some.is) _ ∙ none))

pub binary-requires-clause-right : goal.binary-requires-clause-right
binary-requires-clause-right c =
    let fits : SFits w128 c.right.result = search rules in
    subst (IsOperand c.args.op c.args.t) (sym (to_z-of_z w128 c.right.result fits)) c.right.ensures.operand

pub returns-in-Ok-clause-did : goal.returns-in-Ok-clause-did
unfolding act
returns-in-Ok-clause-did c = λ image m h u.
    let n = seen _ _ c.self.view_is m h in
    let fits : SFits w128 c.in-Some.x = search rules in
    let fits_number : SFits w128 c.in-Some-number.y = search rules in
    let fits_left : SFits w128 c.convert.result = search rules in
    let fits_right : SFits w128 c.right.result = search rules in
    let fits_value : SFits w128 c.in-Ok.n = search rules in
    let e = to_z-of_z w128 c.convert.result fits_left ∙ c.convert.ensures.value ∙ ap (converted c.args.t) (to_z-of_z w128 c.in-Some.x fits) in
    let f = to_z-of_z w128 c.right.result fits_right ∙ c.right.ensures.value
    ∙ ap (right_operand c.args.op c.args.t) (to_z-of_z w128 c.in-Some-number.y fits_number) in
    let is = sym (ap₂ (λ a b. binary_value c.args.op c.args.t a b c.args.truncates) e f) ∙ sym c.binary.ensures.value ∙ c.in-Ok.is in
    let row : binary_value c.args.op c.args.t (converted c.args.t c.in-Some.x) (right_operand c.args.op c.args.t c.in-Some-number.y) c.args.truncates
    ≡ Ok c.in-Ok.n = is in
    let x = number_there _ c.args.a m c.in-Some.x n (sym c.number.ensures ∙ c.in-Some.is) in
    let y = number_there _ c.args.b m c.in-Some-number.y n (sym c.number-2.ensures ∙ c.in-Some-number.is) in
    rw (x _) (rw (y _) (rw (ap (λ r. sets_or_faults c.args.d r m) row)
    (set_to c.args.d _ _ (to_z-of_z w128 c.in-Ok.n fits_value) m _ _ (c.put.ensures.did m h))))

pub returns-in-Err-clause-did : goal.returns-in-Err-clause-did
unfolding act
returns-in-Err-clause-did c = λ image m h u.
    let n = seen _ _ c.self.view_is m h in
    let fits : SFits w128 c.in-Some.x = search rules in
    let fits_number : SFits w128 c.in-Some-number.y = search rules in
    let fits_left : SFits w128 c.convert.result = search rules in
    let fits_right : SFits w128 c.right.result = search rules in
    let e = to_z-of_z w128 c.convert.result fits_left ∙ c.convert.ensures.value ∙ ap (converted c.args.t) (to_z-of_z w128 c.in-Some.x fits) in
    let f = to_z-of_z w128 c.right.result fits_right ∙ c.right.ensures.value
    ∙ ap (right_operand c.args.op c.args.t) (to_z-of_z w128 c.in-Some-number.y fits_number) in
    let is = sym (ap₂ (λ a b. binary_value c.args.op c.args.t a b c.args.truncates) e f) ∙ sym c.binary.ensures.value ∙ c.in-Err.is in
    let row : binary_value c.args.op c.args.t (converted c.args.t c.in-Some.x) (right_operand c.args.op c.args.t c.in-Some-number.y) c.args.truncates
    ≡ Err c.in-Err.fault = is in
    let x = number_there _ c.args.a m c.in-Some.x n (sym c.number.ensures ∙ c.in-Some.is) in
    let y = number_there _ c.args.b m c.in-Some-number.y n (sym c.number-2.ensures ∙ c.in-Some-number.is) in
    rw (x _) (rw (y _) (rw (ap (λ r. sets_or_faults c.args.d r m) row) (c.fail.ensures.did m h)))
