use Rattle.std.proofs.Common.{SFits, rules, sym, ap, ◌∙◌}
use Rattle.std.specs.Int.{w128}
use Rattle.std.proofs.lemmas.Int.{to_z-of_z}
use Rattle.px_ctypes.specs.Conversions.{converted}
use Rattle.px_ctypes.specs.Operators.{unary_value}
use Rattle.px_machine.specs.Machine.{act}
use Rattle.px_member.proofs.Moves.{no_number, number_there, seen, set_to}
use Rattle.px_member.proofs.member.Member.unary.Goals as goal

pub returns-in_default-clause-did : goal.returns-in_default-clause-did
unfolding act
returns-in_default-clause-did c = λ image m h u.
    absurd (u (no_number _ c.args.a m (seen _ _ c.self.view_is m h) (sym c.number.ensures ∙ c.in_default.is) _))

pub returns-clause-did : goal.returns-clause-did
unfolding act
returns-clause-did c = λ image m h u.
    let n = seen _ _ c.self.view_is m h in
    let fits : SFits w128 c.in-Some.x = search rules in
    let fits_converted : SFits w128 c.convert.result = search rules in
    let fits_value : SFits w128 c.unary.result = search rules in
    let e = to_z-of_z w128 c.convert.result fits_converted ∙ c.convert.ensures.value ∙ ap (converted c.args.t) (to_z-of_z w128 c.in-Some.x fits) in
    let is = to_z-of_z w128 c.unary.result fits_value ∙ c.unary.ensures.value ∙ ap (unary_value c.args.op c.args.t) e in
    rw (number_there _ c.args.a m c.in-Some.x n (sym c.number.ensures ∙ c.in-Some.is) _) (set_to c.args.d _ _ is m _ _ (c.put.ensures.did m h))
