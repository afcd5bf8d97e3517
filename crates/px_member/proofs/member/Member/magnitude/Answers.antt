use Rattle.std.proofs.Common.{SFits, rules, sym, ap, ◌∙◌}
use Rattle.std.specs.Int.{w128}
use Rattle.std.proofs.lemmas.Int.{to_z-of_z}
use Rattle.std.proofs.Common.{◌≡◌, pos, to_z, of_z, subst, unsigned_abs}
use Rattle.px_ctypes.specs.Types.{IsInRange}
use Rattle.px_ctypes.specs.Wrapping.{wrap}
use Rattle.px_ctypes.specs.Conversions.{converted}
use Rattle.px_machine.specs.Machine.{act}
use Rattle.px_member.proofs.Words.{negated, not_negated}
use Rattle.px_member.proofs.Moves.{no_number, number_there, seen, set_to}
use Rattle.px_member.proofs.member.Member.magnitude.Goals.{then-n-lt0, else-n-lt0}
use Rattle.px_member.proofs.member.Member.magnitude.Goals as goal

pub returns-in_default-clause-did : goal.returns-in_default-clause-did
unfolding act
returns-in_default-clause-did c = λ image m h u.
    absurd (u (no_number _ c.args.a m (seen _ _ c.self.view_is m h) (sym c.number.ensures ∙ c.in_default.is) _))

pub returns-clause-did : goal.returns-clause-did
unfolding act
returns-clause-did c = λ image m h u.
    let n = seen _ _ c.self.view_is m h in
    let fits : SFits w128 c.in-Some.x = search rules in
    let fits_converted : SFits w128 c.convert-n.result = search rules in
    let e = to_z-of_z w128 c.convert-n.result fits_converted ∙ c.convert-n.ensures.value
    ∙ ap (converted c.args.t) (to_z-of_z w128 c.in-Some.x fits) in
    let r = subst (IsInRange c.args.t) (sym (to_z-of_z w128 c.convert-n.result fits_converted)) c.convert-n.ensures.in_range in
    let absolute : to_z w128 c.if-n-lt0.wrap-bits ≡ pos (unsigned_abs (to_z w128 (of_z w128 c.convert-n.result))) = elim c.if-n-lt0.branch [
      | then-n-lt0 w ↦ w.wrap-is ∙ negated c.args.t _ r w.if-n-lt0.true
      | else-n-lt0 w ↦ w.wrap-is ∙ not_negated _ w.if-n-lt0.false
    ] in
    let fits_wrapped : SFits w128 c.wrap.result = search rules in
    let is = to_z-of_z w128 c.wrap.result fits_wrapped ∙ c.wrap.ensures.value ∙ ap (wrap c.args.t) (absolute ∙ ap (λ n. pos (unsigned_abs n)) e) in
    rw (number_there _ c.args.a m c.in-Some.x n (sym c.number.ensures ∙ c.in-Some.is) _) (set_to c.args.d _ _ is m _ _ (c.put.ensures.did m h))
