use Rattle.std.proofs.Common.{SFits, rules, sym, ◌∙◌}
use Rattle.std.specs.Int.{w128}
use Rattle.std.proofs.Common.{◌≡◌, subst}
use Rattle.std.specs.Prelude.{if◌then◌else◌}
use Rattle.px_ctypes.specs.Operators.{is_zero}
use Rattle.px_machine.specs.Slots.{going_to}
use Rattle.px_machine.specs.Steps.{went}
use Rattle.px_machine.specs.Machine.{act}
use Rattle.px_member.specs.Acts.{Did}
use Rattle.px_member.proofs.Words.{where_other, where_zero}
use Rattle.px_member.proofs.Moves.{goes_to, no_number, number_there, seen}
use Rattle.px_member.proofs.member.Member.branch.Goals.{then-n-eq0, else-n-eq0}
use Rattle.px_member.proofs.member.Member.branch.Goals as goal

pub returns-in_default-clause-did : goal.returns-in_default-clause-did
unfolding act
returns-in_default-clause-did c = λ image m h u.
    absurd (u (no_number _ c.args.a m (seen _ _ c.self.view_is m h) (sym c.number.ensures ∙ c.in_default.is) _))

pub returns-clause-did : goal.returns-clause-did
unfolding act
returns-clause-did c = λ image m h u.
    let n = seen _ _ c.self.view_is m h in
    let x = number_there _ c.args.a m c.in-Some.n n (sym c.number.ensures ∙ c.in-Some.is) in
    let did = goes_to _ _ _ _ c.go_to.ensures.did m h in
    let fits : SFits w128 c.in-Some.n = search rules in
    let to : c.if-n-eq0.to ≡ (if is_zero c.in-Some.n then c.args.j else c.args.k) = elim c.if-n-eq0.branch [
      | then-n-eq0 w ↦ w.to-is ∙ sym (where_zero c.in-Some.n fits w.if-n-eq0.true c.args.j c.args.k)
      | else-n-eq0 w ↦ w.to-is ∙ sym (where_other c.in-Some.n w.if-n-eq0.false c.args.j c.args.k)
    ] in
    rw (x _) (subst (λ pc. Did c.go_to.result (went (going_to pc m)) c.go_to.new.self) to did)
