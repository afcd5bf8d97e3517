use Rattle.std.proofs.Common.{rules, sym, ap, ◌∙◌}
use Rattle.std.specs.Int.{w128}
use Rattle.std.proofs.lemmas.Int.{to_z_pos}
use Rattle.std.proofs.Common.{pos, arith}
use Rattle.px_machine.specs.Machine.{act}
use Rattle.px_member.proofs.Moves.{set_to}
use Rattle.px_member.proofs.member.Member.team.Goals as goal

pub returns-clause-did : goal.returns-clause-did
unfolding act
returns-clause-did c = λ image m h u.
    let did = c.put-2.ensures.did m h in
    let is = to_z_pos w128 c.put.inside.members (search (rules, arith)) ∙ ap pos (ap (λ x. x.members) c.put.view_is ∙ sym h.rest.members) in
    set_to c.args.d _ _ is m _ _ did
