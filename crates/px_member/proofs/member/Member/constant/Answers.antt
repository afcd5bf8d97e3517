use Rattle.std.specs.Int.{w128}
use Rattle.std.proofs.lemmas.Int.{to_z-of_z}
use Rattle.px_machine.specs.Machine.{act}
use Rattle.px_member.proofs.Moves.{set_to}
use Rattle.px_member.proofs.member.Member.constant.Goals as goal

pub returns-clause-did : goal.returns-clause-did
unfolding act
returns-clause-did c = λ image m h u. set_to c.args.d _ _ (to_z-of_z w128 c.args.n c.ranges.n) m _ _ (c.put.ensures.did m h)
