use Rattle.px_member.proofs.Moves.{jumps, seen}
use Rattle.px_member.proofs.member.Member.go_to.Goals as goal

pub returns-clause-did : goal.returns-clause-did
returns-clause-did c = λ image m h u. jumps image c.args.pc _ m (seen _ _ c.self.view_is m h)
