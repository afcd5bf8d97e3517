use Rattle.px_member.proofs.CallSteps.{ends_frame}
use Rattle.px_member.proofs.member.Member.finish.Goals as goal

pub returns-clause-did : goal.returns-clause-did
returns-clause-did c = ends_frame c.args.self.now c.back.new.self c.back.result c.back.ensures.did

pub returns-clause-held : goal.returns-clause-held
returns-clause-held c = c.back.ensures.held
