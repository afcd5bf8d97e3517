use Rattle.std.proofs.Common.{Err, ap, ◌∙◌}
use Rattle.px_member.proofs.BookSteps.{behind_done, behind_fault}
use Rattle.px_member.proofs.member.Member.behind.Goals as goal

pub returns-in-Ok-clause-did : goal.returns-in-Ok-clause-did
returns-in-Ok-clause-did c =
    let is = c.in-Ok.is in
    rw is (behind_done c.args.self.now c.go_to.new.self c.go_to.result c.args.next c.in-Ok.field-0 c.requires c.go_to.ensures.did)

pub returns-in-Err-Raised-clause-did : goal.returns-in-Err-Raised-clause-did
returns-in-Err-Raised-clause-did c =
    let is = c.in-Err-Raised.is ∙ ap Err c.in-Err-Raised.field-0-is in
    rw is (behind_fault c.args.self.now c.fail.new.self c.fail.result c.in-Err-Raised.fault c.fail.ensures.did)
