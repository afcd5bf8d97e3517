use Rattle.std.proofs.Common.{Some, None}
use Rattle.px_machine.specs.Machine.{act}
use Rattle.px_member.proofs.Moves.{behind, goes_on, seen, with_handler}
use Rattle.px_member.proofs.member.Member.handle.Goals as goal

pub returns-clause-handle : goal.returns-clause-handle
unfolding act
returns-clause-handle c = λ image to is m h u.
    goes_on c.args.next _ _ _ c.go_to.ensures.did _
    (with_handler _ _ (Some to) is m (seen _ _ c.self.view_is m h)) (behind _ _ c.self.view_is _ c.requires)

pub returns-clause-unhandle : goal.returns-clause-unhandle
unfolding act
returns-clause-unhandle c = λ image is m h u.
    goes_on c.args.next _ _ _ c.go_to.ensures.did _
    (with_handler _ _ None is m (seen _ _ c.self.view_is m h)) (behind _ _ c.self.view_is _ c.requires)
