-- A number of a chunk that is below the number of members is its own remainder.
use Rattle.std.proofs.Common.{ap, ◌∙◌, Some}
use Rattle.px_chunks.proofs.Cases.{static_owner}
use Rattle.px_chunks.proofs.chunk_list.ChunkList.owner.Goals as goal

pub returns-in-Static-clause-owner : goal.returns-in-Static-clause-owner
returns-in-Static-clause-owner c within =
    ap Some c.member_of.ensures ∙ static_owner _ _ _ _ _ c.self.view_is c.args.k c.self.invariant.some_members c.in-Static.is within
