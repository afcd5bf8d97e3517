-- A chunk's number, or its remainder by the number of members, is below that number.
use Rattle.px_chunks.proofs.TableLaws.{owned}
use Rattle.px_chunks.proofs.laws.static_chunks_have_one_owner.Goals as goal

pub returns : goal.returns
returns c = owned c.args.n c.args.members c.args.size c.args.k c.requires.some_members c.requires.within
