-- Each block of the table is the next one for what is left.
use Rattle.px_chunks.proofs.TableLaws.{shared}
use Rattle.px_chunks.proofs.laws.guided_chunks_are_shares.Goals as goal

pub returns : goal.returns
returns c = shared c.args.n c.args.members c.args.size c.args.k c.requires.some_size c.requires.within
