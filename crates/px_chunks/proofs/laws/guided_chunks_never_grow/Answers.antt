-- A share of less isn't greater.
use Rattle.px_chunks.proofs.TableLaws.{never_grown}
use Rattle.px_chunks.proofs.laws.guided_chunks_never_grow.Goals as goal

pub returns : goal.returns
returns c = never_grown c.args.n c.args.members c.args.size c.args.k c.requires.some_members c.requires.some_size c.requires.within
