-- The places that the chunks hold are as many as their lengths together, which are the iterations.
use Rattle.px_chunks.proofs.TableLaws.{held}
use Rattle.px_chunks.proofs.laws.chunks_hold_each_place_once.Goals as goal

pub returns : goal.returns
returns c = held c.args.n c.args.members c.args.schedule c.args.size c.requires.some_members c.requires.some_size
