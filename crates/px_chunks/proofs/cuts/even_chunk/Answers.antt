-- A chunk stands among the longer ones, or behind them.
use Rattle.std.proofs.Common.{sym}
use Rattle.px_chunks.proofs.Tables.{even_at}
use Rattle.px_chunks.proofs.cuts.even_chunk.Goals as goal

pub returns : goal.returns
returns c =
    rw (c.min.ensures, c.even_share.ensures) (sym (even_at c.args.n c.args.members c.args.k c.requires.members c.requires.within))
