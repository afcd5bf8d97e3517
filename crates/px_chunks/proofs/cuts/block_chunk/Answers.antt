-- The chunk begins within the loop.
use Rattle.std.proofs.Common.{sym, ◌∙◌, ap, ◌*◌}
use Rattle.px_chunks.proofs.Tables.{block_at}
use Rattle.px_chunks.proofs.cuts.block_chunk.Goals as goal

pub returns : goal.returns
returns c =
    ap (λ m. (c.args.k * c.args.size, m)) c.min.ensures
    ∙ sym (block_at c.args.n c.args.size c.args.k c.requires.size c.requires.within)
