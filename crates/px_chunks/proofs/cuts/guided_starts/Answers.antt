-- A block is taken from what is left.
use Rattle.std.proofs.Common.{arith}
use Rattle.px_chunks.proofs.Cases.{one_start, no_start}
use Rattle.px_chunks.proofs.cuts.guided_starts.Goals as goal

pub loop-at-preserved : goal.loop-at-preserved
loop-at-preserved c = record {
  within = omega (arith, c.guided_count-at.ensures);
  blocks = one_start c.args.members c.args.least c.args.n c.loop-at.at c.guided_count-at.result c.loop-at.starts.items _ c.requires.least
      c.loop-at-test.true c.guided_count-at.ensures c.in_ok-push.ensures.items c.loop-at.invariant.blocks;
}

pub returns : goal.returns
returns c = no_start c.args.members c.args.least c.args.n c.loop-at.at c.loop-at.starts.items c.loop-at-test.false c.loop-at.invariant.blocks
