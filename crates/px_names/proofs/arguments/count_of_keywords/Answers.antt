use Rattle.std.proofs.Common.{length, ap, ◌∙◌, arith}
use Rattle.px_walk.specs.Nodes.{rose_of}
use Rattle.px_walk.specs.Roses.{head_of, parts_of}
use Rattle.px_names.specs.Arguments.{keyword_of, count_of_keyword, keywords}
use Rattle.px_names.proofs.PartLoops.{drop_whole, count_more, count_is_small, nothing_behind}
use Rattle.px_names.proofs.arguments.count_of_keywords.Goals as goal

pub loop-k-init : goal.loop-k-init
loop-k-init c = record {
  counted = omega (arith, ap (λ parts. length (keywords parts)) (drop_whole (parts_of (rose_of c.args.call))));
  few = omega arith;
}

pub loop-k-preserved : goal.loop-k-preserved
loop-k-preserved c =
    let parts = parts_of (rose_of c.args.call) in
    let part = rose_of c.part.result in
    let one = c.count_of_keyword-count.ensures ∙ ap (λ h. count_of_keyword (keyword_of h)) c.head.ensures in
    let more = count_more parts c.loop-k.k part c.part.ensures in
    let small = count_is_small (keyword_of (head_of part)) in
    record {
      counted = omega (arith, one, more, c.loop-k.invariant.counted);
      few = omega (arith, one, small, c.loop-k.invariant.few);
    }

pub returns : goal.returns
returns c =
    let parts = parts_of (rose_of c.args.call) in
    omega (arith, c.loop-k.invariant.counted, ap (λ names. length names) (nothing_behind keywords parts c.loop-k.k (omega arith)))
