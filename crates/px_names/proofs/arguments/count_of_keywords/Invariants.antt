use Rattle.std.proofs.Common.{◌≡◌, ◌+◌, ◌≤◌, length, drop}
use Rattle.px_walk.specs.Nodes.{rose_of}
use Rattle.px_walk.specs.Roses.{parts_of}
use Rattle.px_names.specs.Arguments.{keywords}
use Rattle.px_names.proofs.arguments.count_of_keywords.Given as goal

abbrev pub invariant-loop-k : goal.invariant-loop-k
invariant-loop-k l = record {
  counted : l.count + length (keywords (drop l.k (parts_of (rose_of l.call)))) ≡ length (keywords (parts_of (rose_of l.call)));
  few : l.count ≤ l.k;
}
