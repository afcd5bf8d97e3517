use Rattle.std.proofs.Common.{◌≡◌, drop}
use Rattle.px_walk.specs.Nodes.{rose_of}
use Rattle.px_walk.specs.Roses.{parts_of}
use Rattle.px_names.specs.Arguments.{keywords, has_twice}
use Rattle.px_names.specs.Kept.{is_seen}
use Rattle.px_names.proofs.Twice.{has_second}
use Rattle.px_names.proofs.arguments.has_twice.Given as goal

abbrev pub invariant-loop-k : goal.invariant-loop-k
invariant-loop-k l = has_second (is_seen l.seen) (keywords (drop l.k (parts_of (rose_of l.call)))) ≡ has_twice (keywords (parts_of (rose_of l.call)))
