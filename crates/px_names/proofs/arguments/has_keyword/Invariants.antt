use Rattle.std.proofs.Common.{◌≡◌, drop}
use Rattle.std.specs.List.{list_any}
use Rattle.px_walk.specs.Nodes.{rose_of}
use Rattle.px_walk.specs.Roses.{head_of, parts_of}
use Rattle.px_names.specs.Arguments.{is_keyword, has_keyword}
use Rattle.px_names.proofs.arguments.has_keyword.Given as goal

abbrev pub invariant-loop-k : goal.invariant-loop-k
invariant-loop-k l = list_any (λ argument. is_keyword l.spelling (head_of argument)) (drop l.k (parts_of (rose_of l.call))) ≡ has_keyword l.spelling (parts_of (rose_of l.call))
