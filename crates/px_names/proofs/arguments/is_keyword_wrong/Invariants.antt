use Rattle.std.proofs.Common.{◌≡◌, drop}
use Rattle.std.specs.List.{list_any}
use Rattle.px_walk.specs.Nodes.{rose_of}
use Rattle.px_walk.specs.Roses.{head_of, parts_of}
use Rattle.px_names.specs.Arguments.{is_wrong_keyword, is_keyword_wrong}
use Rattle.px_names.proofs.arguments.is_keyword_wrong.Given as goal

abbrev pub invariant-loop-k : goal.invariant-loop-k
invariant-loop-k l = list_any (λ argument. is_wrong_keyword l.callee (head_of argument)) (drop l.k (parts_of (rose_of l.call))) ≡ is_keyword_wrong l.callee (parts_of (rose_of l.call))
