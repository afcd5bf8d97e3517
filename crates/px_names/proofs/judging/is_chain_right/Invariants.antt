use Rattle.std.proofs.Common.{◌≡◌, drop}
use Rattle.px_walk.specs.Nodes.{rose_of}
use Rattle.px_walk.specs.Roses.{parts_of}
use Rattle.px_names.specs.Rules.{are_identities_right, is_chain_right}
use Rattle.px_names.proofs.judging.is_chain_right.Given as goal

abbrev pub invariant-loop-k : goal.invariant-loop-k
invariant-loop-k l = are_identities_right l.left (drop l.k (parts_of (rose_of l.chain))) ≡ is_chain_right (parts_of (rose_of l.chain))
