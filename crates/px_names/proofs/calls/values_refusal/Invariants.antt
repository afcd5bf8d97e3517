use Rattle.std.proofs.Common.{◌≡◌, drop}
use Rattle.px_base.specs.Findings.{first_of}
use Rattle.px_walk.specs.Nodes.{rose_of}
use Rattle.px_walk.specs.Roses.{parts_of}
use Rattle.px_names.specs.Uses.{values_refusal}
use Rattle.px_names.proofs.calls.values_refusal.Given as goal

abbrev pub invariant-loop-k : goal.invariant-loop-k
invariant-loop-k l = first_of l.first (values_refusal (drop l.k (parts_of (rose_of l.call)))) ≡ values_refusal (parts_of (rose_of l.call))
