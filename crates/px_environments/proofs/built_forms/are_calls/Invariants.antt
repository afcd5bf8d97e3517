use Rattle.std.proofs.Common.{◌≡◌, drop}
use Rattle.px_walk.specs.Nodes.{rose_of}
use Rattle.px_walk.specs.Roses.{parts_of}
use Rattle.px_environments.specs.BuiltForms.{are_calls}
use Rattle.px_environments.proofs.built_forms.are_calls.Given as goal

abbrev pub invariant-loop-k : goal.invariant-loop-k
invariant-loop-k l = are_calls (drop l.k (parts_of (rose_of l.row))) ≡ are_calls (drop 1 (parts_of (rose_of l.row)))
