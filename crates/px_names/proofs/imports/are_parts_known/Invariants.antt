use Rattle.std.proofs.Common.{◌≡◌, drop}
use Rattle.std.specs.Prelude.{is_some}
use Rattle.std.specs.List.{list_all}
use Rattle.px_walk.specs.Nodes.{rose_of}
use Rattle.px_walk.specs.Roses.{head_of, parts_of}
use Rattle.px_names.specs.Imports.{given_part, are_parts_known}
use Rattle.px_names.proofs.imports.are_parts_known.Given as goal

abbrev pub invariant-loop-k : goal.invariant-loop-k
invariant-loop-k l = list_all (λ part. is_some (given_part l.names (head_of part))) (drop l.k (parts_of (rose_of l.node))) ≡ are_parts_known l.names (parts_of (rose_of l.node))
