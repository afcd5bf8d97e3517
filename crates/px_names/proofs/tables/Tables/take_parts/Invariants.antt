use Rattle.std.proofs.Common.{◌≡◌, drop}
use Rattle.std.specs.Prelude.{filter_map}
use Rattle.px_walk.specs.Nodes.{rose_of}
use Rattle.px_walk.specs.Roses.{head_of, parts_of}
use Rattle.px_names.specs.Imports.{given_part}
use Rattle.px_names.specs.Kept.{names_kept}
use Rattle.px_names.specs.Steps.{with_imports}
use Rattle.px_names.proofs.tables.Tables.take_parts.Given as goal

abbrev pub invariant-loop-k : goal.invariant-loop-k
invariant-loop-k l = with_imports (names_kept l.self) (filter_map (λ part. given_part l.names (head_of part)) (drop l.k (parts_of (rose_of l.node)))) ≡ with_imports (names_kept l.initial.self) (filter_map (λ part. given_part l.names (head_of part)) (parts_of (rose_of l.node)))
