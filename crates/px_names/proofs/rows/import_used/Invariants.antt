use Rattle.std.proofs.Common.{◌≡◌, drop}
use Rattle.px_walk.specs.Nodes.{rose_of}
use Rattle.px_walk.specs.Roses.{parts_of}
use Rattle.px_names.specs.Uses.{import_used}
use Rattle.px_names.proofs.rows.import_used.Given as goal

abbrev pub invariant-loop-k : goal.invariant-loop-k
invariant-loop-k l = import_used l.imported (drop l.k (parts_of (rose_of l.row))) ≡ import_used l.initial.imported (drop 1 (parts_of (rose_of l.row)))
