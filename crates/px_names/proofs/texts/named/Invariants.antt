use Rattle.std.proofs.Common.{◌≡◌, length, map}
use Rattle.px_names.specs.Tables.{entry_of}
use Rattle.px_names.proofs.texts.named.Given as goal

abbrev pub invariant-loop-table : goal.invariant-loop-table
invariant-loop-table g l = entry_of (map (λ row. (row.0.now, row.1)) l.table) l.name ≡ entry_of (map (λ row. (row.0.now, row.1)) l.initial.table) l.name

abbrev pub decreases-loop-table : goal.decreases-loop-table
decreases-loop-table g l = length l.table
