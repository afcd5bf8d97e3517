use Rattle.std.proofs.Common.{◌≡◌, ℕ, ◌<◌, slice_index_or}
use Rattle.px_exprs.proofs.operators.meaning.Given as goal

abbrev pub invariant-loop-row : goal.invariant-loop-row
invariant-loop-row g l = (k : ℕ) (m : g.row.T.Denot) → k < l.row-index → slice_index_or l.table k (l.sign, m) ≡ (l.sign, m) → ⊥
