use Rattle.std.proofs.Common.{◌≡◌, ℕ, ◌<◌, length, slice_index}
use Rattle.px_names.proofs.texts.is_spelled.Given as goal

abbrev pub invariant-loop-c : goal.invariant-loop-c
invariant-loop-c l = (k : ℕ) → k < length l.yielded → slice_index l.name k ≡ slice_index l.spelling k
