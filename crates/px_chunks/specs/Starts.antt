-- The first places of chunks that stand one after another.
use Rattle.std.specs.Prelude.{ℕ, ◌+◌, List, [], ◌∷◌}

-- those of chunks of these lengths, the first of which begins at `at`
abbrev pub starts_from : ℕ → List ℕ → List ℕ
starts_from at [] = []
starts_from at (count ∷ table) = at ∷ starts_from (at + count) table
