-- What the laws of views speak of.
use Rattle.std.specs.Prelude.{◌≡◌, ◌<◌, ℕ, List, length, slice_index}

-- an index for each axis of a shape, each in range
pub record IsIndexOf (shape indices : List ℕ) : Type 0 where
  pub one_each : length indices ≡ length shape
  pub within : (a : ℕ) → a < length shape → slice_index indices a < slice_index shape a
