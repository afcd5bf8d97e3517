-- What a parallel loop says of how its iterations are cut into chunks: how many there are, for a team of how many members,
-- and its `schedule` and `chunksize` (Cython user guide, Using Parallelism).
use Rattle.std.specs.Prelude.{ℕ, Option}
use Rattle.px_base.specs.declared.c_types.Schedule.{Schedule}

pub record Partition : Type 0 where
  pub count : ℕ
  pub members : ℕ
  pub schedule : Schedule
  pub size : Option ℕ

-- that of these four numbers
abbrev pub partition : ℕ → ℕ → Schedule → Option ℕ → Partition
partition count members schedule size = record { count = count; members = members; schedule = schedule; size = size }
