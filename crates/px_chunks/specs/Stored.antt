-- What a list of chunks keeps.
use Rattle.std.specs.Prelude.{◌≡◌, ◌≤◌, ℕ, List}
use Rattle.std.specs.Option.{ForSome}
use Rattle.px_base.specs.declared.c_types.Schedule.TheVariants.{Guided}
use Rattle.px_model.specs.Chunks.{chunk_table}
use Rattle.px_model.specs.Partition.{Partition}
use Rattle.px_chunks.specs.Starts.{starts_from}

-- a loop within the limits, and under a guided schedule the first places of its chunks
pub record IsStored (p : Partition) (kept : List ℕ) : Type 0 where
  pub few_iterations : p.count ≤ 16777216
  pub some_members : 1 ≤ p.members
  pub few_members : p.members ≤ 64
  pub some_size : ForSome p.size (λ size. 1 ≤ size)
  pub starts : p.schedule ≡ Guided → kept ≡ starts_from 0 (chunk_table p)
