-- The table of chunks of a parallel loop (Cython user guide, Using Parallelism: `schedule` and `chunksize`; what the guide
-- leaves to the implementation are this language's own numbers). A chunk is some iterations in a row.
use Rattle.std.specs.Prelude.{ℕ, zero, suc, ◌+◌, ◌-◌, ◌/◌, ◌%◌, min, max, sum, length, List, [], ◌∷◌, ◌++◌, take, replicate, slice_index, unwrap_or, Option, Some, None}
use Rattle.std.specs.Int.{div_ceil}
use Rattle.std.specs.List.{flat_map, range_with_len}
use Rattle.px_base.specs.declared.c_types.Schedule.{Schedule}
use Rattle.px_base.specs.declared.c_types.Schedule.TheVariants.{Static, Dynamic, Guided}
use Rattle.px_model.specs.Partition.{Partition}

-- a block for each member, as far as there are iterations; the first n mod `members` of them are longer by one
abbrev pub even_blocks : ℕ → ℕ → List ℕ
even_blocks n members = replicate (n % members) (n / members + 1) ++ replicate (min n members - n % members) (n / members)

-- a shorter block for what is left
abbrev pub last_block : ℕ → List ℕ
last_block zero = []
last_block (suc n) = suc n ∷ []

-- blocks of this size, the last one shorter
abbrev pub blocks_of : ℕ → ℕ → List ℕ
blocks_of size n = replicate (n / size) size ++ last_block (n % size)

-- the next block where `rest` iterations are left: one member's share of them, but at least `least`
abbrev pub guided_block : ℕ → ℕ → ℕ → ℕ
guided_block members least rest = min rest (max least (div_ceil rest members))

-- the blocks for what is left, as long as something is; each holds an iteration, so there are no more than iterations
unfoldable pub guided_blocks : ℕ → ℕ → ℕ → ℕ → List ℕ
guided_blocks members least zero rest = []
guided_blocks members least (suc most) zero = []
guided_blocks members least (suc most) (suc rest) =
    guided_block members least (suc rest)
    ∷ guided_blocks members least most (suc rest - guided_block members least (suc rest))

-- how many iterations each chunk has, by its number
abbrev pub lengths_of : ℕ → ℕ → Schedule → Option ℕ → List ℕ
lengths_of n members Static None = even_blocks n members
lengths_of n members Static (Some size) = blocks_of size n
lengths_of n members Dynamic size = blocks_of (unwrap_or size 1) n
lengths_of n members Guided size = guided_blocks members (unwrap_or size 1) n n

-- the table: the number of iterations of each chunk
unfoldable pub chunk_table : Partition → List ℕ
chunk_table p = lengths_of p.count p.members p.schedule p.size

-- the place of a chunk's first iteration, which is how many iterations stand in the chunks before it
abbrev pub first_place : List ℕ → ℕ → ℕ
first_place table k = sum (take k table)

-- a chunk: its first place and its count
abbrev pub chunk_at : List ℕ → ℕ → ℕ × ℕ
chunk_at table k = (first_place table k, slice_index table k)

-- the places of the iterations that the chunks hold, chunk after chunk
abbrev pub places_held : List ℕ → List ℕ
places_held table = flat_map (λ k. range_with_len (first_place table k) (slice_index table k)) (range_with_len 0 (length table))

-- the member that owns a chunk; chunks of the other schedules are taken on request
abbrev pub owner_of : ℕ → Schedule → Option ℕ → ℕ → Option ℕ
owner_of members Static None k = Some k
owner_of members Static (Some size) k = Some (k % members)
owner_of members Dynamic size k = None
owner_of members Guided size k = None

abbrev pub chunk_owner : Partition → ℕ → Option ℕ
chunk_owner p k = owner_of p.members p.schedule p.size k
