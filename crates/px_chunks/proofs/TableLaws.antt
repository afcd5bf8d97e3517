-- What holds of the whole table, by its cases.
use Rattle.std.proofs.Common.{◌≡◌, ℕ, ◌+◌, ◌-◌, ◌<◌, ◌≤◌, min, List, length, get_or, take, refl, ◌∙◌, ap, arith, Option, Some, None}
use Rattle.std.specs.Prelude.{sum, unwrap_or, IsSomeAnd}
use Rattle.std.specs.Int.{div_ceil}
use Rattle.std.specs.List.{range_with_len}
use Rattle.std.specs.Option.{ForSome}
use Rattle.std.proofs.lemmas.Nat.{mod_below}
use Rattle.px_base.specs.declared.c_types.Schedule.{Schedule}
use Rattle.px_base.specs.declared.c_types.Schedule.TheVariants.{Static, Dynamic, Guided}
use Rattle.px_model.specs.Chunks.{chunk_owner, chunk_table, first_place, guided_block, guided_blocks, lengths_of, places_held}
use Rattle.px_model.specs.Partition.{partition}
use Rattle.px_chunks.proofs.Tables.{even_length, even_sum, even_each, block_length, block_sum, block_each, places_are, sum_more}
use Rattle.px_chunks.proofs.Guided.{guided_sum, guided_at, guided_left, guided_number, block_some, block_below}

-- a size that is given is at least 1, and so is the one that stands for none
pub size_some : (size : Option ℕ) → ForSome size (λ s. 1 ≤ s) → 0 < unwrap_or size 1
size_some None h = omega arith
size_some (Some s) h = h s refl

sum_of : (n members : ℕ) (schedule : Schedule) (size : Option ℕ) → 0 < members → ForSome size (λ s. 1 ≤ s) → sum (lengths_of n members schedule size) ≡ n
sum_of n members Static None h k = even_sum n members h
sum_of n members Static (Some s) h k = block_sum n s
sum_of n members Dynamic size h k = block_sum n (unwrap_or size 1)
sum_of n members Guided size h k = guided_sum members (unwrap_or size 1) (size_some size k) n n (omega arith)

pub table_sum : (n members : ℕ) (schedule : Schedule) (size : Option ℕ) → 0 < members → ForSome size (λ s. 1 ≤ s) → sum (chunk_table (partition n members schedule size)) ≡ n
unfolding chunk_table
table_sum n members schedule size h k = sum_of n members schedule size h k

pub held : (n members : ℕ) (schedule : Schedule) (size : Option ℕ) → 0 < members → ForSome size (λ s. 1 ≤ s)
    → places_held (chunk_table (partition n members schedule size)) ≡ range_with_len 0 n
unfolding chunk_table
held n members schedule size h k =
    places_are (lengths_of n members schedule size) ∙ ap (range_with_len 0) (sum_of n members schedule size h k)

each_of : (n members : ℕ) (schedule : Schedule) (size : Option ℕ) → 0 < members → ForSome size (λ s. 1 ≤ s)
    → (k : ℕ) → k < length (lengths_of n members schedule size) → 1 ≤ get_or (lengths_of n members schedule size) k 0
each_of n members Static None h p k within = even_each n members k h within
each_of n members Static (Some s) h p k within = block_each n s k (size_some (Some s) p) within
each_of n members Dynamic size h p k within = block_each n (unwrap_or size 1) k (size_some size p) within
each_of n members Guided size h p k within =
    let some : 0 < unwrap_or size 1 = size_some size p in
    let left = guided_left members (unwrap_or size 1) some n n k (omega arith) within in
    let rest : ℕ = n - sum (take k (guided_blocks members (unwrap_or size 1) n n)) in
    let full = block_some members (unwrap_or size 1) some rest (omega arith) in
    let is = guided_at members (unwrap_or size 1) some n n k (omega arith) within in
    omega (arith, is, full.0)

pub each : (n members : ℕ) (schedule : Schedule) (size : Option ℕ) → 0 < members → ForSome size (λ s. 1 ≤ s)
    → (k : ℕ) → k < length (chunk_table (partition n members schedule size)) → 1 ≤ get_or (chunk_table (partition n members schedule size)) k 0
unfolding chunk_table
each n members schedule size h p k within = each_of n members schedule size h p k within

pub even_number : (n members : ℕ) → 0 < members → length (chunk_table (partition n members Static None)) ≡ min n members
unfolding chunk_table
even_number n members h = even_length n members h

pub sized_number : (n members s : ℕ) → length (chunk_table (partition n members Static (Some s))) ≡ div_ceil n s
unfolding chunk_table
sized_number n members s = block_length n s

pub dynamic_number : (n members : ℕ) (size : Option ℕ) → length (chunk_table (partition n members Dynamic size)) ≡ div_ceil n (unwrap_or size 1)
unfolding chunk_table
dynamic_number n members size = block_length n (unwrap_or size 1)

pub guided_few : (n members : ℕ) (size : Option ℕ) → ForSome size (λ s. 1 ≤ s) → length (chunk_table (partition n members Guided size)) ≤ div_ceil n (unwrap_or size 1)
unfolding chunk_table
guided_few n members size p = guided_number members (unwrap_or size 1) (size_some size p) n n (omega arith)

pub owned : (n members : ℕ) (size : Option ℕ) (k : ℕ) → 0 < members → k < length (chunk_table (partition n members Static size))
    → IsSomeAnd (chunk_owner (partition n members Static size) k) (λ member. member < members)
unfolding chunk_table
owned n members None k h within = omega (arith, even_length n members h)
owned n members (Some s) k h within = mod_below k members h

pub shared : (n members : ℕ) (size : Option ℕ) (k : ℕ) → ForSome size (λ s. 1 ≤ s) → k < length (chunk_table (partition n members Guided size))
    → get_or (chunk_table (partition n members Guided size)) k 0
    ≡ guided_block members (unwrap_or size 1) (n - first_place (chunk_table (partition n members Guided size)) k)
unfolding chunk_table
shared n members size k p within = guided_at members (unwrap_or size 1) (size_some size p) n n k (omega arith) within

pub never_grown : (n members : ℕ) (size : Option ℕ) (k : ℕ) → 0 < members → ForSome size (λ s. 1 ≤ s)
    → k + 1 < length (chunk_table (partition n members Guided size))
    → get_or (chunk_table (partition n members Guided size)) (k + 1) 0 ≤ get_or (chunk_table (partition n members Guided size)) k 0
never_grown n members size k h p within =
    let table : List ℕ = chunk_table (partition n members Guided size) in
    let here = shared n members size k p (omega arith) in
    let next = shared n members size (k + 1) p within in
    let more : first_place table k ≤ first_place table (k + 1) = omega (arith, sum_more table k (omega arith)) in
    let below = block_below members (unwrap_or size 1) (n - first_place table (k + 1)) (n - first_place table k) h (omega arith) in
    omega (arith, here, next, below)
