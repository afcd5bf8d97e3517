-- Journals in which nothing stopped: all iterations ran, each once.
use Rattle.std.proofs.Common.{◌≡◌, ◌<◌, ◌≤◌, inl, inr, ⊎_elim, ℕ, zero, suc, ◌+◌, ◌-◌, ◌*◌, ◌/◌, ◌%◌, min, List, [], ◌∷◌, ◌++◌, take, replicate, Option, Some, None, refl, subst, ap, ◌∙◌, arith}
use Rattle.std.specs.Prelude.{sum, slice_get, slice_index, Contains, unwrap_or, ◌==◌, true, cond}
use Rattle.std.specs.List.{flat_map, range_with_len}
use Rattle.std.proofs.lemmas.List.Sums.{sum_by-cons, sum_by-append}
use Rattle.std.proofs.lemmas.List.Folds.{sum_by-replicate}
use Rattle.std.proofs.lemmas.Nat.{div-add-mod', mod_below}
use Rattle.std.proofs.lemmas.Bool.{cases_lt}
use Rattle.std.proofs.Math.Nat.{div-eq_of_lt, add-mul, mul-suc, mul_comm}
use Rattle.px_base.specs.declared.c_types.Schedule.{Schedule}
use Rattle.px_base.specs.declared.c_types.Schedule.TheVariants.{Static, Dynamic, Guided}
use Rattle.px_model.specs.Partition.{Partition}
use Rattle.px_model.specs.Chunks.{even_blocks, last_block, blocks_of, guided_block, guided_blocks, lengths_of, chunk_table, first_place}
use Rattle.px_model.specs.declared.journals.Ran.{Ran}
use Rattle.px_model.specs.declared.journals.Journal.{Journal}
use Rattle.px_meaning.specs.Journals.{Running, IsTaken, Lawful, times_at, places_of, places_ran}
use Rattle.px_meaning.specs.Laws.{UnstoppedJournalsAreWhole}

-- The table holds no more iterations than there are

sum-cons : (x : ℕ) (xs : List ℕ) → sum (x ∷ xs) ≡ x + sum xs
sum-cons x xs = sum_by-cons (λ y. y) x xs

sum-append : (xs ys : List ℕ) → sum (xs ++ ys) ≡ sum xs + sum ys
sum-append xs ys = sum_by-append (λ x. x) xs ys

sum-replicate : (n x : ℕ) → sum (replicate n x) ≡ n * x
sum-replicate n x = sum_by-replicate (λ y. y) n x

-- r blocks that are longer by one, and so many others
shares : (r k j q : ℕ) → k ≡ r + j → r * (q + 1) + j * q ≡ k * q + r
shares r k j q e = omega (arith, ap (λ m. m * q) e, add-mul r j q, mul-suc r q)

even_total : (n T q r : ℕ) → q * T + r ≡ n → r < T → (n < T → q ≡ 0) → r * (q + 1) + (min n T - r) * q ≡ n
even_total n T q r e below few = elim (cases_lt n T) [
  | inl less ↦ let none : q ≡ 0 = few less in let all : 0 * T + r ≡ n = rw none at e in rw none (omega (arith, all))
  | inr more ↦ shares r T (min n T - r) q (omega arith) ∙ omega (arith, e, mul_comm T q)
]

even_sum : (n T : ℕ) → 0 < T → sum (even_blocks n T) ≡ n
even_sum n T h =
    sum-append (replicate (n % T) (n / T + 1)) (replicate (min n T - n % T) (n / T))
    ∙ ap (λ m. m + sum (replicate (min n T - n % T) (n / T))) (sum-replicate (n % T) (n / T + 1))
    ∙ ap (λ m. n % T * (n / T + 1) + m) (sum-replicate (min n T - n % T) (n / T))
    ∙ even_total n T (n / T) (n % T) (div-add-mod' n T) (mod_below n T h) (λ less. div-eq_of_lt less)

last_sum : (n : ℕ) → sum (last_block n) ≡ n
last_sum zero = refl
last_sum (suc n) = omega (arith, sum-cons (suc n) [])

block_sum : (n size : ℕ) → sum (blocks_of size n) ≡ n
block_sum n size =
    sum-append (replicate (n / size) size) (last_block (n % size))
    ∙ ap (λ m. m + sum (last_block (n % size))) (sum-replicate (n / size) size)
    ∙ ap (λ m. n / size * size + m) (last_sum (n % size))
    ∙ div-add-mod' n size

guided_within : (members least most rest : ℕ) → sum (guided_blocks members least most rest) ≤ rest
unfolding guided_blocks
guided_within members least zero rest = omega arith
guided_within members least (suc most) zero = omega arith
guided_within members least (suc most) (suc rest) =
    let block : ℕ = guided_block members least (suc rest) in
    let few : block ≤ suc rest = omega arith in
    omega (
      arith,
      few,
      sum-cons block (guided_blocks members least most (suc rest - block)),
      guided_within members least most
          (suc rest - block),
    )

lengths_within : (n members : ℕ) (schedule : Schedule) (size : Option ℕ) → 0 < members → sum (lengths_of n members schedule size) ≤ n
lengths_within n members Static None some_member = omega (arith, even_sum n members some_member)
lengths_within n members Static (Some size) some_member = omega (arith, block_sum n size)
lengths_within n members Dynamic size some_member = omega (arith, block_sum n (unwrap_or size 1))
lengths_within n members Guided size some_member = guided_within members (unwrap_or size 1) n n

table_within : (p : Partition) → 0 < p.members → sum (chunk_table p) ≤ p.count
unfolding chunk_table
table_within p some_member = lengths_within p.count p.members p.schedule p.size some_member

-- Chunks stand one behind another

first_nothing : (k : ℕ) → first_place [] k ≡ 0
first_nothing zero = refl
first_nothing (suc k) = refl

chunk_before : (table : List ℕ) (j k : ℕ) → j < k → first_place table j + slice_index table j ≤ first_place table k
chunk_before [] j k lt = omega (arith, first_nothing j, first_nothing k)
chunk_before (x ∷ xs) zero zero lt = absurd (omega (arith, lt))
chunk_before (x ∷ xs) zero (suc k) lt = omega (arith, sum-cons x (take k xs))
chunk_before (x ∷ xs) (suc j) zero lt = absurd (omega (arith, lt))
chunk_before (x ∷ xs) (suc j) (suc k) lt =
    omega (arith, sum-cons x (take j xs), sum-cons x (take k xs), chunk_before xs j k (omega (arith, lt)))

chunks_rise : (table : List ℕ) (j k : ℕ) → j ≤ k → first_place table j ≤ first_place table k
chunks_rise table j k le =
    ⊎_elim (λ lt. omega (arith, chunk_before table j k lt)) (λ ge. let same : j ≡ k = omega (arith, le, ge) in omega
    (ap (first_place table) same, arith)) (cases_lt j k)

first_within : (table : List ℕ) (k : ℕ) → first_place table k ≤ sum table
first_within [] k = omega (arith, first_nothing k)
first_within (x ∷ xs) zero = omega arith
first_within (x ∷ xs) (suc k) = omega (arith, sum-cons x (take k xs), sum-cons x xs, first_within xs k)

-- Places that rise, from one on and below another

abbrev pub Between : ℕ → List ℕ → ℕ → Type 0
Between a [] b = a ≤ b
Between a (x ∷ xs) b = (a ≤ x) × Between (suc x) xs b

between_le : (a : ℕ) (xs : List ℕ) (b : ℕ) → Between a xs b → a ≤ b
between_le a [] b h = h
between_le a (x ∷ xs) b h = omega (arith, h.0, between_le (suc x) xs b h.1)

from_lower : (a c : ℕ) (xs : List ℕ) (b : ℕ) → a ≤ c → Between c xs b → Between a xs b
from_lower a c [] b le h = omega (arith, le, h)
from_lower a c (x ∷ xs) b le h = (omega (arith, le, h.0), h.1)

to_higher : (a : ℕ) (xs : List ℕ) (b c : ℕ) → b ≤ c → Between a xs b → Between a xs c
to_higher a [] b c le h = omega (arith, le, h)
to_higher a (x ∷ xs) b c le h = (h.0, to_higher (suc x) xs b c le h.1)

-- a row of places, and more behind it
range_first : (a n c : ℕ) (xs : List ℕ) (b : ℕ) → a + n ≤ c → Between c xs b → Between a (range_with_len a n ++ xs) b
range_first a zero c xs b le h = from_lower a c xs b (omega (arith, le)) h
range_first a (suc n) c xs b le h = (
  omega arith,
  from_lower (suc a) (a + 1) (range_with_len (a + 1) n ++ xs) b (omega arith)
      (range_first (a + 1) n c xs b (omega (arith, le)) h),
)

found_later : {X : Type 0} (y : X) (xs : List X) (x : X) → Contains xs x → Contains (y ∷ xs) x
found_later y xs x (i, within, is) = (suc i, omega (arith, within), is)

none_below : (a : ℕ) (xs : List ℕ) (b k : ℕ) → Between a xs b → k < a → Contains xs k → ⊥
none_below a [] b k h lt (i, within, is) = omega (arith, within)
none_below a (x ∷ xs) b k h lt (zero, within, is) = omega (arith, h.0, lt, is)
none_below a (x ∷ xs) b k h lt (suc i, within, is) = none_below (suc x) xs b k h.1 (omega (arith, h.0, lt)) (i, omega (arith, within), is)

pub below_end : (a : ℕ) (xs : List ℕ) (b k : ℕ) → Between a xs b → Contains xs k → k < b
below_end a [] b k h (i, within, is) = absurd (omega (arith, within))
below_end a (x ∷ xs) b k h (zero, within, is) = omega (arith, is, between_le (suc x) xs b h.1)
below_end a (x ∷ xs) b k h (suc i, within, is) = below_end (suc x) xs b k h.1 (i, omega (arith, within), is)

-- a place stands where it is the first one
pub counted_first : (place : ℕ) (places : List ℕ) → 0 < times_at (place ∷ places) place
counted_first place places =
    let itself : (place == place) ≡ true = grind (arith, Rattle.std.proofs.lemmas.Bool.Decides.nat_tests) in
    omega (arith, sum_by-cons (λ x. cond (x == place) 1 0) place places, ap {B = ℕ} (λ b. cond b 1 0) itself)

-- where all places of a row stand there, the row is all that stands there
first_is : (a x : ℕ) (xs : List ℕ) (b : ℕ) → Between (suc x) xs b → a ≤ x → Contains (x ∷ xs) a → x ≡ a
first_is a x xs b h le (zero, within, is) = is
first_is a x xs b h le (suc i, within, is) = absurd (none_below (suc x) xs b a h (omega (arith, le)) (i, omega (arith, within), is))

behind_first : (a x : ℕ) (xs : List ℕ) (k : ℕ) → x ≡ a → a < k → Contains (x ∷ xs) k → Contains xs k
behind_first a x xs k same lt (zero, within, is) = absurd (omega (arith, same, lt, is))
behind_first a x xs k same lt (suc i, within, is) = (i, omega (arith, within), is)

is_row : (n a : ℕ) (xs : List ℕ) → Between a xs (a + n) → ((k : ℕ) → a ≤ k → k < a + n → Contains xs k) → xs ≡ range_with_len a n
is_row zero a [] h all = refl
is_row zero a (x ∷ xs) h all = absurd (omega (arith, h.0, between_le (suc x) xs (a + zero) h.1))
is_row (suc n) a [] h all = absurd (none_in (all a (omega arith) (omega arith)))
  where
    none_in : Contains [] a → ⊥
    none_in (i, within, is) = omega (arith, within)
is_row (suc n) a (x ∷ xs) h all =
    let same : x ≡ a = first_is a x xs (a + suc n) h.1 h.0 (all a (omega arith) (omega arith)) in
    let longer : a + suc n ≡ a + 1 + n = omega arith in
    let next : suc x ≡ a + 1 = omega (arith, same) in
    ap (λ y. y ∷ xs) same
    ∙ ap (λ ys. a ∷ ys) (is_row n (a + 1) xs (subst (λ b. Between (a + 1) xs b) longer (subst (λ c. Between c xs (a + suc n)) next h.1))
    (λ k le lt. behind_first a x xs k same (omega (arith, le)) (all k (omega (arith, le)) (omega (arith, lt)))))

-- Taken chunks, by rising number

abbrev RunsRise : ℕ → List Ran → Type 0
RunsRise c [] = Unit {0}
RunsRise c (run ∷ runs) = (c ≤ run.chunk) × RunsRise (suc run.chunk) runs

runs_rise : (runs : List Ran) (c : ℕ) → ((k : ℕ) (run : Ran) → slice_get runs k ≡ Some run → c ≤ run.chunk)
    → ((j k : ℕ) (one other : Ran) → slice_get runs j ≡ Some one → slice_get runs k ≡ Some other → j < k → one.chunk < other.chunk)
    → RunsRise c runs
runs_rise [] c least rising = tt
runs_rise (run ∷ runs) c least rising = (
  least 0 run refl,
  runs_rise runs (suc run.chunk) (λ k other is. omega (arith, rising 0 (suc k) run other refl is (omega arith)))
      (λ j k one other a b lt. rising (suc j) (suc k) one other a b (omega (arith, lt))),
)

places_between : (table : List ℕ) (runs : List Ran) (c : ℕ) → RunsRise c runs
    → ((run : Ran) → Contains runs run → run.ran ≤ slice_index table run.chunk)
    → Between (first_place table c) (flat_map (places_of table) runs) (sum table)
places_between table [] c rise fits = first_within table c
places_between table (run ∷ runs) c rise fits =
    let here : run.ran ≤ slice_index table run.chunk = fits run (0, omega arith, refl) in
    let next : first_place table run.chunk + slice_index table run.chunk ≤ first_place table (suc run.chunk) =
    chunk_before table run.chunk (suc run.chunk) (omega arith) in
    from_lower (first_place table c) (first_place table run.chunk) _ (sum table) (chunks_rise table c run.chunk rise.0)
    (range_first (first_place table run.chunk) run.ran (first_place table (suc run.chunk)) (flat_map (places_of table) runs) (sum table)
    (omega (arith, here, next)) (places_between table runs (suc run.chunk) rise.1 (λ other h. fits other (found_later run runs other h))))

-- Lawful journals

some_member : {p : Partition} {run : Ran} → IsTaken p run → 0 < p.members
some_member taken = omega (arith, taken.member)

-- the places that ran, where the table holds no more than there are
lawful_between : (l : Running) (journal : Journal) → Lawful l journal → sum (chunk_table l.entry.partition) ≤ l.entry.partition.count
    → Between 0 (places_ran l.entry.partition journal) l.entry.partition.count
lawful_between l journal lawful few =
    let table : List ℕ = chunk_table l.entry.partition in
    to_higher 0 (places_ran l.entry.partition journal) (sum table) l.entry.partition.count few
    (places_between table journal.ran 0 (runs_rise journal.ran 0 (λ k run is. omega arith) lawful.rising)
    (λ run h. (lawful.taken run h).ran))

pub places_within : (l : Running) (journal : Journal) → Lawful l journal
    → Between 0 (places_ran l.entry.partition journal) l.entry.partition.count
places_within l journal lawful = by journal.ran refl
  where
    by : (runs : List Ran) → runs ≡ journal.ran → Between 0 (places_ran l.entry.partition journal) l.entry.partition.count
    by [] is = subst (λ rs. Between 0 (flat_map (places_of (chunk_table l.entry.partition)) rs) l.entry.partition.count) is (omega arith)
    by (run ∷ runs) is =
        lawful_between l journal lawful
        (table_within l.entry.partition (some_member (lawful.taken run (subst (λ rs. Contains rs run) is (0, omega arith, refl)))))

pub unstopped_are_whole : UnstoppedJournalsAreWhole
unstopped_are_whole l journal lawful unstopped =
    let count : ℕ = l.entry.partition.count in
    let from_zero : count ≡ 0 + count = omega arith in
    is_row count 0 (places_ran l.entry.partition journal)
    (subst (λ b. Between 0 (places_ran l.entry.partition journal) b) from_zero (places_within l journal lawful))
    (λ k le lt. (lawful.not_stopped unstopped k (omega (arith, lt))).0)
